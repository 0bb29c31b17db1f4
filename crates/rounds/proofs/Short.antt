-- How long an output line is: each has room in 256 bytes. Assumes nothing.
use mathlib.Core.Path.{◌≡◌}
use mathlib.Core.Bool.{Bool, true, false, cond}
use mathlib.Core.List.{List, [], ◌∷◌, ◌++◌}
use mathlib.Core.Option.{Option, none, some}
use Prim.Native.Nat.{ℕ, ◌+◌, ◌-◌, ◌≤◌}
use native.Mathlib.Nat.{min-le_left}
use native.Mathlib.Omega.{arith}
use borrow.Author.Tests.{eqb-true}
use lib.Dec.{eqb}
use lib.IntN.{ℤ, pos}
use lib.ListN.{length, get_or, take, length-append, length-take}
use Rattle.stops.specs.Answer.{Answer, gives, stop, passing, stop_at}
use Rattle.stops.specs.declared.Stop.TheVariants.{TextLength, OtherByte, NoOpenCell}
use Rattle.candidates.proofs.Tests.{by-test}
use Rattle.grid.specs.Cells.{cells}
use Rattle.grid.specs.Fillings.{verified}
use Rattle.steps.specs.Boards.{Givens, givens_of, fresh}
use Rattle.steps.specs.Difficulty.{Figure, open_cells, points_of, pass_counts, figure_of}
use Rattle.steps.proofs.Check.{clues-givens}
use Rattle.steps.proofs.Loops.{first_by, in-up_to}
use Rattle.text.specs.Texts.{is_other, first_other, clues_of, parse_of}
use Rattle.difficulty.specs.code.Rates.{rate_of}
use Rattle.difficulty.proofs.Figures.{Small, small_of, points-few, cells-few}
use Rattle.output.specs.Decimals.{decimal}
use Rattle.output.proofs.Decimals.{decimal-few}
use Rattle.card.specs.Cards.{card_for, verdict_word}
use Rattle.card.proofs.Cards.{read-few, word-few, refusal-short}
use Rattle.rounds.specs.declared.answers.Checked.{Checked}
use Rattle.rounds.specs.declared.answers.Checked.TheVariants.{Wrong}
use Rattle.rounds.specs.Lines.{bare_length, bare}
use Rattle.rounds.specs.Answers.{is_broken, is_full, first_broken, judged, check_of}
use Rattle.rounds.specs.Rounds.{Outcome, handed_on, refused, field, figure_bytes, check_bytes, score_bytes, outcome_bytes}
use Rattle.rounds.specs.Summaries.{top}
use Rattle.rounds.specs.code.Kept.{answer_after, read_outcome, scored_from, outcome_from}
use Rattle.rounds.specs.declared.cuts.State.{State}
use Rattle.rounds.specs.code.Cuts.{bare_grid, whole_of, done_bytes, is_begun, last_bytes}

field-length : (xs : List ℕ) → length (field xs) ≡ length xs + 1
unfolding field
field-length xs = length-append xs (32 ∷ [])

-- ---- the figure and the check

small_bytes : (f : Figure) → Small f → length (figure_bytes (gives f)) ≤ 12
unfolding figure_bytes
small_bytes f s =
    let q = decimal f.quotient in
    let r = decimal f.remainder in
    let n = decimal f.cells in
    omega (arith, length-append (q ++ (43 ∷ []) ++ r ++ (47 ∷ [])) n, length-append (q ++ (43 ∷ []) ++ r) (47 ∷ []), length-append (q ++ (43 ∷ [])) r, length-append q (43 ∷ []), decimal-few 3 f.quotient (omega (arith, s.quotient)), decimal-few 3 f.remainder (omega (arith, s.remainder)), decimal-few 1 f.cells (omega (arith, s.cells)))

rate-bytes : (g : List ℕ) → Givens g → length (figure_bytes (rate_of g)) ≤ 12
rate-bytes g ok =
    let p = points_of (pass_counts g (fresh g)) in
    by-test (λ (a : Answer Figure). length (figure_bytes a) ≤ 12) (eqb (open_cells g) 0) (stop NoOpenCell) (gives (figure_of p (open_cells g)))
    (λ t. unfold figure_bytes in omega arith) (λ t. small_bytes (figure_of p (open_cells g)) (small_of p (open_cells g) (points-few g ok) (cells-few g)))

module _ (grid : List ℕ) where
  judged-bytes : (answer : List ℕ) → length (check_bytes (judged (first_broken grid answer) (verified (clues_of answer)))) ≤ 7
  unfolding check_bytes cells
  judged-bytes answer = first_by (λ c. is_broken (get_or grid c 0) (get_or answer c 0)) (λ (o : Option ℕ). length (check_bytes (judged o (verified (clues_of answer)))) ≤ 7) cells
      (plain (verified (clues_of answer)))
      (λ c k. let few = in-up_to 81 c k in omega (arith, length-append (99 ∷ 108 ∷ 117 ∷ 101 ∷ 32 ∷ []) (decimal c), decimal-few 1 c (omega arith)))
    where
      plain : (t : Bool) → length (check_bytes (judged none t)) ≤ 7
      plain true = omega arith
      plain false = omega arith

  check-bytes : (a : Option (List ℕ)) → length (check_bytes (check_of grid a)) ≤ 7
  unfolding check_bytes
  check-bytes none = omega arith
  check-bytes (some answer) =
      by-test (λ (k : Checked). length (check_bytes k) ≤ 7) (is_full answer) (judged (first_broken grid answer) (verified (clues_of answer))) Wrong (λ t. judged-bytes answer) (λ t. omega arith)

-- ---- a grid's line

score-short : (z : List ℤ) (k : Checked) → length (check_bytes k) ≤ 7 → length (score_bytes (card_for z) (rate_of (givens_of z)) k) ≤ 256
unfolding score_bytes
score-short z k few =
    let c = card_for z in
    let n = read-few z in
    let a = field (decimal c.clues) in
    let b = field (decimal c.reported) in
    let d = field (decimal c.sweeps) in
    let e = field (decimal c.removed) in
    let f = field (verdict_word c.verdict) in
    let g = field (figure_bytes (rate_of (givens_of z))) in
    let h = check_bytes k in
    let p : length a ≤ 4 = omega (arith, field-length (decimal c.clues), decimal-few 2 c.clues n.clues) in
    let q : length b ≤ 4 = omega (arith, field-length (decimal c.reported), decimal-few 2 c.reported n.reported) in
    let r : length d ≤ 4 = omega (arith, field-length (decimal c.sweeps), decimal-few 2 c.sweeps n.sweeps) in
    let s : length e ≤ 4 = omega (arith, field-length (decimal c.removed), decimal-few 2 c.removed n.removed) in
    let t : length f ≤ 9 = omega (arith, field-length (verdict_word c.verdict), word-few c.verdict) in
    let u : length g ≤ 13 = omega (arith, field-length (figure_bytes (rate_of (givens_of z))), rate-bytes (givens_of z) (clues-givens z)) in
    omega (arith, length-append (a ++ b ++ d ++ e ++ f ++ g ++ h) (10 ∷ []), length-append (a ++ b ++ d ++ e ++ f ++ g) h, length-append (a ++ b ++ d ++ e ++ f) g, length-append (a ++ b ++ d ++ e) f, length-append (a ++ b ++ d) e, length-append (a ++ b) d, length-append a b)

read_short : (line t : List ℕ) (k : Checked) → length t ≤ 81 → length (check_bytes k) ≤ 7 → length (outcome_bytes line (read_outcome (parse_of t) k)) ≤ 256
unfolding parse_of cells
read_short line t k few check =
    by-test (λ (a : Answer (List ℤ)). length (outcome_bytes line (read_outcome a k)) ≤ 256) (eqb (length t) 81) (passing (stop_at OtherByte (first_other t)) (clues_of t)) (stop (TextLength (pos (length t))))
    (λ _. first_by (λ c. is_other (get_or t c 0)) (λ (o : Option ℕ). length (outcome_bytes line (read_outcome (passing (stop_at OtherByte o) (clues_of t)) k)) ≤ 256) cells
    (score-short (clues_of t) k check) (λ c m. let low = in-up_to 81 c m in refusal-short (OtherByte (pos c)) (omega arith) (omega arith)))
    (λ _. refusal-short (TextLength (pos (length t))) (omega arith) (omega arith))

-- ---- any line

-- a line that is handed on has a carriage return at most
bare-none : (line : List ℕ) → bare_length line ≡ 0 → length line ≤ 1
bare-none line = by-test (λ (n : ℕ). n ≡ 0 → length line ≤ 1) (eqb (get_or line (length line - 1) 0) 13) (length line - 1) (length line) (λ t e. omega arith) (λ t e. omega arith)

pub from-short : (kept : List ℕ) (whole : ℕ) → whole ≤ top → length (outcome_bytes kept (outcome_from kept whole)) ≤ 256
unfolding outcome_from
from-short kept whole most =
    by-test (λ (o : Outcome). length (outcome_bytes kept o) ≤ 256) (eqb (bare_length kept) 0) handed_on (cond (eqb whole 81) (scored_from (bare kept)) (refused (TextLength (pos whole))))
    (λ t. omega (arith, length-append kept (10 ∷ []), bare-none kept (eqb-true (bare_length kept) 0 t)))
    (λ t. by-test (λ (o : Outcome). length (outcome_bytes kept o) ≤ 256) (eqb whole 81) (scored_from (bare kept)) (refused (TextLength (pos whole)))
    (λ _. unfold scored_from in let text = bare kept in read_short kept (take 81 text) (check_of (take 81 text) (answer_after text)) (omega (arith, length-take 81 text)) (check-bytes (take 81 text) (answer_after text)))
    (λ _. refusal-short (TextLength (pos whole)) (omega arith) (omega arith)))

pub done-short : (s : State) → length (done_bytes s) ≤ 256
unfolding done_bytes whole_of
done-short s =
    let kept = take s.line.end s.kept in
    let whole = whole_of s.line in
    by-test (λ (bytes : List ℕ). length bytes ≤ 256) s.line.passed (10 ∷ []) (outcome_bytes kept (outcome_from kept whole)) (λ t. omega arith) (λ t. from-short kept whole (min-le_left top (bare_grid s.line)))

pub last-short : (s : State) → length (last_bytes s) ≤ 256
unfolding last_bytes
last-short s = by-test (λ (bytes : List ℕ). length bytes ≤ 256) (is_begun s.line) (done_bytes s) [] (λ _. done-short s) (λ _. omega arith)
