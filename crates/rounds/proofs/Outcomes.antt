-- A line's first 256 bytes and the length of its grid say what comes of it. Assumes nothing.
use mathlib.Core.Path.{◌≡◌, refl, sym, ap, ap₂, ◌∙◌}
use mathlib.Core.Bool.{Bool, true, false, cond, ◌||◌}
use mathlib.Core.List.{List, [], ◌∷◌}
use mathlib.Core.Option.{Option, none, some}
use mathlib.Core.Logic.{◌≢◌}
use Prim.Native.Nat.{ℕ, suc, ◌-◌, ◌≤◌, ◌<◌}
use native.Mathlib.Decide.{dec_le, dec_lt, ℕ_discrete}
use native.Mathlib.Omega.{arith}
use borrow.Author.Tests.{eq-eqb, ne_eqb, lt-ltb, le-ltb}
use lib.Dec.{eqb, ltb}
use lib.IntN.{ℤ, pos}
use lib.ListN.{length, get_or, take, drop, length-drop}
use lib.Seq.{take_all, take-take, length-take-le}
use Rattle.stops.specs.Answer.{Answer, gives, stop}
use Rattle.stops.specs.declared.Stop.TheVariants.{TextLength}
use Rattle.candidates.proofs.Tests.{by-test, cond-true, cond-false}
use Rattle.grid.specs.Fillings.{verified}
use Rattle.steps.specs.Boards.{givens_of}
use Rattle.steps.specs.Calls.{opened, opened_with}
use Rattle.steps.specs.Difficulty.{Figure, difficulty_of}
use Rattle.steps.proofs.Entries.{givens-none}
use Rattle.steps.proofs.Lists.{opened-taken}
use Rattle.text.specs.Texts.{clues_of, parse_of}
use Rattle.text.proofs.Readings.{read-clues}
use Rattle.text.proofs.Texts.{wrong-length}
use Rattle.difficulty.specs.code.Rates.{rate_of}
use Rattle.difficulty.proofs.Figures.{rated}
use Rattle.card.specs.Cards.{card_for}
use Rattle.rounds.specs.declared.answers.Checked.{Checked}
use Rattle.rounds.specs.declared.answers.Checked.TheVariants.{Wrong}
use Rattle.rounds.specs.Lines.{bare_length, bare, is_separator, grid_in, answer_in}
use Rattle.rounds.specs.Answers.{is_full, first_broken, judged, check_of}
use Rattle.rounds.specs.Rounds.{Outcome, handed_on, refused, scored, grid_outcome, text_outcome, outcome_of, outcome_bytes}
use Rattle.rounds.specs.code.Kept.{answer_after, read_outcome, scored_from, outcome_from}

-- ---- the parts of a text by the length of its grid

grid-take : (t : List ℕ) → grid_in t ≡ take (length (grid_in t)) t
unfolding grid_in
grid-take [] = refl
grid-take (b ∷ bs) =
    by-test (λ (k : List ℕ). k ≡ take (length k) (b ∷ bs)) (is_separator b) [] (b ∷ grid_in bs) (λ t. refl) (λ t. ap (λ (l : List ℕ). b ∷ l) (grid-take bs))

abbrev after : ℕ → List ℕ → Option (List ℕ)
after n t = cond (ltb n (length t)) (some (drop (suc n) t)) none

ltb-suc : (n m : ℕ) → ltb n m ≡ ltb (suc n) (suc m)
ltb-suc n m = go (dec_lt n m)
  where
    go : Dec (n < m) → ltb n m ≡ ltb (suc n) (suc m)
    go (yes h) = lt-ltb n m h ∙ sym (lt-ltb (suc n) (suc m) (omega arith))
    go (no h) = le-ltb n m (omega arith) ∙ sym (le-ltb (suc n) (suc m) (omega arith))

answer-after : (t : List ℕ) → answer_in t ≡ after (length (grid_in t)) t
unfolding grid_in answer_in
answer-after [] = sym (cond-false (ltb 0 0) (some []) none (le-ltb 0 0 (omega arith)))
answer-after (b ∷ bs) = go (is_separator b) (answer-after bs)
  where
    n : ℕ
    n = length (grid_in bs)

    go : (s : Bool) → answer_in bs ≡ after n bs → cond s (some bs) (answer_in bs) ≡ after (length (cond s [] (b ∷ grid_in bs))) (b ∷ bs)
    go true more = sym (cond-true (ltb 0 (suc (length bs))) (some bs) none (lt-ltb 0 (suc (length bs)) (omega arith)))
    go false more = more ∙ ap (λ (t : Bool). cond t (some (drop (suc n) bs)) none) (ltb-suc n (length bs))

-- ---- the grid's difficulty

figure-is : (g : List ℕ) (z : List ℤ) → parse_of g ≡ gives z → difficulty_of (opened z) ≡ rate_of (givens_of z)
unfolding opened_with
figure-is g z e = sym (rated (opened z) (sym (opened-taken z (read-clues g z e)))) ∙ ap rate_of (givens-none z)

read_same : (g : List ℕ) (k : Checked) → read_outcome (parse_of g) k ≡ grid_outcome (parse_of g) k
read_same g k = go (parse_of g) refl
  where
    go : (a : Answer (List ℤ)) → parse_of g ≡ a → read_outcome a k ≡ grid_outcome a k
    go (gives z) e = ap (λ (f : Answer Figure). scored (card_for z) f k) (sym (figure-is g z e))
    go (stop s) e = refl

-- ---- a text, by the length of its grid

scored-is : (t : List ℕ) {g : List ℕ} {a : Option (List ℕ)} → take 81 t ≡ g → answer_after t ≡ a → scored_from t ≡ read_outcome (parse_of g) (check_of g a)
unfolding scored_from
scored-is t p q = ap₂ (λ (g : List ℕ) (a : Option (List ℕ)). read_outcome (parse_of g) (check_of g a)) p q

module _ (t : List ℕ) where
  abbrev n : ℕ
  n = length (grid_in t)

  abbrev by_length : Outcome
  by_length = cond (eqb n 81) (scored_from t) (refused (TextLength (pos n)))

  text-is : by_length ≡ text_outcome t
  text-is = go (ℕ_discrete n 81)
    where
      go : Dec (n ≡ 81) → by_length ≡ text_outcome t
      go (yes e) =
          let grid : take 81 t ≡ grid_in t = sym (grid-take t ∙ ap (λ (k : ℕ). take k t) e) in
          let answer : answer_after t ≡ answer_in t = sym (answer-after t ∙ ap (λ (k : ℕ). after k t) e) in
          cond-true (eqb n 81) (scored_from t) (refused (TextLength (pos n))) (eq-eqb n 81 e)
          ∙ scored-is t grid answer
          ∙ read_same (grid_in t) (check_of (grid_in t) (answer_in t))
      go (no e) =
          cond-false (eqb n 81) (scored_from t) (refused (TextLength (pos n))) (ne_eqb n 81 e)
          ∙ ap (λ (a : Answer (List ℤ)). grid_outcome a (check_of (grid_in t) (answer_in t))) (wrong-length (grid_in t) e)

-- ---- a long line

-- an answer that is too long is wrong
too_long : (a : List ℕ) → length a ≢ 81 → is_full a ≡ false
unfolding is_full
too_long a n = rw (ne_eqb (length a) 81 n)

long-wrong : (grid t : List ℕ) → 163 < length t → check_of grid (answer_after t) ≡ Wrong
long-wrong grid t h =
    ap (check_of grid) (cond-true (ltb 81 (length t)) (some (drop 82 t)) none (lt-ltb 81 (length t) (omega arith)))
    ∙ cond-false (is_full (drop 82 t)) (judged (first_broken grid (drop 82 t)) (verified (clues_of (drop 82 t)))) Wrong (too_long (drop 82 t) (λ e. omega (arith, e, length-drop 82 t)))

long_same : (t u : List ℕ) → take 81 t ≡ take 81 u → 163 < length t → 163 < length u → scored_from t ≡ scored_from u
unfolding scored_from
long_same t u e h k =
    ap₂ (λ (g : List ℕ) (c : Checked). read_outcome (parse_of g) c) e (long-wrong (take 81 t) t h ∙ sym (long-wrong (take 81 u) u k))

bare-long : (l : List ℕ) (m : ℕ) → suc m ≤ length l → m ≤ bare_length l
bare-long l m h = by-test (λ (k : ℕ). m ≤ k) (eqb (get_or l (length l - 1) 0) 13) (length l - 1) (length l) (λ t. omega arith) (λ t. omega arith)

bare-most : (l : List ℕ) → bare_length l ≤ length l
bare-most l = by-test (λ (k : ℕ). k ≤ length l) (eqb (get_or l (length l - 1) 0) 13) (length l - 1) (length l) (λ t. omega arith) (λ t. omega arith)

-- ---- any line that does not begin with `#`

module _ (l : List ℕ) (plain : eqb (get_or l 0 0) 35 ≡ false) where
  abbrev w : ℕ
  w = length (grid_in (bare l))

  abbrev long : Outcome
  long = refused (TextLength (pos w))

  handed-or : (b : Bool) → b ≡ (b || eqb (get_or l 0 0) 35)
  handed-or true = refl
  handed-or false = sym plain

  line-is : cond (eqb (bare_length l) 0) handed_on (by_length (bare l)) ≡ outcome_of l
  unfolding outcome_of
  line-is = ap₂ (λ (t : Bool) (o : Outcome). cond t handed_on o) (handed-or (eqb (bare_length l) 0)) (text-is (bare l))

  pub from_is : outcome_from (take 256 l) w ≡ outcome_of l
  unfolding outcome_from
  from_is = go (dec_le (length l) 256)
    where
      go : Dec (length l ≤ 256) → outcome_from (take 256 l) w ≡ outcome_of l
      go (yes h) = ap (λ (k : List ℕ). cond (eqb (bare_length k) 0) handed_on (cond (eqb w 81) (scored_from (bare k)) long)) (take_all 256 l h) ∙ line-is
      go (no h) =
          let k = take 256 l in
          let size : length k ≡ 256 = length-take-le 256 l (omega arith) in
          let a : 255 ≤ bare_length k = bare-long k 255 (omega (arith, size)) in
          let b : 256 ≤ bare_length l = bare-long l 256 (omega arith) in
          let first : take 81 (bare k) ≡ take 81 (bare l) = take-take 81 (bare_length k) k (omega (arith, a)) ∙ take-take 81 256 l (omega arith) ∙ sym (take-take 81 (bare_length l) l (omega (arith, b))) in
          let same = long_same (bare k) (bare l) first (omega (arith, a, length-take-le (bare_length k) k (bare-most k))) (omega (arith, b, length-take-le (bare_length l) l (bare-most l))) in
          cond-false (eqb (bare_length k) 0) handed_on (cond (eqb w 81) (scored_from (bare k)) long) (ne_eqb (bare_length k) 0 (λ e. omega (arith, a, e)))
          ∙ ap (λ (o : Outcome). cond (eqb w 81) o long) same
          ∙ sym (cond-false (eqb (bare_length l) 0) handed_on (by_length (bare l)) (ne_eqb (bare_length l) 0 (λ e. omega (arith, b, e))))
          ∙ line-is

  -- of a long line nothing is handed on
  pub bytes-is : outcome_bytes (take 256 l) (outcome_of l) ≡ outcome_bytes l (outcome_of l)
  bytes-is = go (dec_le (length l) 256)
    where
      grid-bytes : (x y : List ℕ) (a : Answer (List ℤ)) (k : Checked) → outcome_bytes x (grid_outcome a k) ≡ outcome_bytes y (grid_outcome a k)
      grid-bytes x y (gives z) k = refl
      grid-bytes x y (stop s) k = refl

      go : Dec (length l ≤ 256) → outcome_bytes (take 256 l) (outcome_of l) ≡ outcome_bytes l (outcome_of l)
      go (yes h) = ap (λ (k : List ℕ). outcome_bytes k (outcome_of l)) (take_all 256 l h)
      go (no h) =
          let t = bare l in
          let b : 256 ≤ bare_length l = bare-long l 256 (omega arith) in
          let is : text_outcome t ≡ outcome_of l = sym (text-is t) ∙ sym (cond-false (eqb (bare_length l) 0) handed_on (by_length t) (ne_eqb (bare_length l) 0 (λ e. omega (arith, b, e)))) ∙ line-is in
          ap (outcome_bytes (take 256 l)) (sym is) ∙ grid-bytes (take 256 l) l (parse_of (grid_in t)) (check_of (grid_in t) (answer_in t)) ∙ ap (outcome_bytes l) is
