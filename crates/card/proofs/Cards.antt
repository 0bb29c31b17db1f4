-- How long a card and a refusal are: both have room in 256 bytes. Assumes nothing.
use mathlib.Core.Path.{◌≡◌}
use mathlib.Core.List.{List, [], ◌∷◌, ◌++◌}
use Prim.Native.Nat.{ℕ, suc, ◌+◌, ◌^◌, ◌≤◌, ◌<◌}
use native.Mathlib.Omega.{arith}
use lib.IntN.{ℤ, pos, negsuc}
use lib.ListN.{length, length-append}
use lib.Signed.{mag}
use Rattle.stops.specs.Stops.{row_of}
use Rattle.stops.specs.declared.Stop.{Stop}
use Rattle.grid.specs.Cells.{cells}
use Rattle.steps.specs.Boards.{givens_of, fresh}
use Rattle.steps.specs.Calls.{outcome}
use Rattle.steps.proofs.Check.{clues-givens}
use Rattle.steps.proofs.Fresh.{fresh-admissible, total-most}
use Rattle.steps.proofs.Lists.{settles}
use Rattle.board.specs.declared.Verdict.{Verdict}
use Rattle.board.specs.declared.Verdict.TheVariants as verdict
use Rattle.board.proofs.Answered.{clues-few}
use Rattle.techniques.proofs.ReportLists.{singles-few}
use Rattle.card.specs.declared.layout.Card.{Card}
use Rattle.card.specs.Cards.{card_for, card_bytes, verdict_word}
use Rattle.output.specs.Decimals.{decimal}
use Rattle.card.specs.Layout.{line_of, clues_label, reported_label, sweeps_label, removed_label, verdict_label, grid_label, grid_bytes, refused_label, signed, refusal_bytes}
use Rattle.output.proofs.Decimals.{decimal-few}

-- ---- how long a card is

pub line-length : (label rest : List ℕ) → length (line_of label rest) ≡ length label + length rest + 1
unfolding line_of
line-length label rest = omega (arith, length-append (label ++ rest) (10 ∷ []), length-append label rest)

pub word-few : (v : Verdict) → length (verdict_word v) ≤ 8
word-few verdict.Dead = omega arith
word-few verdict.Finished = omega arith
word-few verdict.Open = omega arith

-- the numbers of a card have three digits at most
pub record Few (c : Card) : Type 0 where
  pub clues : c.clues < 1000
  pub reported : c.reported < 1000
  pub sweeps : c.sweeps < 1000
  pub removed : c.removed < 1000

pub card-short : (c : Card) → Few c → length (card_bytes c) ≤ 256
unfolding card_bytes cells
card-short c few =
    let a = line_of clues_label (decimal c.clues) in
    let b = line_of reported_label (decimal c.reported) in
    let d = line_of sweeps_label (decimal c.sweeps) in
    let e = line_of removed_label (decimal c.removed) in
    let f = line_of verdict_label (verdict_word c.verdict) in
    let g = line_of grid_label (grid_bytes c.masks) in
    let p : length a ≤ 10 = omega (arith, line-length clues_label (decimal c.clues), decimal-few 2 c.clues few.clues) in
    let q : length b ≤ 13 = omega (arith, line-length reported_label (decimal c.reported), decimal-few 2 c.reported few.reported) in
    let r : length d ≤ 11 = omega (arith, line-length sweeps_label (decimal c.sweeps), decimal-few 2 c.sweeps few.sweeps) in
    let s : length e ≤ 12 = omega (arith, line-length removed_label (decimal c.removed), decimal-few 2 c.removed few.removed) in
    let t : length f ≤ 17 = omega (arith, line-length verdict_label (verdict_word c.verdict), word-few c.verdict) in
    let u : length g ≤ 87 = omega (arith, line-length grid_label (grid_bytes c.masks)) in
    omega (arith, length-append (a ++ b ++ d ++ e ++ f) g, length-append (a ++ b ++ d ++ e) f, length-append (a ++ b ++ d) e, length-append (a ++ b) d, length-append a b)

pub read-few : (z : List ℤ) → Few (card_for z)
unfolding card_for outcome cells
read-few z =
    let g = givens_of z in
    let a = fresh-admissible g in
    record {
      clues = omega (arith, clues-few g cells);
      reported = omega (arith, singles-few g (fresh g));
      sweeps = omega (arith, (settles g (fresh g) (clues-givens z) a).most);
      removed = omega (arith, total-most g (fresh g) (clues-givens z) a);
    }

pub read_short : (z : List ℤ) → length (card_bytes (card_for z)) ≤ 256
read_short z = card-short (card_for z) (read-few z)

-- ---- how long a refusal is

signed-few : (z : ℤ) → mag z < 2 ^ 63 → length (signed z) ≤ 20
signed-few (pos n) h = omega (arith, decimal-few 18 n (omega arith))
signed-few (negsuc n) h = omega (arith, decimal-few 18 (suc n) (omega arith))

pub refusal-short : (s : Stop) → (row_of s).number < 1000 → mag (row_of s).detail < 2 ^ 63 → length (refusal_bytes s) ≤ 256
unfolding refusal_bytes
refusal-short s h k =
    let number = decimal (row_of s).number in
    let detail = signed (row_of s).detail in
    omega (arith, length-append (refused_label ++ number) (line_of (32 ∷ []) detail), length-append refused_label number, line-length (32 ∷ []) detail, decimal-few 2 (row_of s).number h, signed-few (row_of s).detail k)
