-- `board::verdicts::verdict_of` meets its contract. The invariant: no cell was empty so far, `finished` says that each held one digit, and then `digits` has them. Assumes nothing.
use mathlib.Core.Path.{◌≡◌}
use mathlib.Core.Bool.{Bool, true, not, ◌&&◌}
use mathlib.Core.List.{List}
use Prim.Native.Nat.{ℕ, ◌-◌}
use lib.Dec.{eqb}
use lib.IntN.{ℤ}
use Rattle.candidates.specs.Masks.{low_nine, count}
use Rattle.candidates.specs.Sets.{only_of, digit_or0}
use Rattle.grid.specs.Lists.{range, all}
use Rattle.grid.proofs.Fills.{filled}
use Rattle.steps.specs.Boards.{at}
use Rattle.board.specs.Boards.{all_single, none_empty, only_digits}
use Rattle.board.proofs.verdicts.verdict_of.Given as goal

-- what the cells from i on still decide
pub record Left (m : List ℕ) (digits : List ℤ) (finished : Bool) (i : ℕ) : Type 0 where
  pub some : all (λ c. not (eqb (count (low_nine (at m c))) 0)) (range (81 - i) i) ≡ none_empty m
  pub one : (finished && all (λ c. eqb (count (low_nine (at m c))) 1) (range (81 - i) i)) ≡ all_single m
  pub full : finished ≡ true → filled (λ c. digit_or0 (only_of (at m c))) 81 i digits ≡ only_digits m

abbrev pub invariant-loop-cell : goal.invariant-loop-cell
invariant-loop-cell l = Left l.masks l.digits l.finished l.cell
