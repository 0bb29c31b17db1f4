-- What a call hands back once its board is checked. Assumes nothing.
use mathlib.Core.Path.{◌≡◌, sym, ap, ◌∙◌}
use mathlib.Core.Bool.{true, false, cond}
use mathlib.Core.List.{List, [], ◌∷◌}
use Prim.Native.Nat.{ℕ, suc, ◌+◌, ◌-◌, ◌<◌, ◌≤◌}
use native.Mathlib.Omega.{arith}
use borrow.Author.Tests.{lt-ltb, le-ltb}
use lib.Dec.{ltb}
use lib.ListN.{length}
use Rattle.stops.specs.Answer.{Answer, gives, stop, passing}
use Rattle.stops.specs.declared.Stop.TheVariants.{NoCell}
use Rattle.candidates.proofs.Tests.{by-test, cond-true, cond-false}
use Rattle.grid.specs.Fillings.{verified}
use Rattle.grid.specs.Lists.{range}
use Rattle.grid.proofs.Lists.{range-on, range-end}
use Rattle.steps.specs.Boards as S
use Rattle.steps.specs.Boards.{at, givens, is_open}
use Rattle.steps.specs.Calls.{check_of, Call, outcome, answer}
use Rattle.board.specs.Boards.{clue_count, cell_mask, none_empty, all_single, only_digits, verdict_of}
use Rattle.board.specs.declared.Verdict.TheVariants.{Finished, Open, Dead}

-- ---- what a call answers, by what the check answered
pub answers : (k : Call) (b : S.Board) {a : Answer (Unit {0})} → a ≡ check_of b → passing a (outcome k (givens b) b.masks) ≡ answer k b
unfolding answer
answers k b e = ap (λ (a : Answer (Unit {0})). passing a (outcome k (givens b) b.masks)) e

-- ---- clues counted

module _ (g : List ℕ) (i : ℕ) where
  pub count-on : i < 81 → clue_count g (range (81 - i) i) ≡ cond (is_open g i) (clue_count g (range (81 - (i + 1)) (i + 1))) (suc (clue_count g (range (81 - (i + 1)) (i + 1))))
  unfolding clue_count
  count-on h = ap (clue_count g) (range-on 81 i h)

  pub count-end : 81 ≤ i → clue_count g (range (81 - i) i) ≡ 0
  unfolding clue_count
  count-end h = ap (clue_count g) (range-end 81 i h)

pub clues-few : (g cs : List ℕ) → clue_count g cs ≤ length cs
unfolding clue_count
clues-few g [] = omega arith
clues-few g (c ∷ cs) =
    by-test (λ (n : ℕ). n ≤ suc (length cs)) (is_open g c) (clue_count g cs) (suc (clue_count g cs)) (λ t. omega (arith, clues-few g cs)) (λ t. omega (arith, clues-few g cs))

-- ---- one cell's mask

module _ (m : List ℕ) (c : ℕ) where
  pub cell_in : c < 81 → gives (at m c) ≡ cell_mask m c
  cell_in h = sym (cond-true (ltb c 81) (gives (at m c)) (stop (NoCell c)) (lt-ltb c 81 h))

  pub cell-past : 81 ≤ c → stop (NoCell c) ≡ cell_mask m c
  cell-past h = sym (cond-false (ltb c 81) (gives (at m c)) (stop (NoCell c)) (le-ltb c 81 h))

-- ---- the verdict

module _ (m : List ℕ) where
  pub is-dead : none_empty m ≡ false → Dead ≡ verdict_of m
  unfolding verdict_of
  is-dead e = sym (cond-false (none_empty m) (cond (all_single m) (cond (verified (only_digits m)) Finished Dead) Open) Dead e)

  module _ (e : none_empty m ≡ true) where
    some : verdict_of m ≡ cond (all_single m) (cond (verified (only_digits m)) Finished Dead) Open
    unfolding verdict_of
    some = cond-true (none_empty m) (cond (all_single m) (cond (verified (only_digits m)) Finished Dead) Open) Dead e

    pub is_open_lem : all_single m ≡ false → Open ≡ verdict_of m
    is_open_lem t = sym (some ∙ cond-false (all_single m) (cond (verified (only_digits m)) Finished Dead) Open t)

    -- each cell holds one digit: the verifier decides
    pub is-full : all_single m ≡ true → verdict_of m ≡ cond (verified (only_digits m)) Finished Dead
    is-full t = some ∙ cond-true (all_single m) (cond (verified (only_digits m)) Finished Dead) Open t
