-- `cells::unions::unless_one` meets its contract. Assumes nothing.
use mathlib.Core.Path.{◌≡◌, refl, sym, ◌∙◌}
use mathlib.Core.Logic.{◌≢◌}
use Prim.Native.Nat.{ℕ, ◌^◌, ◌<◌}
use native.Mathlib.Decide.{dec_lt}
use native.Mathlib.Omega.{arith}
use borrow.Author.Tests.{eq-eqb, ne_eqb}
use lib.Dec.{eqb}
use Rattle.candidates.specs.Masks.{count, tail}
use Rattle.candidates.proofs.Counts.{test-one}
use Rattle.candidates.proofs.Tests.{by-test, cond-true, cond-false}
use Rattle.cells.specs.code.Unions.{several_in}
use Rattle.cells.proofs.unions.unless_one.Goals as goal

-- a mask without a second digit
none : (x : ℕ) → x < 2 ^ 16 → tail x ≡ 0 → 0 ≡ several_in x
none x h e = go (dec_lt 0 x)
  where
    go : Dec (0 < x) → 0 ≡ several_in x
    go (yes p) = sym (cond-true (eqb (count x) 1) 0 x (sym (test-one x p h) ∙ eq-eqb (tail x) 0 e))
    go (no p) = by-test (λ (y : ℕ). 0 ≡ y) (eqb (count x) 1) 0 x (λ t. refl) (λ t. omega arith)

-- one that has a second digit
some : (x : ℕ) → x < 2 ^ 16 → tail x ≢ 0 → x ≡ several_in x
some x h n = sym (cond-false (eqb (count x) 1) 0 x (sym (test-one x (omega arith) h) ∙ ne_eqb (tail x) 0 n))

pub returns-then-lose_lowest-eq0 : goal.returns-then-lose_lowest-eq0
returns-then-lose_lowest-eq0 c =
    none c.args.mask (omega arith) (sym c.lose_lowest.ensures ∙ c.if-lose_lowest-eq0.true)

pub returns : goal.returns
returns c =
    some c.args.mask (omega arith) (λ e. c.if-lose_lowest-eq0.false (c.lose_lowest.ensures ∙ e))
