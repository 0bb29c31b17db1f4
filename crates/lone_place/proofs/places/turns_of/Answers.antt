-- `lone_place::places::turns_of` meets its contract. Assumes nothing.
use mathlib.Core.Path.{◌≡◌, sym, ◌∙◌}
use mathlib.Core.Bool.{cond}
use mathlib.Core.Logic.{◌≢◌}
use Prim.Native.Nat.{ℕ, ◌<◌}
use borrow.Author.Tests.{eq-eqb, ne_eqb}
use lib.Dec.{eqb}
use Rattle.candidates.specs.Masks.{count}
use Rattle.candidates.proofs.Tests.{cond-true, cond-false}
use Rattle.lone_place.specs.code.Due.{turns_of}
use Rattle.lone_place.proofs.PlaceSets.{turns-are}
use Rattle.lone_place.proofs.places.turns_of.Goals as goal

-- where a place holds the digit
some : (x : ℕ) → x < 512 → x ≢ 0 → turns_of x ≡ cond (eqb (count x) 1) x 0
some x h n = turns-are x h ∙ cond-false (eqb x 0) 511 (cond (eqb (count x) 1) x 0) (ne_eqb x 0 n)

pub returns-then-held-eq0 : goal.returns-then-held-eq0
returns-then-held-eq0 c =
    let x = c.args.held in
    sym (turns-are x c.requires ∙ cond-true (eqb x 0) 511 (cond (eqb (count x) 1) x 0) (eq-eqb x 0 c.if-held-eq0.true))

pub returns-then-is_one : goal.returns-then-is_one
returns-then-is_one c =
    let x = c.args.held in
    sym (some x c.requires c.if-held-eq0.false ∙ cond-true (eqb (count x) 1) x 0 (sym c.is_one.ensures ∙ c.if-is_one.true))

pub returns : goal.returns
returns c =
    let x = c.args.held in
    sym (some x c.requires c.if-held-eq0.false ∙ cond-false (eqb (count x) 1) x 0 (sym c.is_one.ensures ∙ c.if-is_one.false))
