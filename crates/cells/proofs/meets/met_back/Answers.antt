-- `cells::meets::met_back` meets its contract. Assumes nothing.
use mathlib.Core.Path.{◌≡◌, sym, ◌∙◌}
use mathlib.Core.Bool.{cond}
use Prim.Native.Nat.{ℕ, ◌+◌, ◌-◌, ◌/◌, ◌%◌, ◌≤◌}
use borrow.Author.Tests.{lt-ltb, le-ltb}
use lib.Dec.{ltb}
use Rattle.candidates.proofs.Tests.{cond-true, cond-false}
use Rattle.cells.specs.code.Meets.{met_back}
use Rattle.cells.proofs.meets.met_back.Goals as goal

module _ {u : ℕ} (k : ℕ) where
  -- of a column or a box
  past-rows : 9 ≤ u → cond (ltb u 18) (3 + u % 3) (cond (ltb k 3) (u % 3) ((u - 18) / 3)) ≡ met_back u k
  unfolding met_back
  past-rows h = sym (cond-false (ltb u 9) (u % 3) (cond (ltb u 18) (3 + u % 3) (cond (ltb k 3) (u % 3) ((u - 18) / 3))) (le-ltb u 9 h))

  -- of a box
  past-lines : 9 ≤ u → 18 ≤ u → cond (ltb k 3) (u % 3) ((u - 18) / 3) ≡ met_back u k
  past-lines h l = sym (cond-false (ltb u 18) (3 + u % 3) (cond (ltb k 3) (u % 3) ((u - 18) / 3)) (le-ltb u 18 l)) ∙ past-rows h

pub returns-then-unit-lt9 : goal.returns-then-unit-lt9
unfolding met_back
returns-then-unit-lt9 c =
    let a = c.args in
    let u = a.unit in
    sym (cond-true (ltb u 9) (u % 3) (cond (ltb u 18) (3 + u % 3) (cond (ltb a.nth 3) (u % 3) ((u - 18) / 3))) (lt-ltb u 9 c.if-unit-lt9.true))

pub returns-then-unit-lt18 : goal.returns-then-unit-lt18
returns-then-unit-lt18 c =
    let a = c.args in
    let u = a.unit in
    sym (cond-true (ltb u 18) (3 + u % 3) (cond (ltb a.nth 3) (u % 3) ((u - 18) / 3)) (lt-ltb u 18 c.if-unit-lt18.true)) ∙ past-rows a.nth c.if-unit-lt9.false

pub returns-then-nth-lt3 : goal.returns-then-nth-lt3
returns-then-nth-lt3 c =
    let a = c.args in
    let u = a.unit in
    sym (cond-true (ltb a.nth 3) (u % 3) ((u - 18) / 3) (lt-ltb a.nth 3 c.if-nth-lt3.true)) ∙ past-lines a.nth c.if-unit-lt9.false c.if-unit-lt18.false

pub returns : goal.returns
returns c =
    let a = c.args in
    let u = a.unit in
    sym (cond-false (ltb a.nth 3) (u % 3) ((u - 18) / 3) (le-ltb a.nth 3 c.if-nth-lt3.false)) ∙ past-lines a.nth c.if-unit-lt9.false c.if-unit-lt18.false
