use mathlib.Core.Path.{sym, ap, ◌∙◌}
use mathlib.Core.List.{List, ◌++◌}
use Prim.Native.Nat.{ℕ}
use native.Mathlib.Omega.{arith}
use Rattle.candidates.specs.Masks.{has}
use Rattle.grid.specs.Cells.{cells}
use Rattle.grid.proofs.Lists.{range-on, range_length}
use Rattle.steps.specs.Loops.{select}
use Rattle.steps.specs.Ported.{holds}
use Rattle.cells.proofs.Places.{open-holds}
use Rattle.chains.proofs.Listing.{has-room, chosen, passed}
use Rattle.chains.proofs.lists.candidate_positions.Goals.{then-has_digit, else-has_digit}
use Rattle.chains.proofs.lists.candidate_positions.Goals as goal

pub loop-cell-init : goal.loop-cell-init
unfolding cells
loop-cell-init c =
    let a = c.args in
    ap (λ (l : List ℕ). l ++ select (holds a.givens.now a.masks.now a.digit) cells) c.new-list.ensures

pub push-requires : goal.push-requires
unfolding cells
push-requires c =
    let a = c.args in
    let l = c.loop-cell in
    let i = l.cell in
    let test = c.has_digit.ensures ∙ ap (λ (x : ℕ). has x a.digit) c.open_mask.ensures ∙ open-holds a.givens.now a.masks.now a.digit i (omega arith) in
    (omega arith, has-room (holds a.givens.now a.masks.now a.digit) l.list cells 81 (range-on 81 i (omega arith)) l.invariant (omega (arith, range_length 81 0)) (sym test ∙ c.if-has_digit.true))

pub loop-cell-preserved : goal.loop-cell-preserved
loop-cell-preserved c =
    let a = c.args in
    let l = c.loop-cell in
    let i = l.cell in
    let f = holds a.givens.now a.masks.now a.digit in
    let next = range-on 81 i (omega arith) in
    let test = sym (c.has_digit.ensures ∙ ap (λ (x : ℕ). has x a.digit) c.open_mask.ensures ∙ open-holds a.givens.now a.masks.now a.digit i (omega arith)) in
    elim c.if-has_digit.branch [
      | then-has_digit w ↦ chosen f l.list next l.invariant (test ∙ w.if-has_digit.true) (w.list-is ∙ w.push.ensures)
      | else-has_digit w ↦ passed f l.list next l.invariant (test ∙ w.if-has_digit.false) w.list-is
    ]
