use mathlib.Core.Path.{◌≡◌, refl, sym, ◌∙◌}
use mathlib.Core.Bool.{◌&&◌}
use native.Mathlib.Omega.{arith}
use Rattle.std.specs.List.{list_any}
use Rattle.candidates.proofs.Tests.{cond-true, cond-false}
use Rattle.grid.specs.Cells.{sees}
use Rattle.grid.proofs.Lists.{member-done, members-over}
use Rattle.steps.specs.Boards.{at}
use Rattle.chains.specs.code.XLinks.{ends_of, end_sees, lose_caught, lose_from}
use Rattle.chains.proofs.x_chains.lose_from.Goals.{then-catch, else-catch}
use Rattle.chains.proofs.x_chains.lose_from.Goals as goal

pub loop-cell-init : goal.loop-cell-init
unfolding lose_from
loop-cell-init c = refl

pub loop-cell-preserved : goal.loop-cell-preserved
loop-cell-preserved c =
    let a = c.args in
    let links = a.links.now in
    let ends = ends_of links.linked links.sums a.start in
    let x = at a.holders.now c.loop-cell.cell-index in
    let start = c.from-ends.ensures.start in
    let marked = c.from-ends.ensures.marked in
    let linked = c.as_slice-linked.ensures.same in
    let caught : c.catch.result ≡ (sees a.start x && list_any (end_sees ends x) links.linked) = c.catch.ensures ∙ (λ i. sees (start i) x && list_any (end_sees (marked i) x) (linked i)) in
    member-done (lose_caught a.givens.now a.lost links.linked a.start ends) a.holders.now c.loop-cell.cell-index (omega arith)
    (elim c.if-catch.branch [
      | then-catch w ↦ w.masks-is ∙ w.lose_at.ensures.masks_after ∙ sym (cond-true (sees a.start x && list_any (end_sees ends x) links.linked) _ c.loop-cell.masks (sym caught ∙ w.if-catch.true))
      | else-catch w ↦ w.masks-is ∙ sym (cond-false (sees a.start x && list_any (end_sees ends x) links.linked) _ c.loop-cell.masks (sym caught ∙ w.if-catch.false))
    ]) c.loop-cell.invariant

pub returns : goal.returns
returns c =
    let a = c.args in
    let links = a.links.now in
    members-over (lose_caught a.givens.now a.lost links.linked a.start (ends_of links.linked links.sums a.start)) a.holders.now c.loop-cell.cell-index (omega arith) c.loop-cell.invariant
