use mathlib.Core.Path.{refl, sym, subst, ◌∙◌}
use mathlib.Core.List.{List}
use Prim.Native.Nat.{ℕ, ◌+◌, ◌*◌}
use native.Mathlib.Omega.{arith}
use Rattle.grid.proofs.Lists.{turn-done, turns-over}
use Rattle.steps.proofs.StepLogs.{log-done, log-over}
use Rattle.lone_place.specs.code.Turns.{lone_row, row_lones}
use Rattle.lone_place.specs.code.Due.{NearRow}
use Rattle.lone_place.proofs.Blocks.{lone-cell}
use Rattle.lone_place.proofs.LoneDue.{lone-under}
use Rattle.lone_place.proofs.LoneLanes.{row-near-under}
use Rattle.lone_place.proofs.lones.lone_row.Invariants.{turn, block}
use Rattle.lone_place.proofs.lones.lone_row.Goals as goal

pub loop-nth-init : goal.loop-nth-init
unfolding lone_row row_lones
loop-nth-init c = (omega arith, refl, c.requires.1, refl)

pub loop-nth-preserved : goal.loop-nth-preserved
loop-nth-preserved c =
    let l = c.loop-nth in
    let a = c.args in
    let g = a.givens.now in
    let e = c.lone_cell.ensures.masks_after in (
      omega arith,
      turn-done (turn g a.row) 9 l.nth (omega arith) e l.invariant.1,
      subst (λ (m : List ℕ). NearRow m a.row a.near.now) (sym e) (row-near-under (lone-under g (9 * a.row + l.nth) l.masks) l.invariant.2),
      log-done g (block a.row) 9 l.nth l.masks l.log (omega arith) (e ∙ lone-cell g (9 * a.row + l.nth) l.masks) c.lone_cell.ensures.log_after l.invariant.3,
    )

pub returns : goal.returns
returns c =
    let a = c.args in
    let l = c.loop-nth in record {
      masks_after = turns-over (turn a.givens.now a.row) 9 l.nth c.loop-nth-test.false l.invariant.1;
      log_after = log-over a.givens.now (block a.row) 9 l.nth l.masks l.log c.loop-nth-test.false l.invariant.3;
    }
