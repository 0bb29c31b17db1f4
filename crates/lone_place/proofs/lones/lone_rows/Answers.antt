use mathlib.Core.Path.{refl, sym, ap, ◌∙◌, subst}
use mathlib.Core.Bool.{true≢false}
use mathlib.Core.List.{List}
use native.Mathlib.Omega.{arith}
use Rattle.grid.proofs.Lists.{turn-done, turns-over}
use Rattle.steps.specs.Instances.{Instance}
use Rattle.steps.specs.code.Logs.{log_after}
use Rattle.steps.proofs.StepLogs.{log-idle, log-done, log-over}
use Rattle.lone_place.specs.code.Turns.{lone_row, row_lones}
use Rattle.lone_place.specs.code.Due.{Covers, NearRow}
use Rattle.lone_place.proofs.Blocks.{lone_row_lem, lones-by-rows}
use Rattle.lone_place.proofs.LoneLanes.{covers-row, covers-under, row_under, row-idle, lone-rows}
use Rattle.lone_place.proofs.lones.lone_rows.Goals.{else-due_row-ne0, then-due_row-ne0}
use Rattle.lone_place.proofs.lones.lone_rows.Goals as goal

pub loop-row-init : goal.loop-row-init
loop-row-init c =
    let a = c.args in
    (omega arith, sym (lone-rows a.givens.now a.masks.now), c.requires, record { is = λ _. refl }, ap (λ (xs : List Instance). log_after a.givens.now xs a.masks.now a.log.now) (sym lones-by-rows))

pub lone_row-requires : goal.lone_row-requires
lone_row-requires c =
    let found : NearRow c.loop-row.masks c.loop-row.row c.near_row-near.result = (
    let l = c.loop-row in
    let s = c.args.sets.now in
    subst (NearRow l.masks l.row) (sym c.near_row-near.ensures) (covers-row s l.row (omega arith) l.invariant.2)
    ) in
    (omega arith, found)

pub loop-row-preserved : goal.loop-row-preserved
loop-row-preserved c =
    let found : NearRow c.loop-row.masks c.loop-row.row c.near_row-near.result = (
    let l = c.loop-row in
    let s = c.args.sets.now in
    subst (NearRow l.masks l.row) (sym c.near_row-near.ensures) (covers-row s l.row (omega arith) l.invariant.2)
    ) in
    let l = c.loop-row in
    let a = c.args in
    let g = a.givens.now in
    elim c.if-due_row-ne0.branch [
      | then-due_row-ne0 w ↦
          let e = w.masks-is ∙ w.lone_row.ensures.masks_after in (
            omega arith,
            turn-done (lone_row g) 9 l.row (omega arith) e l.invariant.1,
            subst (Covers a.sets.now) (sym e) (covers-under (row_under g l.row l.masks) l.invariant.2),
            record { is = λ q. absurd (true≢false (sym w.any-is ∙ q)) },
            log-done g row_lones 9 l.row l.masks l.log (omega arith) (e ∙ lone_row_lem g l.row l.masks) (w.log-is ∙ w.lone_row.ensures.log_after) l.invariant.4,
          )
      | else-due_row-ne0 w ↦
          let idle = row-idle g l.masks l.row c.near_row-near.result (found) (sym c.due_row.ensures ∙ w.if-due_row-ne0.false) in (
            omega arith,
            turn-done (lone_row g) 9 l.row (omega arith) (w.masks-is ∙ sym idle) l.invariant.1,
            subst (Covers a.sets.now) (sym w.masks-is) l.invariant.2,
            record { is = λ q. w.masks-is ∙ l.invariant.3.is (sym w.any-is ∙ q) },
            log-done g row_lones 9 l.row l.masks l.log (omega arith) (w.masks-is ∙ sym idle ∙ lone_row_lem g l.row l.masks) (w.log-is ∙ sym (log-idle g (row_lones l.row) l.masks l.log (sym (lone_row_lem g l.row l.masks) ∙ idle))) l.invariant.4,
          )
    ]

pub returns : goal.returns
returns c =
    let l = c.loop-row in
    let g = c.args.givens.now in record {
      masks_after = turns-over (lone_row g) 9 l.row c.loop-row-test.false l.invariant.1;
      kept = l.invariant.3;
      log_after = log-over g row_lones 9 l.row l.masks l.log c.loop-row-test.false l.invariant.4;
    }
