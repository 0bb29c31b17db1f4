-- `lone_place::lones::lone_cell` meets its contract. Assumes nothing.
use mathlib.Core.Path.{sym, ap, ◌∙◌}
use Prim.Native.Nat.{ℕ}
use Rattle.steps.proofs.StepLogs.{log-idle}
use Rattle.lone_place.specs.code.Turns.{cell_lones}
use Rattle.lone_place.specs.code.Due.{lone_due}
use Rattle.lone_place.proofs.Blocks.{lone-cell}
use Rattle.lone_place.proofs.LoneDue.{not-due}
use Rattle.lone_place.proofs.lones.lone_cell.Goals as goal

pub returns-else-lone_due : goal.returns-else-lone_due
returns-else-lone_due c =
    let a = c.args in
    let idle = not-due a.givens.now a.masks.now a.cell a.near c.requires.1 (sym (c.lone_due.ensures ∙ ap (λ (x : ℕ). lone_due x a.near) c.meet.ensures) ∙ c.if-lone_due.false) in record {
      masks_after = sym idle;
      log_after = sym (log-idle a.givens.now (cell_lones a.cell) a.masks.now a.log.now (sym (lone-cell a.givens.now a.cell a.masks.now) ∙ idle));
    }
