-- `cells::meets::lose_met` meets its contract. Assumes nothing.
use mathlib.Core.Path.{sym, ◌∙◌}
use Rattle.cells.proofs.Meetings.{met-lost, met-kept}
use Rattle.cells.proofs.Losses.{told_none}
use Rattle.cells.proofs.meets.lose_met.Goals as goal

pub returns-then-is_none : goal.returns-then-is_none
returns-then-is_none c =
    let a = c.args in record {
      masks_after = c.lose_places.ensures.masks_after
          ∙ met-lost a.givens.now a.unit a.digit a.held a.nth a.masks.now c.met_places.ensures c.lose.ensures
          c.met_unit.ensures c.outside.ensures c.digit_mask.ensures (sym c.is_none.ensures ∙ c.if-is_none.true);
      value = c.lose_places.ensures.value;
    }

pub returns : goal.returns
returns c =
    let a = c.args in record {
      masks_after = met-kept a.givens.now a.unit a.digit a.held a.nth a.masks.now c.met_places.ensures c.lose.ensures (sym c.is_none.ensures ∙ c.if-is_none.false);
      value = told_none a.masks.now;
    }
