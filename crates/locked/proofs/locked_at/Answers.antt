-- `locked::locked_at` meets its contract. Assumes nothing.
use mathlib.Core.Path.{◌≡◌, sym, ◌∙◌}
use mathlib.Core.List.{List}
use Prim.Native.Nat.{ℕ, ◌<◌}
use Rattle.steps.specs.Passes.{instance_taken}
use Rattle.cells.specs.code.Meets.{meetings, meet_turn}
use Rattle.cells.specs.code.Places.{held_places}
use Rattle.cells.proofs.Losses.{noted-lost, noted-kept}
use Rattle.locked.specs.code.Locked.{met_instance}
use Rattle.locked.proofs.LockedTurns.{instance-taken}
use Rattle.locked.proofs.locked_at.Goals as goal

-- the turn is the instance
taken : (g : List ℕ) (u d k : ℕ) (m : List ℕ) {held : ℕ} {n : List ℕ} → u < 27 → d < 9 → k < meetings u → held ≡ held_places m u d → n ≡ meet_turn g u d held k m → n ≡ instance_taken g (met_instance u d k) m
taken g u d k m hu hd hk found e = e ∙ sym (instance-taken g u d k hu hd hk m found)

pub returns-then-lose_met : goal.returns-then-lose_met
returns-then-lose_met c =
    let a = c.args in
    let p = c.requires in
    let e = c.lose_met.ensures in
    let turn = taken a.givens.now a.unit a.digit a.nth a.masks.now p.0 p.1 p.2 p.3 e.masks_after in record {
      masks_after = e.masks_after;
      log_after = c.note_met.ensures ∙ noted-lost a.givens.now (met_instance a.unit a.digit a.nth) a.masks.now turn a.log.now (sym e.value ∙ c.if-lose_met.true);
    }

pub returns-else-lose_met : goal.returns-else-lose_met
returns-else-lose_met c =
    let a = c.args in
    let p = c.requires in
    let e = c.lose_met.ensures in
    let turn = taken a.givens.now a.unit a.digit a.nth a.masks.now p.0 p.1 p.2 p.3 e.masks_after in record {
      masks_after = e.masks_after;
      log_after = noted-kept a.givens.now (met_instance a.unit a.digit a.nth) a.masks.now turn a.log.now (sym e.value ∙ c.if-lose_met.false);
    }
