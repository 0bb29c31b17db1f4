-- `lone_place::lones::lone_lanes` meets its contract. Assumes nothing.
use mathlib.Core.Path.{sym, ap, ◌∙◌, subst}
use mathlib.Core.List.{List}
use Prim.Native.Nat.{ℕ}
use Rattle.steps.specs.Passes.{Lone, instances, pass}
use Rattle.steps.proofs.StepLogs.{log-idle}
use Rattle.lone_place.specs.code.Due.{shared_lanes, Covers}
use Rattle.lone_place.proofs.LoneLanes.{sets-cover, lone-idle}
use Rattle.lone_place.proofs.lones.lone_lanes.Goals as goal

pub returns-then-loose_digits-eq0 : goal.returns-then-loose_digits-eq0
unfolding pass
returns-then-loose_digits-eq0 c =
    let a = c.args in
    let idle = lone-idle a.givens.now a.laid.now.masks (sym c.loose_digits.ensures ∙ c.if-loose_digits-eq0.true) in record {
      masks_after = sym idle;
      log_after = sym (log-idle a.givens.now (instances Lone) a.laid.now.masks a.log.now idle);
    }

pub lone_rows-requires : goal.lone_rows-requires
lone_rows-requires c =
    let m = c.args.laid.now.masks in
    subst (λ (s : List ℕ). Covers s m) (sym (c.shared_lanes-sets.ensures ∙ ap shared_lanes c.args.laid.now.in_lanes)) (sets-cover m)
