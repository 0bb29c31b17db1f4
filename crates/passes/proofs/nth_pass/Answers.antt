-- `passes::nth_pass` meets its contract. Assumes nothing.
use mathlib.Core.Path.{◌≡◌, sym, ap, ◌∙◌}
use mathlib.Core.List.{List}
use Prim.Native.Nat.{ℕ}
use native.Mathlib.Omega.{arith}
use Rattle.steps.specs.Passes.{Kind, instances, pass}
use Rattle.steps.specs.code.Logs.{log_after}
use Rattle.passes.specs.code.Rounds.{nth_kind}
use Rattle.passes.proofs.Rounds.{last-kind}
use Rattle.passes.proofs.nth_pass.Goals as goal

-- what a pass leaves, and what its log, of a kind that is named in two ways
kind-masks : (g m : List ℕ) {m₁ : List ℕ} {j k : Kind} → j ≡ k → m₁ ≡ pass g j m → m₁ ≡ pass g k m
kind-masks g m e w = w ∙ ap (λ (k : Kind). pass g k m) e

kind-log : (g m l : List ℕ) {l₁ : List ℕ} {j k : Kind} → j ≡ k → l₁ ≡ log_after g (instances j) m l → l₁ ≡ log_after g (instances k) m l
kind-log g m l e w = w ∙ ap (λ (k : Kind). log_after g (instances k) m l) e

pub returns-in-0 : goal.returns-in-0
unfolding nth_kind
returns-in-0 c =
    let a = c.args in
    let e = ap nth_kind (sym c.in-0.is) in record {
      masks_after = kind-masks a.givens.now.cells a.laid.now.masks e c.lone_lanes.ensures.masks_after;
      log_after = kind-log a.givens.now.cells a.laid.now.masks a.log.now e c.lone_lanes.ensures.log_after;
    }

pub returns-in-1 : goal.returns-in-1
unfolding nth_kind
returns-in-1 c =
    let a = c.args in
    let e = ap nth_kind (sym c.in-1.is) in record {
      masks_after = kind-masks a.givens.now.cells a.laid.now.masks e c.place_lanes.ensures.masks_after;
      log_after = kind-log a.givens.now.cells a.laid.now.masks a.log.now e c.place_lanes.ensures.log_after;
    }

pub returns-in-2 : goal.returns-in-2
unfolding nth_kind
returns-in-2 c =
    let a = c.args in
    let e = ap nth_kind (sym c.in-2.is) in record {
      masks_after = kind-masks a.givens.now.cells a.laid.now.masks e c.pair_lanes.ensures.masks_after;
      log_after = kind-log a.givens.now.cells a.laid.now.masks a.log.now e c.pair_lanes.ensures.log_after;
    }

pub returns-in-3 : goal.returns-in-3
unfolding nth_kind
returns-in-3 c =
    let a = c.args in
    let e = ap nth_kind (sym c.in-3.is) in record {
      masks_after = kind-masks a.givens.now.cells a.laid.now.masks e c.pointing_lanes.ensures.masks_after;
      log_after = kind-log a.givens.now.cells a.laid.now.masks a.log.now e c.pointing_lanes.ensures.log_after;
    }

pub returns-in-4 : goal.returns-in-4
unfolding nth_kind
returns-in-4 c =
    let a = c.args in
    let e = ap nth_kind (sym c.in-4.is) in record {
      masks_after = kind-masks a.givens.now.cells a.laid.now.masks e c.claiming_lanes.ensures.masks_after;
      log_after = kind-log a.givens.now.cells a.laid.now.masks a.log.now e c.claiming_lanes.ensures.log_after;
    }

pub returns-in_default : goal.returns-in_default
returns-in_default c =
    let a = c.args in
    let e = sym (last-kind a.nth (omega arith)) in record {
      masks_after = kind-masks a.givens.now.cells a.laid.now.masks e c.cross_lanes.ensures.masks_after;
      log_after = kind-log a.givens.now.cells a.laid.now.masks a.log.now e c.cross_lanes.ensures.log_after;
    }
