-- `passes::settle` meets its contract. Assumes nothing.
use mathlib.Core.Path.{◌≡◌, sym, ap, ap₂, ◌∙◌}
use Prim.Native.Nat.{◌-◌}
use native.Mathlib.Omega.{arith}
use lib.ListN.{length}
use Rattle.steps.specs.Boards.{at, total}
use Rattle.steps.specs.Difficulty.{pass_counts}
use Rattle.steps.specs.Passes.{settle}
use Rattle.steps.specs.StepLists.{settling_instances}
use Rattle.steps.specs.code.Logs.{log_after}
use Rattle.steps.proofs.Difficulty.{six-counts}
use Rattle.passes.proofs.Sweeping.{settle-fewer}
use Rattle.passes.proofs.Tallies.{tally-start, tally-counts, tally-left}
use mathlib.Core.List.{List}
use Prim.Native.Nat.{ℕ}
use Rattle.passes.proofs.settle.Goals as goal

six : (g m : List ℕ) → length (pass_counts g m) ≡ 6
unfolding pass_counts
six g m = six-counts g (settle g m).sweeps m

pub sweep_on-sweeps-requires : goal.sweep_on-sweeps-requires
sweep_on-sweeps-requires c =
    tally-start c.of-laid.result.masks (c.total-start.ensures ∙ ap total (sym c.of-laid.ensures)) (record { fits = c.total-start.type_inv })

pub overflow_sub-result : goal.overflow_sub-result
overflow_sub-result c =
    let g = c.of.result.cells in
    let m = c.of-laid.result.masks in
    let left-total : at c.sweep_on-sweeps.new.tally 6 ≡ total c.sweep_on-sweeps.new.laid.masks = (
    tally-left (pass_counts g m) c.sweep_on-sweeps.new.laid.masks c.total-start.result (six g m) c.sweep_on-sweeps.ensures.tally_after
    ) in
    omega (arith, left-total, c.total-start.ensures, ap total c.of-laid.ensures, ap total c.sweep_on-sweeps.ensures.masks_after, settle-fewer g 730 m)

pub returns : goal.returns
returns c =
    let g = c.of.result.cells in
    let m = c.of-laid.result.masks in
    let same-g = c.of.ensures in
    let same-m = c.of-laid.ensures in
    let left-total : at c.sweep_on-sweeps.new.tally 6 ≡ total c.sweep_on-sweeps.new.laid.masks = (
    tally-left (pass_counts g m) c.sweep_on-sweeps.new.laid.masks c.total-start.result (six g m) c.sweep_on-sweeps.ensures.tally_after
    ) in
    let e = c.sweep_on-sweeps.ensures in
    let counted = tally-counts (pass_counts g m) c.sweep_on-sweeps.new.laid.masks c.total-start.result (six g m) e.tally_after in record {
      sweeps_value = e.value ∙ ap₂ (λ (h n : List ℕ). (settle h n).sweeps) same-g same-m;
      removed_value = ap₂ ◌-◌ c.total-start.ensures (left-total);
      masks_after = e.masks_after ∙ ap₂ (λ (h n : List ℕ). (settle h n).left) same-g same-m;
      log_after = e.log_after ∙ ap₂ (λ (h n : List ℕ). log_after h (settling_instances h n) n c.args.log.now) same-g same-m;
      counts_after = counted ∙ ap₂ pass_counts same-g same-m;
    }
