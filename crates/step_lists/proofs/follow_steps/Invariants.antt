-- `step_lists::follow_steps` meets its contract. The invariant: the steps that are left, from the masks so far, answer what the whole list does. Assumes nothing.
use mathlib.Core.Path.{◌≡◌}
use Prim.Native.Nat.{◌≤◌}
use Rattle.steps.specs.StepLists.{steps_of, follow}
use Rattle.step_lists.proofs.Following.{steps_from}
use Rattle.step_lists.proofs.follow_steps.Given as goal

abbrev pub invariant-loop-index : goal.invariant-loop-index
invariant-loop-index l = (l.index ≤ l.count) × (follow l.givens l.index (steps_from l.steps l.count l.index) l.masks ≡ follow l.givens 0 (steps_of l.steps) l.fn.start)
