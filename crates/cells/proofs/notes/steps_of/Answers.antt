-- `cells::notes::steps_of` meets its contract. Assumes nothing.
use mathlib.Core.Path.{sym, ap₂, ◌∙◌}
use mathlib.Core.List.{List}
use Prim.Native.Nat.{ℕ}
use native.Mathlib.Omega.{arith}
use Rattle.grid.proofs.Lists.{as-taken}
use Rattle.cells.specs.code.Notes.{steps_held}
use Rattle.cells.specs.declared.notes.Steps.{Steps}
use Rattle.cells.proofs.notes.steps_of.Goals as goal

pub returns : goal.returns
unfolding steps_held
returns c =
    let whole : List ℕ → ℕ → Steps = λ bytes count. record { bytes = bytes; count = count } in
    ap₂ whole (c.copy_from_slice.ensures.after ∙ sym (as-taken c.args.log.now 4374 0 (omega arith))) c.steps_noted.ensures
