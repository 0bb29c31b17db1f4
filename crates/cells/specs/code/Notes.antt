-- The log of settling as a value: its steps and their count.
use Rattle.std.specs.Prelude.{List, map, ℕ}
use Rattle.steps.specs.Boards.{at}
use Rattle.steps.specs.Loops.{up_to}
use Rattle.steps.specs.code.Logs.{steps_noted}
use Rattle.cells.specs.declared.notes.Steps.{Steps}

unfoldable pub steps_held : List ℕ → Steps
steps_held l = record { bytes = map (at l) (up_to 4374); count = steps_noted l }
