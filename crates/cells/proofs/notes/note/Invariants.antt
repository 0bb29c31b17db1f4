-- `cells::notes::note` meets its contract. The invariant: the bytes that are left still make the whole step. Assumes nothing.
use mathlib.Core.Path.{◌≡◌}
use mathlib.Core.List.{List}
use Prim.Native.Nat.{ℕ, ◌+◌, ◌*◌, ◌-◌, ◌≤◌}
use lib.ListN.{set}
use Rattle.steps.specs.Boards.{at}
use Rattle.steps.specs.Loops.{each, range}
use Rattle.steps.specs.code.Logs.{put_six}
use Rattle.cells.proofs.notes.note.Given as goal

-- one turn of the loop
abbrev pub turn : ℕ → List ℕ → ℕ → List ℕ → List ℕ
turn n step i l = set l (6 * n + i) (at step i)

abbrev pub invariant-loop-part : goal.invariant-loop-part
invariant-loop-part l = (l.part ≤ 6) × (each (turn l.count l.byte-items) (range (6 - l.part) l.part) l.log ≡ put_six (6 * l.count) l.byte-items l.initial.log)
