-- `text::sheets::read_cells` meets its contract. Assumes nothing.
-- ---- after the last byte
use mathlib.Core.Path.{◌≡◌}
use Prim.Native.Nat.{◌-◌, ◌≤◌}
use lib.ListN.{length, get_or, take}
use Rattle.grid.specs.Lists.{range}
use Rattle.steps.specs.Loops.{first}
use Rattle.text.specs.Sheets.{is_stranger, first_stranger, unruled}
use Rattle.text.specs.Texts.{clues_of}
use Rattle.text.proofs.sheets.read_cells.Given as goal

abbrev pub invariant-loop-index : goal.invariant-loop-index
invariant-loop-index l =
    (l.clues ≡ clues_of (unruled (take l.index l.sheet))) × (l.count ≡ length (unruled (take l.index l.sheet))) × (l.index ≤ length l.sheet)
    × (first (λ i. is_stranger (get_or l.sheet i 0)) (range (length l.sheet - l.index) l.index) ≡ first_stranger l.sheet)
