-- `text::sheets::put_sheet` meets its contract. Assumes nothing.
use mathlib.Core.Path.{◌≡◌}
use mathlib.Core.Bool.{cond}
use mathlib.Core.List.{List, ◌++◌}
use Prim.Native.Nat.{ℕ, ◌+◌, ◌*◌, ◌/◌, ◌%◌}
use lib.Dec.{eqb}
use lib.IntN.{ℤ, pos}
use lib.ListN.{length, get_or, drop}
use Rattle.grid.proofs.Fills.{filled}
use Rattle.text.specs.Texts.{clue_byte}
use Rattle.text.specs.Sheets.{canonical_sheet}
use Rattle.text.proofs.sheets.put_sheet.Given as goal

-- the byte at an offset: the tenth of each line ends it
abbrev pub byte_at : List ℤ → ℕ → ℕ
byte_at z i = cond (eqb (i % 10) 9) 10 (clue_byte (get_or z (9 * (i / 10) + i % 10) (pos 0)))

abbrev pub invariant-loop-index : goal.invariant-loop-index
invariant-loop-index l = (length l.out ≡ length l.initial.out) × (filled (byte_at l.grid) 90 l.index l.out ≡ canonical_sheet l.grid ++ drop 90 l.initial.out)
