-- The paper's table "Stops, place by place". A stop is a refusal: its number, and one number beside it.
use Rattle.std.specs.Prelude.{ℕ, ℤ, pos}
use Rattle.stops.specs.declared.Stop.{Stop}
use Rattle.stops.specs.declared.Stop.TheVariants.{TextLength, OtherByte, BadClue, BadDigit, NoCell, TooFewBytes, RecordBytes, RecordEntry, NotFresh, BadMask, SheetLength, SheetCells, BadEntry, ClueCell, AlreadyEntered, NotEntered, RecordEntries, BadStep, TooManySteps, BadPercentage, BadSolution, NoOpenCell}

pub record Row : Type 0 where
  pub number : ℕ
  pub detail : ℤ

abbrev row : ℕ → ℤ → Row
row n z = record { number = n; detail = z }

-- "No." and "Beside it" of each row; from 10 on those of document 02: "Stops in these requests join 01's table."
abbrev pub row_of : Stop → Row
row_of (TextLength z) = row 1 z
row_of (OtherByte z) = row 2 z
row_of (BadClue z) = row 3 z
row_of (BadDigit z) = row 4 z
row_of (NoCell n) = row 5 (pos n)
row_of (TooFewBytes z) = row 6 z
row_of (RecordBytes z) = row 7 z
row_of (RecordEntry z) = row 8 z
row_of (NotFresh z) = row 9 z
row_of (BadMask z) = row 9 z
row_of (SheetLength z) = row 10 z
row_of (SheetCells z) = row 11 z
-- document 02, F-6
row_of (BadEntry z) = row 8 z
row_of (ClueCell n) = row 12 (pos n)
row_of (AlreadyEntered n) = row 13 (pos n)
row_of (NotEntered n) = row 13 (pos n)
-- document 02, F-8: "14, a move back of a record with entries, with the offset of its entry count"
row_of (RecordEntries z) = row 14 z
-- document 02, F-10: "15, a step that names no instance, whose condition does not hold or that removes nothing, with the index of the first such step; 16, more than 729 steps, with their number"
row_of (BadStep z) = row 15 z
row_of (TooManySteps z) = row 16 z
-- document 02, F-11: "percentage above 100, with the percentage"; "the solution does not pass the verifier, with detail 0"
row_of (BadPercentage n) = row 17 (pos n)
row_of BadSolution = row 18 (pos 0)
-- document 02, F-14: "19, no open cell without an entry, with detail 0"
row_of NoOpenCell = row 19 (pos 0)
