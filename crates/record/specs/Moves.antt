-- A record moved to the other form, by reading and writing (document 02, F-8): "An old record moves to the new form with an entry count of 0, and back to the same bytes."
use Rattle.std.specs.Prelude.{cond, List, [], ℕ, ◌+◌, ◌*◌, eqb, pos, length}
use Rattle.stops.specs.Answer.{Answer, gives, stop, map, then, passing, value_or}
use Rattle.stops.specs.declared.Stop.TheVariants.{RecordEntries}
use Rattle.grid.specs.Cells.{cells}
use Rattle.steps.specs.Boards.{Board, givens_of}
use Rattle.board.specs.Boards.{clue_count}
use Rattle.text.specs.Texts.{written}
use Rattle.record.specs.declared.forms.Form.{Form}
use Rattle.record.specs.declared.forms.Form.TheVariants.{Old, New}
use Rattle.record.specs.Records.{bytes_in, write_in, read_in}

abbrev pub other : Form → Form
other Old = New
other New = Old

-- "14, a move back of a record with entries, with the offset of its entry count": the clue section before it has a byte, and two for each clue
abbrev pub unentered : Board → Answer (Unit {0})
unentered b = cond (eqb (clue_count (givens_of b.entries) cells) 0) (gives tt) (stop (RecordEntries (pos (1 + 2 * clue_count (givens_of b.clues) cells))))

-- the board of a record that can be moved: 14 is "checked after the record has been read"
abbrev pub movable : Form → List ℕ → Answer Board
movable Old bs = read_in Old bs
movable New bs = then (read_in New bs) λ b. passing (unentered b) b

-- the record in the other form
unfoldable pub moved_of : Form → List ℕ → Answer (List ℕ)
moved_of k bs = map (bytes_in (other k)) (movable k bs)

-- "and before 01's 6 for the lent bytes"; "Writer and moves need and return the written record's length"
unfoldable pub move_of : Form → List ℕ → ℕ → Answer ℕ
move_of k bs lent = then (moved_of k bs) λ r. write_in (length r) lent

-- the moved record in the first lent bytes
abbrev pub move_written : Form → List ℕ → List ℕ → List ℕ
move_written k bs lent = written (move_of k bs (length lent)) (value_or [] (moved_of k bs)) lent
