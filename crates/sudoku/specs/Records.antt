-- The record writer, the reader and the moves on numbers and arrays: what each answers, and what everything lent holds after it.
use Rattle.std.specs.Prelude.{Bool, cond, List, ℕ, ℤ, pos, length}
use Rattle.stops.specs.Answer.{map, value_or}
use Rattle.steps.specs.Boards.{Board}
use Rattle.text.specs.Texts.{written}
use Rattle.record.specs.declared.forms.Form.{Form}
use Rattle.record.specs.declared.forms.Form.TheVariants.{Old, New}
use Rattle.record.specs.Moves.{move_of, move_written}
use Rattle.record.specs.Records.{read_of, record_of, write_of}
use Rattle.sudoku.specs.Boards.{board_number}
use Rattle.sudoku.specs.Codes.{coded}

-- ---- the writer

abbrev pub record_code : Board → List ℕ → List ℤ
record_code b lent = coded (map pos (write_of b (length lent))) 0

abbrev pub written_record : Board → List ℕ → List ℕ
written_record b lent = written (write_of b (length lent)) (record_of b) lent

-- ---- the reader: the value is the number of clues, as the opener's

abbrev pub record_read_code : List ℕ → List ℤ
record_read_code bytes = coded (map board_number (read_of bytes)) 0

abbrev pub record_clues : List ℕ → List ℤ → List ℤ
record_clues bytes lent = value_or lent (map (λ b. b.clues) (read_of bytes))

abbrev pub record_entries : List ℕ → List ℤ → List ℤ
record_entries bytes lent = value_or lent (map (λ b. b.entries) (read_of bytes))

abbrev pub record_masks : List ℕ → List ℕ → List ℕ
record_masks bytes lent = value_or lent (map (λ b. b.masks) (read_of bytes))

-- ---- the moves: from the old form to the new one, or back

abbrev pub moved_from : Bool → Form
moved_from back = cond back New Old

abbrev pub move_code : Bool → List ℕ → List ℕ → List ℤ
move_code back bytes lent = coded (map pos (move_of (moved_from back) bytes (length lent))) 0

abbrev pub moved_record : Bool → List ℕ → List ℕ → List ℕ
moved_record back bytes lent = move_written (moved_from back) bytes lent
