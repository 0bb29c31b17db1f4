-- What is promised of records: they and the boards that the check admits determine each other, entries too, and a record that is moved stays the record of its board.
use Rattle.std.specs.Prelude.{◌≡◌, ◌↔◌, List, ◌∷◌, ◌++◌, ℕ, ◌+◌, ◌*◌, ◌<◌, length, get_or, take, drop}
use Rattle.stops.specs.Answer.{gives}
use Rattle.steps.specs.Boards.{Board, givens, givens_of, fresh, no_entries}
use Rattle.steps.specs.Calls.{Admitted}
use Rattle.record.specs.declared.forms.Form.{Form}
use Rattle.record.specs.declared.forms.Form.TheVariants.{Old, New}
use Rattle.record.specs.Moves.{other, moved_of}
use Rattle.record.specs.Records.{digit_sets, lacking, bytes_in, record_of, read_in, read_of}
use Rattle.record.specs.Sections.{candidates}

-- numbers that are bytes
pub record Bytes (bs : List ℕ) : Type 0 where
  pub small : (i : ℕ) → get_or bs i 0 < 256

pub record RecordLaws : Type 0 where
  -- reading a written record gives the board back
  pub back : (b : Board) → Admitted b → read_of (record_of b) ≡ gives b
  -- writing a board that was read gives the bytes again
  pub again : (bs : List ℕ) → Bytes bs → (b : Board) → read_of bs ≡ gives b → Admitted b × (record_of b ≡ bs)
  -- the writer "needs and returns" 4 bytes, and 2 for each clue, each entry and each removed candidate
  pub size : (b : Board) → length (record_of b)
      ≡ 4 + 2 * length (candidates (digit_sets (givens_of b.clues))) + 2 * length (candidates (digit_sets (givens_of b.entries))) + 2 * length (candidates (lacking (fresh (givens b)) b.masks))
  -- "Equal boards in the finer sense have equal new records, and only they do."
  pub same : (a b : Board) → Admitted a → Admitted b → (a ≡ b) ↔ (record_of a ≡ record_of b)

-- of both forms
pub record MoveLaws : Type 0 where
  -- every old record that can be read can be moved, and so can every new one whose board has no entries
  pub onward : (bs : List ℕ) (b : Board) → read_in Old bs ≡ gives b → moved_of Old bs ≡ gives (bytes_in New b)
  pub back : (bs : List ℕ) (b : Board) → read_in New bs ≡ gives b → b.entries ≡ no_entries → moved_of New bs ≡ gives (bytes_in Old b)
  -- "and back to the same bytes": a record that was moved is moved to what it was
  pub again : (k : Form) (bs : List ℕ) → Bytes bs → (ns : List ℕ) → moved_of k bs ≡ gives ns → moved_of (other k) ns ≡ gives bs
  -- it is the record of the same board
  pub board : (k : Form) (bs : List ℕ) → Bytes bs → (ns : List ℕ) → moved_of k bs ≡ gives ns → read_in (other k) ns ≡ read_in k bs
  -- "with an entry count of 0": a byte more, behind the clue section
  pub count : (bs : List ℕ) → Bytes bs → (ns : List ℕ) → moved_of Old bs ≡ gives ns → ns ≡ take (1 + 2 * get_or bs 0 0) bs ++ (0 ∷ drop (1 + 2 * get_or bs 0 0) bs)
