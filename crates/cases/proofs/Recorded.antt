-- Records of P1, with an entry and without, and moved (document 02, F-8). Assumes nothing.
use mathlib.Core.Path.{◌≡◌, refl}
use mathlib.Core.List.{[], ◌∷◌}
use lib.IntN.{pos}
use Rattle.stops.specs.Answer.{gives, stop}
use Rattle.stops.specs.declared.Stop.TheVariants.{RecordEntry, NotFresh, RecordEntries}
use Rattle.candidates.specs.Masks.{first_place}
use Rattle.grid.specs.Cells.{cells, peers}
use Rattle.steps.specs.Boards.{givens_of, together, fresh, taken}
use Rattle.steps.specs.Calls.{opened, opened_with}
use Rattle.steps.specs.Loops.{each, for}
use Rattle.board.specs.Boards.{clue_count}
use Rattle.record.specs.declared.forms.Form.TheVariants.{Old, New}
use Rattle.record.specs.Moves.{moved_of}
use Rattle.record.specs.Records.{digit_sets, lacking, bytes_in, record_of, digits_in, open_sets, board_from, read_removed, read_entered, read_in, read_of}
use Rattle.record.specs.Sections.{candidates, section_bytes, entry_at, read_entries, read_section}
use Rattle.cases.specs.Cases.{with_entry, CaseRecords}
use Rattle.cases.specs.Grids.{grid_of, p1}

bytes : record_of (opened p1) ≡ 0 ∷ 0 ∷ 0 ∷ 0 ∷ []
unfolding bytes_in opened_with together section_bytes digit_sets lacking candidates p1 grid_of for givens_of fresh taken each cells peers
bytes = refl

entered : record_of (with_entry p1 80 (pos 1)) ≡ 0 ∷ 1 ∷ 80 ∷ 1 ∷ 0 ∷ 0 ∷ []
unfolding bytes_in opened_with together section_bytes digit_sets lacking candidates p1 grid_of for givens_of fresh taken each cells peers
entered = refl

onward : moved_of Old (0 ∷ 0 ∷ 0 ∷ []) ≡ gives (0 ∷ 0 ∷ 0 ∷ 0 ∷ [])
unfolding moved_of read_in read_entered read_removed read_section read_entries board_from digits_in open_sets bytes_in together section_bytes digit_sets lacking candidates givens_of fresh taken each cells peers first_place
onward = refl

back : moved_of New (0 ∷ 0 ∷ 0 ∷ 0 ∷ []) ≡ gives (0 ∷ 0 ∷ 0 ∷ [])
unfolding moved_of read_in read_entered read_removed read_section read_entries board_from digits_in open_sets bytes_in together section_bytes digit_sets lacking candidates givens_of fresh taken each cells peers first_place clue_count
back = refl

fourteen : moved_of New (0 ∷ 1 ∷ 80 ∷ 1 ∷ 0 ∷ 0 ∷ []) ≡ stop (RecordEntries (pos 1))
unfolding moved_of read_in read_entered read_removed read_section read_entries entry_at board_from digits_in open_sets together lacking givens_of fresh taken each cells peers first_place clue_count
fourteen = refl

on-clue : read_of (1 ∷ 0 ∷ 5 ∷ 1 ∷ 0 ∷ 5 ∷ 0 ∷ 0 ∷ []) ≡ stop (RecordEntry (pos 4))
unfolding read_in read_entered read_section read_entries entry_at digits_in open_sets givens_of cells first_place
on-clue = refl

on-entry : read_of (0 ∷ 1 ∷ 0 ∷ 5 ∷ 1 ∷ 0 ∷ 0 ∷ 5 ∷ []) ≡ stop (NotFresh (pos 6))
unfolding read_in read_entered read_removed read_section read_entries entry_at digits_in open_sets together givens_of fresh taken each cells peers first_place
on-entry = refl

pub records-hold : CaseRecords
records-hold = record { bytes = bytes; entered = entered; onward = onward; back = back; fourteen = fourteen; row14 = refl; on_clue = on-clue; on_entry = on-entry }
