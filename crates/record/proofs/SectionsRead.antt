-- Reading sections: what is left to read after an entry, and what the reader answers. Assumes nothing.
use mathlib.Core.Path.{◌≡◌, sym, ap, ap₂, ◌∙◌}
use mathlib.Core.Bool.{cond}
use mathlib.Core.List.{List}
use Prim.Native.Nat.{ℕ, suc, ◌+◌, ◌≤◌, ◌<◌}
use native.Mathlib.Omega.{arith}
use borrow.Author.Tests.{le-leb, lt-leb}
use lib.Dec.{leb}
use lib.IntN.{ℤ, pos}
use lib.ListN.{length}
use Rattle.stops.specs.Answer.{Answer, gives, stop, then}
use Rattle.stops.specs.declared.Stop.TheVariants.{RecordBytes}
use Rattle.candidates.proofs.Tests.{cond-true, cond-false}
use Rattle.steps.specs.Boards as S
use Rattle.steps.specs.Boards.{givens_of, together, fresh}
use Rattle.record.specs.declared.forms.Form.{Form}
use Rattle.record.specs.declared.sections.Section.{Section}
use Rattle.record.specs.declared.sections.Section.TheVariants.{Digits, Removed}
use Rattle.record.specs.Records.{lacking, all_sets, open_sets, numbers_in, board_from, read_entry_section, read_removed, read_entered, read_in}
use Rattle.record.specs.Sections.{width, after, number_at, entry_at, with, SectionRead, with_sets, read_entries, no_sets, read_section}

-- ---- the loop over entries

module _ (k : Section) (free bs : List ℕ) where
  -- n entries are left, at offset i
  module _ (n low i : ℕ) (s : List ℕ) where
    pub read-on : {a : Answer ℕ} (m : ℕ) → suc m ≡ n → a ≡ entry_at k free bs low i → then a (λ e. read_entries k free bs m (after k e) (i + 2) (with s e)) ≡ read_entries k free bs n low i s
    unfolding read_entries
    read-on m e t =
        ap (λ (a : Answer ℕ). then a (λ e. read_entries k free bs m (after k e) (i + 2) (with s e))) t ∙ ap (λ (m : ℕ). read_entries k free bs m low i s) e

    pub read-end : n ≤ 0 → gives (with_sets s i) ≡ read_entries k free bs n low i s
    unfolding read_entries
    read-end h =
        let e : 0 ≡ n = omega arith in
        ap (λ (m : ℕ). read_entries k free bs m low i s) e

  -- ---- a section

  module _ (i : ℕ) where
    pub section-missing : length bs < i + width k → stop (RecordBytes (pos (length bs))) ≡ read_section k free bs i
    unfolding read_section
    section-missing h = sym (cond-false (leb (i + width k) (length bs)) _ (stop (RecordBytes (pos (length bs)))) (lt-leb (i + width k) (length bs) h))

    pub section-read : i + width k ≤ length bs → read_entries k free bs (number_at (width k) bs i) 0 (i + width k) no_sets ≡ read_section k free bs i
    unfolding read_section
    section-read h = sym (cond-true (leb (i + width k) (length bs)) _ (stop (RecordBytes (pos (length bs)))) (le-leb (i + width k) (length bs) h))

-- ---- the record

module _ (clues entries : List ℤ) (bs : List ℕ) (i : ℕ) where
  abbrev joint : List ℕ
  joint = givens_of (together clues entries)

  abbrev after-removed : SectionRead → Answer S.Board
  after-removed r = cond (leb (length bs) r.next) (gives (board_from clues entries r.sets)) (stop (RecordBytes (pos r.next)))

  -- the sets that it may have, as the code works them out
  pub free-from : {g f free : List ℕ} → g ≡ joint → f ≡ fresh g → free ≡ open_sets g f → read_section Removed free bs i ≡ read_section Removed (open_sets joint (fresh joint)) bs i
  free-from p q r = ap (λ (x : List ℕ). read_section Removed x bs i) (r ∙ ap₂ open_sets p (q ∙ ap fresh p))

  -- the removed section, read or refused
  pub from-removed : {a : Answer SectionRead} → a ≡ read_section Removed (open_sets joint (fresh joint)) bs i → then a after-removed ≡ read_removed clues entries bs i
  unfolding read_removed
  from-removed e = ap (λ (a : Answer SectionRead). then a after-removed) e

  module _ {s : List ℕ} {n : ℕ} (e : gives (with_sets s n) ≡ read_section Removed (open_sets joint (fresh joint)) bs i) where
    pub removed-over : n < length bs → stop (RecordBytes (pos n)) ≡ read_removed clues entries bs i
    removed-over h = sym (cond-false (leb (length bs) n) (gives (board_from clues entries s)) (stop (RecordBytes (pos n))) (lt-leb (length bs) n h)) ∙ from-removed e

    pub removed-read : length bs ≤ n → gives (board_from clues entries s) ≡ read_removed clues entries bs i
    removed-read h = sym (cond-true (leb (length bs) n) (gives (board_from clues entries s)) (stop (RecordBytes (pos n))) (le-leb (length bs) n h)) ∙ from-removed e

pub board-from : (clues entries : List ℤ) (s : List ℕ) {f m : List ℕ} → f ≡ fresh (givens_of (together clues entries)) → m ≡ lacking f s → ◌≡◌ {A = S.Board} (record { clues = clues; entries = entries; masks = m }) (board_from clues entries s)
unfolding board_from
board-from clues entries s p r =
    let w = r ∙ ap (λ (x : List ℕ). lacking x s) p in
    λ i. record { clues = clues; entries = entries; masks = w i }

-- the entry section, read or refused
module _ (k : Form) (clues : List ℤ) (bs : List ℕ) (i : ℕ) where
  abbrev after-entered : SectionRead → Answer S.Board
  after-entered e = read_removed clues (numbers_in e.sets) bs e.next

  pub from-entered : {a : Answer SectionRead} → a ≡ read_entry_section k clues bs i → then a after-entered ≡ read_entered k clues bs i
  unfolding read_entered
  from-entered e = ap (λ (a : Answer SectionRead). then a after-entered) e

  pub entered-read : {s : List ℕ} {n : ℕ} {es : List ℤ} → gives (with_sets s n) ≡ read_entry_section k clues bs i → es ≡ numbers_in s → read_removed clues es bs n ≡ read_entered k clues bs i
  entered-read {n = n} e p = ap (λ (x : List ℤ). read_removed clues x bs n) p ∙ from-entered e

-- the clue section, read or refused
module _ (k : Form) (bs : List ℕ) where
  abbrev after-clues : SectionRead → Answer S.Board
  after-clues c = read_entered k (numbers_in c.sets) bs c.next

  pub from-clues : {a : Answer SectionRead} → a ≡ read_section Digits all_sets bs 0 → then a after-clues ≡ read_in k bs
  unfolding read_in
  from-clues e = ap (λ (a : Answer SectionRead). then a after-clues) e

  pub clues-read : {s : List ℕ} {n : ℕ} {cs : List ℤ} → gives (with_sets s n) ≡ read_section Digits all_sets bs 0 → cs ≡ numbers_in s → read_entered k cs bs n ≡ read_in k bs
  clues-read {n = n} e p = ap (λ (x : List ℤ). read_entered k x bs n) p ∙ from-clues e
