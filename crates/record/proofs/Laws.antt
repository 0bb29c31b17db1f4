-- Records and admitted boards determine each other, in the new form with their entries and in the old one without. Assumes nothing.
use mathlib.Core.Path.{◌≡◌, refl, sym, ap, ◌∙◌, subst}
use mathlib.Core.List.{List, [], ◌++◌, append-nil}
use Prim.Native.Nat.{ℕ, ◌+◌, ◌≤◌}
use native.Mathlib.Nat.{zero-add, add-zero}
use native.Mathlib.Omega.{arith}
use borrow.Author.Tests.{leb-true}
use lib.Dec.{leb}
use lib.IntN.{ℤ}
use lib.ListN.{length, drop, length-append, drop_of_length-le}
use lib.Seq.{drop_at, drop-drop}
use Rattle.stops.specs.Answer.{gives}
use Rattle.stops.proofs.Answers.{gives_same}
use Rattle.grid.specs.Cells.{cells}
use Rattle.steps.specs.Boards.{Board, together, givens_of, givens, fresh, no_entries, Givens, Admissible}
use Rattle.steps.specs.Calls as D
use Rattle.steps.specs.Calls.{Admitted}
use Rattle.steps.proofs.Check.{admitted, admits, clues-givens}
use Rattle.steps.proofs.Entries.{no-entries}
use Rattle.record.specs.declared.forms.Form.{Form}
use Rattle.record.specs.declared.forms.Form.TheVariants.{Old, New}
use Rattle.record.specs.declared.sections.Section.TheVariants.{Digits, Removed}
use Rattle.record.specs.Laws.{Bytes, RecordLaws}
use Rattle.record.specs.Records.{digit_sets, lacking, entry_section, bytes_in, record_of, all_sets, digits_in, numbers_in, open_sets, clues_from, read_entry_section, board_from, read_removed, read_entered, read_in, read_of}
use Rattle.record.specs.Sections.{SectionRead, with_sets, no_sets, section_bytes, read_section}
use Rattle.record.proofs.BoardSets.{clues-hold, digits-again, givens-again, clues-again, entries-hold, entries-clues, entries-good, digits-good, digit-sets-again, lacking-twice, removals-hold, removals-fresh, read-admissible, clues-good}
use Rattle.record.proofs.Entries.{then-gives, tested-gives}
use Rattle.record.proofs.SectionLaws.{Holds, section-of, section-back}
use Rattle.record.proofs.SectionsRead.{removed-read, entered-read, clues-read}
use Rattle.record.proofs.Writing.{record_is, record-size}

-- ---- the entry section

-- the entries that a form can hold
abbrev pub EntriesIn : Form → List ℤ → Type 0
EntriesIn Old es = es ≡ no_entries
EntriesIn New es = Unit {0}

numbers-none : numbers_in no_sets ≡ no_entries
unfolding digits_in cells
numbers-none = refl

-- the numbers of a section that was written
numbers-back : (numbers : List ℤ) → D.Clues numbers → numbers_in (digit_sets (givens_of numbers)) ≡ numbers
numbers-back numbers ok = ap clues_from (digits-again (givens_of numbers) (clues-givens numbers)) ∙ clues-again numbers ok

record EnteredBack (k : Form) (clues entries : List ℤ) (bs : List ℕ) (i : ℕ) : Type 0 where
  pub sets : List ℕ
  pub is : read_entry_section k clues bs i ≡ gives (with_sets sets (i + length (entry_section k (digit_sets (givens_of entries)))))
  pub numbers : entries ≡ numbers_in sets

entered-back : (k : Form) (clues entries : List ℤ) → D.Entries clues entries → EntriesIn k entries → (bs : List ℕ) (i : ℕ) (t : List ℕ)
    → drop i bs ≡ entry_section k (digit_sets (givens_of entries)) ++ t → EnteredBack k clues entries bs i
entered-back Old clues entries en none bs i t q =
    record { sets = no_sets; is = ap (λ (j : ℕ). gives (with_sets no_sets j)) (sym (add-zero i)); numbers = none ∙ sym numbers-none }
entered-back New clues entries en none bs i t q =
    record {
      sets = digit_sets (givens_of entries);
      is = section-back Digits (open_sets (givens_of clues) all_sets) (digit_sets (givens_of entries)) bs i t (entries-hold clues entries en) q;
      numbers = sym (numbers-back entries (entries-clues clues entries en));
    }

record EnteredOf (k : Form) (clues : List ℤ) (bs : List ℕ) (i : ℕ) (e : SectionRead) : Type 0 where
  pub good : D.Entries clues (numbers_in e.sets)
  pub held : EntriesIn k (numbers_in e.sets)
  pub bytes : drop i bs ≡ entry_section k (digit_sets (givens_of (numbers_in e.sets))) ++ drop e.next bs

entered_of : (k : Form) (clues : List ℤ) (bs : List ℕ) → Bytes bs → (i : ℕ) (e : SectionRead) → read_entry_section k clues bs i ≡ gives e → EnteredOf k clues bs i e
entered_of Old clues bs h i e q =
    subst (EnteredOf Old clues bs i) (gives_same q)
    (record { good = subst (D.Entries clues) (sym numbers-none) (no-entries clues); held = numbers-none; bytes = refl })
entered_of New clues bs h i e q =
    let w = section-of Digits (open_sets (givens_of clues) all_sets) bs i e h.small q in
    let ok = digits-good (open_sets (givens_of clues) all_sets) e.sets w.0 in
    let same = ap digit_sets (givens-again (digits_in e.sets) ok) ∙ digit-sets-again (open_sets (givens_of clues) all_sets) e.sets w.0 in
    record {
      good = entries-good clues e.sets w.0;
      held = tt;
      bytes = w.1 ∙ ap (λ (s : List ℕ). section_bytes Digits s ++ drop e.next bs) (sym same);
    }

-- ---- reading what was written

module _ (k : Form) (b : Board) (a : Admitted b) (held : EntriesIn k b.entries) where
  good : D.Clues b.clues × D.Entries b.clues b.entries × Admissible (givens b) b.masks
  good = admits b a

  module _ (bs first second third removed : List ℕ) (p : first ≡ section_bytes Digits (digit_sets (givens_of b.clues)))
      (q : second ≡ entry_section k (digit_sets (givens_of b.entries))) (ls : removed ≡ lacking (fresh (givens b)) b.masks) (t : third ≡ section_bytes Removed removed) (all : bs ≡ first ++ (second ++ third)) where
    n₁ : ℕ
    n₁ = 0 + length (section_bytes Digits (digit_sets (givens_of b.clues)))

    n₂ : ℕ
    n₂ = n₁ + length (entry_section k (digit_sets (givens_of b.entries)))

    clue-section : read_section Digits all_sets bs 0 ≡ gives (with_sets (digit_sets (givens_of b.clues)) n₁)
    unfolding n₁
    clue-section =
        section-back Digits all_sets (digit_sets (givens_of b.clues)) bs 0 (second ++ third) (clues-hold (givens_of b.clues) (clues-givens b.clues))
        (all ∙ ap (λ (x : List ℕ). x ++ (second ++ third)) p)

    after_first : drop n₁ bs ≡ second ++ third
    unfolding n₁
    after_first = ap (drop n₁) all ∙ drop_at first (second ++ third) n₁ (ap length p ∙ sym (zero-add (length (section_bytes Digits (digit_sets (givens_of b.clues))))))

    after-second : drop n₂ bs ≡ third
    unfolding n₂
    after-second =
        sym (drop-drop (length (entry_section k (digit_sets (givens_of b.entries)))) n₁ bs)
        ∙ ap (drop (length (entry_section k (digit_sets (givens_of b.entries))))) after_first
        ∙ drop_at second third (length (entry_section k (digit_sets (givens_of b.entries)))) (ap length q)

    entry-section : EnteredBack k b.clues b.entries bs n₁
    entry-section = entered-back k b.clues b.entries good.1 held bs n₁ third (after_first ∙ ap (λ (x : List ℕ). x ++ third) q)

    removed-section : read_section Removed (open_sets (givens b) (fresh (givens b))) bs n₂ ≡ gives (with_sets removed (n₂ + length (section_bytes Removed removed)))
    removed-section =
        section-back Removed (open_sets (givens b) (fresh (givens b))) removed bs n₂ []
        (subst (Holds Removed (open_sets (givens b) (fresh (givens b)))) (sym ls) (removals-hold (givens b) (clues-givens (together b.clues b.entries)) b.masks good.2))
        (after-second ∙ t ∙ sym (append-nil (section_bytes Removed removed)))

    end : length bs ≤ n₂ + length (section_bytes Removed removed)
    unfolding n₂ n₁
    end = omega (arith, ap length all, length-append first (second ++ third), length-append second third, ap length p, ap length q, ap length t)

    board : board_from b.clues b.entries removed ≡ b
    unfolding board_from
    board =
        let w = ap (lacking (fresh (givens b))) ls ∙ lacking-twice (fresh (givens b)) b.masks good.2.size (λ c h. good.2.under.at c) in
        λ i. record { clues = b.clues; entries = b.entries; masks = w i }

    all_read : read_in k bs ≡ gives b
    unfolding n₂
    all_read =
        sym (sym (ap gives board) ∙ removed-read b.clues b.entries bs n₂ (sym removed-section) end
        ∙ entered-read k b.clues bs n₁ (sym entry-section.is) entry-section.numbers ∙ clues-read k bs (sym clue-section) (sym (numbers-back b.clues good.0)))

  pub read_back : read_in k (bytes_in k b) ≡ gives b
  unfolding bytes_in
  read_back =
      all_read (bytes_in k b) (section_bytes Digits (digit_sets (givens_of b.clues))) (entry_section k (digit_sets (givens_of b.entries)))
      (section_bytes Removed (lacking (fresh (givens b)) b.masks)) (lacking (fresh (givens b)) b.masks) refl refl refl refl refl

-- ---- writing what was read

pub record WrittenAgain (k : Form) (bs : List ℕ) (b : Board) : Type 0 where
  pub admitted : Admitted b
  pub held : EntriesIn k b.entries
  pub bytes : bytes_in k b ≡ bs

module _ (k : Form) (bs : List ℕ) (h : Bytes bs) where
  -- c, e and r are the sections
  module _ (c e r : SectionRead) (p : read_section Digits all_sets bs 0 ≡ gives c) (q : read_entry_section k (numbers_in c.sets) bs c.next ≡ gives e)
      (g : List ℕ) (is : g ≡ givens_of (together (numbers_in c.sets) (numbers_in e.sets))) (t : read_section Removed (open_sets g (fresh g)) bs e.next ≡ gives r) (end : length bs ≤ r.next) where
    clue-part : Holds Digits all_sets c.sets × (drop 0 bs ≡ section_bytes Digits c.sets ++ drop c.next bs)
    clue-part = section-of Digits all_sets bs 0 c h.small p

    entry-part : EnteredOf k (numbers_in c.sets) bs c.next e
    entry-part = entered_of k (numbers_in c.sets) bs h c.next e q

    removed-part : Holds Removed (open_sets g (fresh g)) r.sets × (drop e.next bs ≡ section_bytes Removed r.sets ++ drop r.next bs)
    removed-part = section-of Removed (open_sets g (fresh g)) bs e.next r h.small t

    digits : Givens (digits_in c.sets)
    digits = digits-good all_sets c.sets clue-part.0

    ok : Givens g
    ok = subst Givens (sym is) (clues-givens (together (numbers_in c.sets) (numbers_in e.sets)))

    removals : r.sets ≡ lacking (fresh g) (lacking (fresh g) r.sets)
    removals = sym (lacking-twice (fresh g) r.sets removed-part.0.size (λ k l. removals-fresh g ok r.sets removed-part.0 k))

    read-board : Board
    read-board = record { clues = numbers_in c.sets; entries = numbers_in e.sets; masks = lacking (fresh g) r.sets }

    is-board : read-board ≡ board_from (numbers_in c.sets) (numbers_in e.sets) r.sets
    unfolding board_from read-board
    is-board = λ i. record { clues = numbers_in c.sets; entries = numbers_in e.sets; masks = lacking (fresh (is i)) r.sets }

    bytes-again : bytes_in k read-board ≡ bs
    unfolding read-board
    bytes-again =
        sym (record_is k read-board is refl (sym (ap digit_sets (givens-again (digits_in c.sets) digits) ∙ digit-sets-again all_sets c.sets clue-part.0)) refl removals)
        ∙ sym (clue-part.1 ∙ ap (λ (x : List ℕ). section_bytes Digits c.sets ++ x) (entry-part.bytes
        ∙ ap (λ (x : List ℕ). entry_section k (digit_sets (givens_of (numbers_in e.sets))) ++ x) (removed-part.1
        ∙ ap (λ (x : List ℕ). section_bytes Removed r.sets ++ x) (drop_of_length-le bs end) ∙ append-nil (section_bytes Removed r.sets))))

    board-admitted : Admitted read-board
    unfolding read-board
    board-admitted =
        let cl = clues-good (digits_in c.sets) digits in
        let m = read-admissible g ok r.sets removed-part.0 in
        record {
          clues = cl.size;
          entries = entry-part.good.size;
          masks = m.size;
          taken = admitted read-board cl entry-part.good (subst (λ (x : List ℕ). Admissible x (lacking (fresh g) r.sets)) is m);
        }

    again-here : WrittenAgain k bs (board_from (numbers_in c.sets) (numbers_in e.sets) r.sets)
    unfolding read-board
    again-here = subst (WrittenAgain k bs) is-board (record { admitted = board-admitted; held = entry-part.held; bytes = bytes-again })

  pub write_again : (b : Board) → read_in k bs ≡ gives b → WrittenAgain k bs b
  unfolding read_in read_entered read_removed
  write_again b t =
      let c = then-gives (read_section Digits all_sets bs 0) t in
      let clues = numbers_in c.0.sets in
      let e = then-gives (read_entry_section k clues bs c.0.next) c.2 in
      let g = givens_of (together clues (numbers_in e.0.sets)) in
      let r = then-gives (read_section Removed (open_sets g (fresh g)) bs e.0.next) e.2 in
      let w = tested-gives (leb (length bs) r.0.next) _ _ r.2 in
      subst (WrittenAgain k bs) (gives_same w.1) (again-here c.0 e.0 r.0 c.1 e.1 g refl r.1 (leb-true (length bs) r.0.next w.0))

-- ---- the laws

pub record-laws : RecordLaws
record-laws =
    record {
      back = λ b a. read_back New b a tt;
      again = λ bs h b t. let w = write_again New bs h b t in (w.admitted, w.bytes);
      size = record-size;
      same = λ a b p q. (λ e. ap record_of e, λ e. gives_same (sym (read_back New a p tt) ∙ ap read_of e ∙ read_back New b q tt));
    }
