-- The room that a record takes: a cell has at most one clue and one entry. Assumes nothing.
use mathlib.Core.Path.{◌≡◌, refl, ap, ◌∙◌}
use mathlib.Core.List.{List, ◌++◌}
use Prim.Native.Nat.{ℕ, ◌≤◌}
use native.Mathlib.Omega.{arith}
use lib.IntN.{ℤ}
use lib.ListN.{length, take, length-append}
use Rattle.steps.specs.Boards.{Board, givens, givens_of, fresh}
use Rattle.steps.proofs.Check.{clues-givens}
use Rattle.record.specs.declared.forms.Form.{Form}
use Rattle.record.specs.declared.forms.Form.TheVariants.{Old, New}
use Rattle.record.specs.declared.sections.Section.TheVariants.{Digits, Removed}
use Rattle.record.specs.Records.{digit_sets, lacking, all_sets, entry_section, bytes_in}
use Rattle.record.specs.Sections.{candidates, section_bytes, stored}
use Rattle.record.proofs.BoardSets.{clues-hold}
use Rattle.record.proofs.SectionLaws.{digits-few}
use Rattle.record.proofs.Stores.{first-stored}
use Rattle.record.proofs.Writing.{candidates-few, section-length}

-- the sections of clues and of entries
module _ (numbers : List ℤ) {s : List ℕ} (e : s ≡ digit_sets (givens_of numbers)) where
  pub digits-length : length (section_bytes Digits s) ≤ 163
  digits-length =
      let g = givens_of numbers in
      omega (arith, section-length Digits s, ap (λ (x : List ℕ). length (candidates x)) e, digits-few all_sets (digit_sets g) (clues-hold g (clues-givens numbers)))

  pub entered-length : (k : Form) → length (entry_section k s) ≤ 163
  entered-length Old = omega arith
  entered-length New = digits-length

pub removed-length : (s : List ℕ) → length (section_bytes Removed s) ≤ 1460
removed-length s = omega (arith, section-length Removed s, candidates-few s)

module _ (k : Form) (b : Board) where
  pub record-few : length (bytes_in k b) ≤ 1786
  unfolding bytes_in
  record-few =
      let cs = digit_sets (givens_of b.clues) in
      let es = digit_sets (givens_of b.entries) in
      let ls = lacking (fresh (givens b)) b.masks in
      omega (
        arith,
        length-append (section_bytes Digits cs) (entry_section k es ++ section_bytes Removed ls),
        length-append (entry_section k es) (section_bytes Removed ls),
        digits-length b.clues {s = cs} refl,
        entered-length b.entries {s = es} refl k,
        removed-length ls,
      )

  -- what the writer copies
  pub record-leads : (l : List ℕ) {n : ℕ} {bs : List ℕ} → 1786 ≤ length l → n ≡ length (bytes_in k b) → bs ≡ stored l 0 (bytes_in k b) → take n bs ≡ bytes_in k b
  record-leads l {n} {bs} h p q =
      ap (λ (m : ℕ). take m bs) p ∙ ap (take (length (bytes_in k b))) q ∙ first-stored l (bytes_in k b) (omega (arith, record-few))
