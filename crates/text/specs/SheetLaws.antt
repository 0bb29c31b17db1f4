-- What is promised of pasted sheets (document 02, F-2).
use Rattle.std.specs.Prelude.{◌≡◌, ◌↔◌, true, List, [], ◌∷◌, map, ℕ, zero, suc, ◌+◌, ◌≤◌, ℤ, pos, length}
use Rattle.stops.specs.Answer.{gives, stop}
use Rattle.stops.specs.declared.Stop.TheVariants.{OtherByte, SheetCells}
use Rattle.steps.specs.Calls.{Clues}
use Rattle.text.specs.Sheets.{passed_over, unruled, sheet_of, canonical_sheet}
use Rattle.text.specs.Texts.{byte_cell, parse_of}

-- the second sheet is the first with passed-over bytes inserted, anywhere
pub data Ruled : List ℕ → List ℕ → Type 0 where
  done : Ruled [] []
  kept : (b : ℕ) {s t : List ℕ} → Ruled s t → Ruled (b ∷ s) (b ∷ t)
  inserted : (b : ℕ) {s t : List ℕ} → passed_over b ≡ true → Ruled s t → Ruled s (b ∷ t)

-- how many of them were inserted before the byte at an offset of the first
abbrev pub inserted_before : {s t : List ℕ} → Ruled s t → ℕ → ℕ
inserted_before done i = 0
inserted_before (kept b r) zero = 0
inserted_before (kept b r) (suc i) = inserted_before r i
inserted_before (inserted b p r) i = suc (inserted_before r i)

pub record SheetLaws : Type 0 where
  -- "Two accepted sheets with equal cells give equal canonical bytes", and only they do
  pub same : (s t : List ℕ) (y z : List ℤ) → sheet_of s ≡ gives y → sheet_of t ≡ gives z
      → (map byte_cell (unruled s) ≡ map byte_cell (unruled t)) ↔ (canonical_sheet y ≡ canonical_sheet z)
  -- "and reading those gives the cells back"
  pub back : (clues : List ℤ) → Clues clues → sheet_of (canonical_sheet clues) ≡ gives clues
  -- an accepted sheet's cells are 81 clues
  pub clues : (s : List ℕ) (z : List ℤ) → sheet_of s ≡ gives z → Clues z
  -- "takes the other bytes as 01's text reader does": what is left of an accepted sheet is a text that it accepts, with the same cells
  pub left : (s : List ℕ) (z : List ℤ) → length s ≤ 4096 → (sheet_of s ≡ gives z) ↔ (parse_of (unruled s) ≡ gives z)
  -- a text that 01's reader accepts is a sheet with the same cells
  pub text : (t : List ℕ) (z : List ℤ) → parse_of t ≡ gives z → sheet_of t ≡ gives z
  -- rulings more, within 4,096 bytes: the cells stay, and so does 11's count; 2's offset moves by what was inserted before it
  pub cells : {s t : List ℕ} → Ruled s t → length t ≤ 4096 → (z : List ℤ) → sheet_of s ≡ gives z → sheet_of t ≡ gives z
  pub count : {s t : List ℕ} → Ruled s t → length t ≤ 4096 → (n : ℤ) → sheet_of s ≡ stop (SheetCells n) → sheet_of t ≡ stop (SheetCells n)
  pub offset : {s t : List ℕ} (r : Ruled s t) → length t ≤ 4096 → (i : ℕ) → sheet_of s ≡ stop (OtherByte (pos i)) → sheet_of t ≡ stop (OtherByte (pos (i + inserted_before r i)))
