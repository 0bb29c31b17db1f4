-- What the reader of sheets answers, and how many cells it asks for. Assumes nothing.
use mathlib.Core.Path.{◌≡◌, sym, ap}
use mathlib.Core.Bool.{Bool, true, false, not, ◌&&◌}
use mathlib.Core.List.{List}
use mathlib.Core.Option.{Option}
use Prim.Native.Nat.{ℕ, ◌≤◌, ◌<◌}
use borrow.Author.Tests.{eq-eqb, ne_eqb, le-leb, lt-leb}
use lib.Dec.{eqb, leb}
use lib.IntN.{pos}
use lib.ListN.{length}
use Rattle.stops.specs.Answer.{gives, stop, then, stop_at}
use Rattle.stops.specs.declared.Stop.TheVariants.{OtherByte, SheetLength, SheetCells}
use Rattle.candidates.proofs.Tests.{cond-true, cond-false}
use Rattle.text.specs.Sheets.{passed_over, unruled, is_stranger, first_stranger, cells_in, cells_of, sheet_of}
use Rattle.text.specs.Texts.{is_other, clues_of}

module _ (sheet : List ℕ) where
  pub too_long : 4096 < length sheet → stop (SheetLength (pos (length sheet))) ≡ sheet_of sheet
  unfolding sheet_of
  too_long h = sym (cond-false (leb (length sheet) 4096) _ (stop (SheetLength (pos (length sheet)))) (lt-leb (length sheet) 4096 h))

  pub within : length sheet ≤ 4096 → cells_of sheet ≡ sheet_of sheet
  unfolding sheet_of
  within h = sym (cond-true (leb (length sheet) 4096) _ (stop (SheetLength (pos (length sheet)))) (le-leb (length sheet) 4096 h))

  -- o is the first stranger
  pub cells_told : {o : Option ℕ} → o ≡ first_stranger sheet → then (stop_at OtherByte o) (λ _. cells_in (unruled sheet)) ≡ cells_of sheet
  unfolding cells_of
  cells_told e = ap (λ (x : Option ℕ). then (stop_at OtherByte x) (λ _. cells_in (unruled sheet))) e

module _ (text : List ℕ) where
  pub miscounted : (length text ≡ 81 → ⊥) → stop (SheetCells (pos (length text))) ≡ cells_in text
  miscounted n = sym (cond-false (eqb (length text) 81) (gives (clues_of text)) _ (ne_eqb (length text) 81 n))

  pub counted : length text ≡ 81 → gives (clues_of text) ≡ cells_in text
  counted h = sym (cond-true (eqb (length text) 81) _ (stop (SheetCells (pos (length text)))) (eq-eqb (length text) 81 h))

-- ---- what a byte is in a sheet

module _ (b : ℕ) where
  pub no-stranger : passed_over b ≡ true → false ≡ is_stranger b
  no-stranger e = sym (ap (λ (t : Bool). not t && is_other b) e)

  pub stranger-is : passed_over b ≡ false → is_other b ≡ is_stranger b
  stranger-is e = sym (ap (λ (t : Bool). not t && is_other b) e)
