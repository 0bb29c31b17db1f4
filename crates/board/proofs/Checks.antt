-- The check of a handed board as the code makes it: a mask beside the fresh one, and the first cells of stops 3, 8 and 9. Assumes nothing.
use mathlib.Core.Path.{◌≡◌, refl, sym, ap, ap₂, ◌∙◌}
use mathlib.Core.Bool.{not, ◌&&◌, and-true, and-false}
use mathlib.Core.List.{List}
use mathlib.Core.Option.{Option}
use Prim.Native.Nat.{ℕ}
use native.Mathlib.Decide.{ℕ_discrete}
use borrow.Author.Tests.{eq-eqb, ne_eqb}
use lib.Dec.{eqb}
use lib.IntN.{ℤ, pos}
use lib.ListN.{get_or}
use Rattle.stops.specs.Answer.{gives, stop_at, then, passing}
use Rattle.stops.specs.declared.Stop.TheVariants.{BadClue, BadEntry, BadMask}
use Rattle.candidates.specs.Masks.{minus}
use Rattle.candidates.proofs.Order.{sub_refl, minus-of-sub}
use Rattle.grid.specs.Cells.{cells}
use Rattle.steps.specs.Boards.{Board, at, givens, given, fresh}
use Rattle.steps.specs.Calls.{Clues, Entries, bad_clue, bad_entry, bad_mask, first_bad_clue, first_bad_entry, check_of, opened, opened_with}
use Rattle.steps.specs.Loops.{first}
use Rattle.steps.proofs.Fresh.{fresh_at_lem}
use Rattle.board.specs.Boards.{open_of, open_with_of}
use Rattle.board.specs.code.Checks.{misfit_of, first_misfit}
use Rattle.steps.proofs.Searches.{first-cells, cells-none}

-- ---- one mask

module _ (x f d : ℕ) where
  pub open-misfit : d ≡ 0 → not (eqb (minus x f) 0) ≡ misfit_of x f d
  open-misfit e = rw (eq-eqb d 0 e) (sym (ap not (and-true (eqb (minus x f) 0))))

  pub clue-misfit : (d ≡ 0 → ⊥) → not (eqb x f) ≡ misfit_of x f d
  clue-misfit n = rw (ne_eqb d 0 n) (go (ℕ_discrete x f))
    where
      go : Dec (x ≡ f) → not (eqb x f) ≡ not (eqb (minus x f) 0 && eqb x f)
      go (yes e) = rw (eq-eqb (minus x f) 0 (rw e (minus-of-sub (sub_refl f)))) refl
      go (no m) = rw (ne_eqb x f m) (sym (ap not (and-false (eqb (minus x f) 0))))

-- ---- the searches

pub checks : (b : Board) {g f : List ℕ} → g ≡ givens b → f ≡ fresh g
    → then (stop_at BadClue (first_bad_clue b.clues)) (λ _. then (stop_at BadEntry (first_bad_entry b.clues b.entries)) (λ _. stop_at BadMask (first_misfit g f b.masks))) ≡ check_of b
unfolding check_of
checks b {g} {f} p q =
    ap (λ (x : Option ℕ). then (stop_at BadClue (first_bad_clue b.clues)) (λ _. then (stop_at BadEntry (first_bad_entry b.clues b.entries)) (λ _. stop_at BadMask x)))
    (ap (λ (f : List ℕ). first_misfit g f b.masks) q ∙ same g ∙ ap (λ (g : List ℕ). first (bad_mask g b.masks) cells) p)
  where
    same : (g : List ℕ) → first_misfit g (fresh g) b.masks ≡ first (bad_mask g b.masks) cells
    same g =
        first-cells (λ c. misfit_of (at b.masks c) (at (fresh g) c) (given g c)) (bad_mask g b.masks)
        (λ c h. ap (λ (f : ℕ). misfit_of (at b.masks c) f (given g c)) (fresh_at_lem g c h))

-- ---- the opener

pub clues-open : (clues : List ℤ) → Clues clues → open_of clues ≡ gives (opened clues)
unfolding open_of
clues-open clues ok = ap (λ (x : Option ℕ). passing (stop_at BadClue x) (opened clues)) (cells-none (λ c. bad_clue (get_or clues c (pos 0))) ok.good)

pub entries-open : (clues entries : List ℤ) → Clues clues → Entries clues entries → open_with_of clues entries ≡ gives (opened_with clues entries)
unfolding open_with_of
entries-open clues entries ok en =
    ap₂ (λ (x y : Option ℕ). then (stop_at BadClue x) (λ _. passing (stop_at BadEntry y) (opened_with clues entries)))
    (cells-none (λ c. bad_clue (get_or clues c (pos 0))) ok.good)
    (cells-none (λ c. bad_entry (get_or clues c (pos 0)) (get_or entries c (pos 0))) en.good)
