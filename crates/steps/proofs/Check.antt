-- The check of a handed board: it admits just the boards whose clues are 0 to 9, whose entries are 0 to 9 and on no clue, and whose masks are admissible. Assumes nothing.
use mathlib.Core.Path.{◌≡◌, refl, sym, ap, ◌∙◌, subst}
use mathlib.Core.Logic.{⊎_elim}
use mathlib.Core.Bool.{Bool, true, false, not, ◌&&◌, ◌||◌, true≢false}
use mathlib.Core.List.{List}
use mathlib.Core.Option.{Option, none, some}
use Prim.Native.Nat.{ℕ, ◌≤◌, ◌<◌, zero-le}
use native.Mathlib.Decide.{dec_lt}
use native.Mathlib.Omega.{arith}
use borrow.Author.Tests.{eqb-true, eq-eqb, leb-true, not-true, not-false}
use lib.Dec.{T, eqb, leb}
use lib.IntN.{ℤ, pos, negsuc}
use lib.ListN.{length, get_or, get_or-eq_default}
use Rattle.stops.specs.Answer.{Answer, gives, stop_at, then}
use Rattle.stops.specs.declared.Stop.{Stop}
use Rattle.stops.specs.declared.Stop.TheVariants.{BadClue, BadEntry, BadMask}
use Rattle.stops.proofs.Answers.{stop-gives}
use Rattle.candidates.specs.Masks.{Sub, minus}
use Rattle.candidates.proofs.Tests.{all_below, below, by-test, cond-true, T_true, both_left, both_right, either}
use Rattle.candidates.proofs.Order.{sub-none, sub-of-minus, minus-of-sub}
use Rattle.grid.specs.Cells.{cells}
use Rattle.grid.proofs.Cells.{at_cells}
use Rattle.steps.specs.Boards.{Board, at, digit_of, givens_of, givens, given, is_open, fresh_at, fresh, Givens, Admissible}
use Rattle.steps.specs.Calls.{Clues, Entries, bad_clue, bad_entry, misfit, bad_mask, first_bad_clue, first_bad_entry, check_of, Admitted}
use Rattle.steps.specs.Loops.{first}
use Rattle.steps.proofs.Fresh.{fresh_at_lem, fresh-out}
use Rattle.steps.proofs.Searches.{cells-none, none-cells}

-- ---- clues and givens

pub digit-small : (z : ℤ) → digit_of z ≤ 9
digit-small (pos n) = by-test (λ (k : ℕ). k ≤ 9) (leb n 9) n 0 (λ t. leb-true n 9 t) (λ t. zero-le)
digit-small (negsuc n) = zero-le

pub good-digit : (z : ℤ) → bad_clue z ≡ false → pos (digit_of z) ≡ z
good-digit (pos n) e = ap pos (cond-true (leb n 9) n 0 (not-false (leb n 9) e))
good-digit (negsuc n) e = absurd (true≢false e)

pub givens-length : (clues : List ℤ) → length (givens_of clues) ≡ 81
unfolding givens_of cells
givens-length clues = refl

pub given-clue : (clues : List ℤ) (c : ℕ) → c < 81 → given (givens_of clues) c ≡ digit_of (get_or clues c (pos 0))
unfolding givens_of
given-clue clues c h = at_cells 0 (λ c. digit_of (get_or clues c (pos 0))) c h

pub clues-givens : (clues : List ℤ) → Givens (givens_of clues)
clues-givens clues = record { size = givens-length clues; small = λ c. go c (dec_lt c 81) }
  where
    go : (c : ℕ) → Dec (c < 81) → given (givens_of clues) c ≤ 9
    go c (yes h) = rw (given-clue clues c h) (digit-small (get_or clues c (pos 0)))
    go c (no h) = rw (get_or-eq_default (givens_of clues) 0 {n = c} (omega (arith, givens-length clues))) zero-le

-- clues by one test that the checker computes
pub clues-by : (clues : List ℤ) → length clues ≡ 81 → T (all_below 81 (λ c. not (bad_clue (get_or clues c (pos 0))))) → Clues clues
clues-by clues l t =
    record { size = l; good = λ c h. not-true (bad_clue (get_or clues c (pos 0))) (T_true _ (below 81 (λ c. not (bad_clue (get_or clues c (pos 0)))) t c h)) }

-- ---- masks

pub fitting : (x f : ℕ) (o : Bool) → misfit x f o ≡ false → Sub x f × (o ≡ false → x ≡ f)
fitting x f o t =
    let w = not-false (eqb (minus x f) 0 && (o || eqb x f)) t in (
      sub-of-minus x f (eqb-true (minus x f) 0 (both_left (eqb (minus x f) 0) (o || eqb x f) w)),
      λ h. ⊎_elim (λ p. absurd (true≢false (sym p ∙ h))) (λ p. eqb-true x f p) ((either o (eqb x f)).0 (both_right (eqb (minus x f) 0) (o || eqb x f) w)),
    )

fits : (x f : ℕ) (o : Bool) → Sub x f → (o ≡ false → x ≡ f) → misfit x f o ≡ false
fits x f true p q = rw (eq-eqb (minus x f) 0 (minus-of-sub p))
fits x f false p q = rw (eq-eqb (minus x f) 0 (minus-of-sub p), eq-eqb x f (q refl))

module _ (g m : List ℕ) where
  pub admissible-good : Admissible g m → (c : ℕ) → c < 81 → bad_mask g m c ≡ false
  admissible-good a c h =
      fits (at m c) (fresh_at g c) (is_open g c) (subst (λ (x : ℕ). Sub (at m c) x) (fresh_at_lem g c h) (a.under.at c))
      (λ f. a.clues c f ∙ fresh_at_lem g c h)

  pub good-admissible : length m ≡ 81 → ((c : ℕ) → c < 81 → bad_mask g m c ≡ false) → Admissible g m
  good-admissible l h = record { size = l; under = record { at = λ c. below c (dec_lt c 81) }; clues = λ c f. same c f (dec_lt c 81) }
    where
      out : (c : ℕ) → 81 ≤ c → at m c ≡ 0
      out c k = get_or-eq_default m 0 {n = c} (omega arith)

      below : (c : ℕ) → Dec (c < 81) → Sub (at m c) (at (fresh g) c)
      below c (yes k) = rw (fresh_at_lem g c k) (fitting (at m c) (fresh_at g c) (is_open g c) (h c k)).0
      below c (no k) = rw (out c (omega arith)) (sub-none (at (fresh g) c))

      same : (c : ℕ) → is_open g c ≡ false → Dec (c < 81) → at m c ≡ at (fresh g) c
      same c f (yes k) = (fitting (at m c) (fresh_at g c) (is_open g c) (h c k)).1 f ∙ sym (fresh_at_lem g c k)
      same c f (no k) = out c (omega arith) ∙ sym (fresh-out g c (omega arith))

-- ---- the check

-- no stop here, and none later
pub stop-none : (case : ℤ → Stop) (x : Option ℕ) (later : Answer (Unit {0})) → then (stop_at case x) (λ _. later) ≡ gives tt → (x ≡ none) × (later ≡ gives tt)
stop-none case none later t = (refl, t)
stop-none case (some c) later t = absurd (stop-gives t)

-- none at the end
pub last_none : (case : ℤ → Stop) (x : Option ℕ) → stop_at case x ≡ gives tt → x ≡ none
last_none case none t = refl
last_none case (some c) t = absurd (stop-gives t)

-- the three answers of the check
module _ (b : Board) where
  abbrev pub mask_check : Answer (Unit {0})
  mask_check = stop_at BadMask (first (bad_mask (givens b) b.masks) cells)

  abbrev pub entry_check : Answer (Unit {0})
  entry_check = then (stop_at BadEntry (first_bad_entry b.clues b.entries)) (λ _. mask_check)

  pub admitted : Clues b.clues → Entries b.clues b.entries → Admissible (givens b) b.masks → check_of b ≡ gives tt
  unfolding check_of
  admitted ok en a =
      ap (λ (x : Option ℕ). then (stop_at BadClue x) (λ _. entry_check)) (cells-none (λ c. bad_clue (get_or b.clues c (pos 0))) ok.good)
      ∙ ap (λ (x : Option ℕ). then (stop_at BadEntry x) (λ _. mask_check)) (cells-none (λ c. bad_entry (get_or b.clues c (pos 0)) (get_or b.entries c (pos 0))) en.good)
      ∙ ap (stop_at BadMask) (cells-none (bad_mask (givens b) b.masks) (admissible-good (givens b) b.masks a))

  -- where the check found nothing
  pub none_found : check_of b ≡ gives tt → (first_bad_clue b.clues ≡ none) × (first_bad_entry b.clues b.entries ≡ none) × (first (bad_mask (givens b) b.masks) cells ≡ none)
  unfolding check_of
  none_found t =
      let x = stop-none BadClue (first_bad_clue b.clues) entry_check t in
      let y = stop-none BadEntry (first_bad_entry b.clues b.entries) mask_check x.1 in
      (x.0, y.0, last_none BadMask (first (bad_mask (givens b) b.masks) cells) y.1)

  pub admits : Admitted b → Clues b.clues × Entries b.clues b.entries × Admissible (givens b) b.masks
  admits w =
      let n = none_found w.taken in (
        record { size = w.clues; good = none-cells (λ c. bad_clue (get_or b.clues c (pos 0))) n.0 },
        record { size = w.entries; good = none-cells (λ c. bad_entry (get_or b.clues c (pos 0)) (get_or b.entries c (pos 0))) n.1 },
        good-admissible (givens b) b.masks w.masks (none-cells (bad_mask (givens b) b.masks) n.2),
      )
