-- Place does nothing at a digit that is not due: two cells hold it, or a cell that holds nothing else. Assumes nothing.
use mathlib.Core.Path.{◌≡◌, refl, sym, ap, ◌∙◌, subst}
use mathlib.Core.Logic.{◌⊎◌, inl, inr, ⊎_elim}
use mathlib.Core.Bool.{Bool, true, false, not, ◌&&◌, true≢false}
use mathlib.Core.List.{List}
use Prim.Native.Nat.{ℕ, ◌<◌}
use native.Mathlib.Omega.{arith}
use borrow.Author.Tests.{eqb-true, ne_eqb}
use lib.Bits.{bit_and}
use lib.Dec.{eqb}
use Rattle.candidates.specs.Masks.{has, minus, count, single}
use Rattle.candidates.proofs.Counts.{count-zero, and-except}
use Rattle.candidates.proofs.FewDigits.{count-without}
use Rattle.candidates.proofs.Held.{Held, none-held, has-minus, held-minus, held-power, held-sub, held_all, held-ext}
use Rattle.candidates.proofs.Order.{apart-sub, sub-of-minus}
use Rattle.candidates.proofs.Tests.{by-test, cond-false}
use Rattle.grid.specs.Units.{unit_cell}
use Rattle.steps.specs.Boards.{at, is_open}
use Rattle.steps.specs.Loops.{up_to}
use Rattle.steps.specs.Steps.{lose_at}
use Rattle.steps.proofs.Loops.{in-up_to, each-idle}
use Rattle.steps.proofs.Steps.{lose-none}
use Rattle.cells.specs.code.Places.{all_masks, held_places}
use Rattle.cells.specs.code.Unions.{joined, shared_of, several_of}
use Rattle.cells.proofs.Places.{all-mask}
use Rattle.cells.proofs.HeldPlaces.{has-held}
use Rattle.cells.proofs.NineBits.{has-except, held-meet}
use Rattle.cells.proofs.Shared.{Twice, shared-twice, joined-held, several-not}
use Rattle.lanes.specs.code.Lanes.{nines}
use Rattle.lone_place.specs.code.Turns.{place_turn, place_digit}
use Rattle.lone_place.specs.code.Due.{due_of}
use Rattle.lone_place.proofs.PlaceTurns.{place-digit}
use Rattle.lone_place.proofs.UnitLanes.{nines-at}

-- ---- what is not due

module _ (nine : List ℕ) (d : ℕ) (l : d < 9) where
  pub held-nine : (i : ℕ) → i < 9 → Held (at nine i) d → Held (at (nines nine) i) d
  held-nine i n t = subst (λ (x : ℕ). Held x d) (sym (nines-at nine i n)) ((held-meet (at nine i) 511 d).1 (t, held_all d l))

  cases : has (due_of nine) d ≡ false → Held (shared_of nine) d ⊎ (Held (joined nine) d × (Held (several_of nine) d → ⊥))
  unfolding due_of
  cases t = go (has (shared_of nine) d) (has (joined nine) d) (has (several_of nine) d) refl refl refl (sym says ∙ t)
    where
      says : has (due_of nine) d ≡ (not (has (shared_of nine) d) && not (has (joined nine) d && not (has (several_of nine) d)))
      says =
          has-minus (minus 511 (shared_of nine)) (minus (joined nine) (several_of nine)) d
          ∙ ap (λ (b : Bool). b && not (has (minus (joined nine) (several_of nine)) d)) (has-except (shared_of nine) d l)
          ∙ ap (λ (b : Bool). not (has (shared_of nine) d) && not b) (has-minus (joined nine) (several_of nine) d)

      go : (s j c : Bool) → has (shared_of nine) d ≡ s → has (joined nine) d ≡ j → has (several_of nine) d ≡ c
          → (not (has (shared_of nine) d) && not (has (joined nine) d && not (has (several_of nine) d))) ≡ false → Held (shared_of nine) d ⊎ (Held (joined nine) d × (Held (several_of nine) d → ⊥))
      go true j c p q r e = inl p
      go false true false p q r e = inr (q, λ h. true≢false (sym h ∙ r))
      go false true true p q r e = absurd (true≢false (rw (p, q, r) at e))
      go false false c p q r e = absurd (true≢false (rw (p, q) at e))

module _ (g m : List ℕ) (u d : ℕ) (h : u < 27) (l : d < 9) where
  -- the places that hold d are those of the cells
  held : (i : ℕ) → i < 9 → Held (at (all_masks m u) i) d → Held (held_places m u d) i
  held i n t = has-held m u d h i n ∙ ap (λ (x : ℕ). has x d) (sym (all-mask m u i h n)) ∙ t

  alone : (k i : ℕ) → k < 9 → i < 9 → minus (held_places m u d) (single k) ≡ 0 → Held (at (all_masks m u) i) d → i ≡ k
  alone k i n o e t =
      (held-power k i).0 (held-sub i (sub-of-minus (held_places m u d) (single k) e) (held i o t))

  twice-idle : Twice (all_masks m u) d → place_digit g u d m ≡ m
  twice-idle w =
      place-digit g u d h l m
      ∙ each-idle (place_turn g u d (held_places m u d)) (up_to 9) m
      (λ k o. unfold place_turn in
      cond-false (eqb (minus (held_places m u d) (single k)) 0) (lose_at (is_open g) (unit_cell u k) (minus 511 (single d)) m) m
      (ne_eqb (minus (held_places m u d) (single k)) 0 (λ e. clash k (in-up_to 9 k o) e)))
    where
      clash : (k : ℕ) → k < 9 → minus (held_places m u d) (single k) ≡ 0 → ⊥
      clash k n e =
          let below = w.below in
          let rise = w.rise in
          let p = alone k w.first n (omega arith) e w.held₁ in
          let q = alone k w.second n below e w.held₂ in
          omega arith

  -- a mask that holds d and nothing else loses nothing
  only-digit : (x : ℕ) → Held x d → count x ≡ 1 → bit_and x (minus 511 (single d)) ≡ 0
  only-digit x t e =
      apart-sub (minus 511 (single d))
      (sub-of-minus x (single d) (count-zero (minus x (single d)) (omega (arith, count-without x d t))))
      (and-except (single d))

  -- cells that hold d and lose nothing to it
  alone-idle : (i : ℕ) → i < 9 → Held (at (all_masks m u) i) d → ((j : ℕ) → j < 9 → Held (at (all_masks m u) j) d → bit_and (at (all_masks m u) j) (minus 511 (single d)) ≡ 0) → place_digit g u d m ≡ m
  alone-idle i o t one =
      place-digit g u d h l m
      ∙ each-idle (place_turn g u d (held_places m u d)) (up_to 9) m
      (λ k n. unfold place_turn in
      by-test (λ (x : List ℕ). x ≡ m) (eqb (minus (held_places m u d) (single k)) 0) (lose_at (is_open g) (unit_cell u k) (minus 511 (single d)) m) m
      (λ s. lose-none (is_open g) (unit_cell u k) (minus 511 (single d)) m (λ _. none k (in-up_to 9 k n) (eqb-true (minus (held_places m u d) (single k)) 0 s))) (λ s. refl))
    where
      none : (k : ℕ) → k < 9 → minus (held_places m u d) (single k) ≡ 0 → bit_and (at m (unit_cell u k)) (minus 511 (single d)) ≡ 0
      none k n e =
          let q : Held (at (all_masks m u) k) d = subst (λ (j : ℕ). Held (at (all_masks m u) j) d) (alone k i n o e t) t in
          subst (λ (x : ℕ). bit_and x (minus 511 (single d)) ≡ 0) (all-mask m u k h n) (one k n q)

  -- by the nine digits of the masks
  module _ (i : ℕ) (n : i < 9) where
    of-nine : Held (at (nines (all_masks m u)) i) d → Held (at (all_masks m u) i) d
    of-nine t = ((held-meet (at (all_masks m u) i) 511 d).0 (subst (λ (x : ℕ). Held x d) (nines-at (all_masks m u) i n) t)).0

    to-nine : Held (at (all_masks m u) i) d → Held (at (nines (all_masks m u)) i) d
    to-nine t = held-nine (all_masks m u) d l i n t

    none-lost : count (at (nines (all_masks m u)) i) ≡ 1 → Held (at (all_masks m u) i) d → bit_and (at (all_masks m u) i) (minus 511 (single d)) ≡ 0
    none-lost e t =
        held-ext (bit_and (at (all_masks m u) i) (minus 511 (single d))) 0
        (λ v. (
          λ s. let w = (held-meet (at (all_masks m u) i) (minus 511 (single d)) v).0 s in
              subst (λ (x : ℕ). Held x v) (only-digit (at (nines (all_masks m u)) i) (to-nine t) e)
              ((held-meet (at (nines (all_masks m u)) i) (minus 511 (single d)) v).1
              (subst (λ (x : ℕ). Held x v) (sym (nines-at (all_masks m u) i n)) ((held-meet (at (all_masks m u) i) 511 v).1 (w.0, ((held-minus 511 (single d) v).0 w.1).0)), w.1)),
          λ s. absurd (none-held v s),
        ))

  pub nine-not-due : has (due_of (nines (all_masks m u))) d ≡ false → place_digit g u d m ≡ m
  nine-not-due t =
      ⊎_elim
      (λ s. let w = shared-twice (nines (all_masks m u)) d s in
      let a = w.rise in
      let b = w.below in
      twice-idle (record { first = w.first; second = w.second; rise = a; below = b; held₁ = of-nine w.first (omega arith) w.held₁; held₂ = of-nine w.second b w.held₂ }))
      (λ p. let w = joined-held (nines (all_masks m u)) d p.0 in
      alone-idle w.0 w.1 (of-nine w.0 w.1 w.2) (λ j o q. none-lost j o (several-not (nines (all_masks m u)) d p.1 j o (to-nine j o q)) q))
      (cases (nines (all_masks m u)) d l t)
