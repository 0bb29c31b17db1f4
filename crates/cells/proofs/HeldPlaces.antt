-- The places of a unit that hold a digit: how code finds them, and what a step's condition says of them. Assumes nothing.
use mathlib.Core.Path.{◌≡◌, refl, sym, ap, ◌∙◌}
use mathlib.Core.Bool.{Bool, true, false, cond, not, ◌||◌, true≢false}
use mathlib.Core.List.{List}
use Prim.Native.Nat.{ℕ, ◌+◌, ◌^◌, ◌≤◌, ◌<◌}
use native.Mathlib.Omega.{arith}
use borrow.Author.Tests.{eq-eqb, ne_eqb, eqb-true}
use lib.Bits.{bit_and, and_zero_r}
use lib.Dec.{eqb}
use lib.ListN.{get_or, replicate}
use Rattle.candidates.specs.Masks.{bit, has, minus, single, gather}
use Rattle.candidates.proofs.Held.{Held, has-none, none-held, held-ext, held-sub, held_below, held-minus, has-gather}
use Rattle.candidates.proofs.Membership.{bit-and, bit-power, bit-none, gather-lt}
use Rattle.candidates.proofs.Order.{sub-of-minus}
use Rattle.candidates.proofs.Tests.{bool_iff}
use Rattle.grid.specs.Units.{unit, unit_cell, Member}
use Rattle.grid.proofs.Lists.{map_same, all_same}
use Rattle.grid.proofs.Units.{mem-member, member-mem, at_place, past-table}
use Rattle.steps.specs.Boards.{at}
use Rattle.steps.specs.Loops.{all, up_to}
use Rattle.steps.specs.Steps.{lacks}
use Rattle.steps.proofs.Loops.{all-member, member-all}
use Rattle.cells.specs.code.Places.{open_mask, unit_masks, all_masks, spots_in, held_places, line_spots}
use Rattle.cells.proofs.Places.{gather-same, unit-mask, all-mask}
use Rattle.cells.proofs.NineBits.{not-held}

-- ---- the places that hold a digit

module _ (m : List ℕ) (u d : ℕ) where
  pub held_small : held_places m u d < 2 ^ 9
  unfolding held_places spots_in
  held_small = gather-lt (λ i. has (at (all_masks m u) i) d) 9

  module _ (h : u < 27) where
    held-are : held_places m u d ≡ gather (λ i. has (at m (unit_cell u i)) d) 9
    unfolding held_places spots_in
    held-are =
        gather-same (λ i. has (at (all_masks m u) i) d) (λ i. has (at m (unit_cell u i)) d) 9
        (λ i l. ap (λ (x : ℕ). has x d) (all-mask m u i h l))

    pub has-held : (i : ℕ) → i < 9 → has (held_places m u d) i ≡ has (at m (unit_cell u i)) d
    has-held i l = ap (λ (x : ℕ). has x i) held-are ∙ has-gather (λ i. has (at m (unit_cell u i)) d) 9 i l

-- masks whose cells of the unit agree on d
pub held_same : (m n : List ℕ) (u d : ℕ) → u < 27 → ((i : ℕ) → i < 9 → has (at m (unit_cell u i)) d ≡ has (at n (unit_cell u i)) d) → held_places m u d ≡ held_places n u d
held_same m n u d h same =
    held-are m u d h ∙ gather-same (λ i. has (at m (unit_cell u i)) d) (λ i. has (at n (unit_cell u i)) d) 9 same ∙ sym (held-are n u d h)

-- past the units there are no cells
pub spots-past : (g m : List ℕ) (f d : ℕ) → 27 ≤ f → replicate 9 0 ≡ line_spots g m f d
unfolding line_spots spots_in gather
spots-past g m f d h =
    map_same (λ i. 0) (λ i. spots_in (unit_masks g m (f + i)) d) (up_to 9)
    (λ i k. sym (gather-same (λ j. has (at (unit_masks g m (f + i)) j) d) (λ j. false) 9 (λ j l. ap (λ (x : ℕ). has x d) (none i j l) ∙ has-none d)))
  where
    none : (i j : ℕ) → j < 9 → at (unit_masks g m (f + i)) j ≡ 0
    none i j l = unit-mask g m (f + i) j l ∙ ap (λ (cs : List ℕ). open_mask g m (get_or cs j 81)) (past-table (f + i) (omega arith))

-- ---- All cells of the unit that have a property pass a test: the places that have it are among those of `ok`, which says where the test passes.

module _ (u ok : ℕ) (h : u < 27) (p f : ℕ → Bool) (says : (i : ℕ) → i < 9 → has ok i ≡ f (unit_cell u i)) where
  pub within : all (λ e. not (p e) || f e) (unit u) ≡ eqb (minus (gather (λ i. p (unit_cell u i)) 9) ok) 0
  within = bool_iff (all passes (unit u)) (eqb (minus held ok) 0) down up
    where
      held : ℕ
      held = gather (λ i. p (unit_cell u i)) 9

      passes : ℕ → Bool
      passes e = not (p e) || f e

      passed : (e : ℕ) → p e ≡ true → passes e ≡ true → f e ≡ true
      passed e q r = rw q at r

      off : all passes (unit u) ≡ true → (i : ℕ) → Held held i → ¬ (Held ok i) → ⊥
      off t i k n =
          let l = held_below held 9 i (gather-lt (λ i. p (unit_cell u i)) 9) k in
          n (says i l ∙ passed (unit_cell u i) (sym (has-gather (λ i. p (unit_cell u i)) 9 i l) ∙ k) (all-member passes (unit u) t (unit_cell u i) (member-mem h (at_place u i l))))

      down : all passes (unit u) ≡ true → eqb (minus held ok) 0 ≡ true
      down t =
          eq-eqb (minus held ok) 0
          (held-ext (minus held ok) 0 (λ i. (λ k. let w = (held-minus held ok i).0 k in absurd (off t i w.0 w.1), λ k. absurd (none-held i k))))

      one : eqb (minus held ok) 0 ≡ true → (e : ℕ) → Member u e → (r : Bool) → p e ≡ r → passes e ≡ true
      one t e w false r = rw r
      one t e w true r =
          rw r (ap f (sym w.is) ∙ sym (says w.place w.within)
          ∙ held-sub w.place (sub-of-minus held ok (eqb-true (minus held ok) 0 t)) (has-gather (λ i. p (unit_cell u i)) 9 w.place w.within ∙ ap p w.is ∙ r))

      up : eqb (minus held ok) 0 ≡ true → all passes (unit u) ≡ true
      up t = member-all passes (unit u) (λ e k. one t e (mem-member h k) (p e) refl)

-- the same for the cells that hold d, as a step's condition has it
lacks-unless : (m : List ℕ) (e d : ℕ) (t : Bool) → lacks m e (cond t 0 (single d)) ≡ (not (has (at m e) d) || t)
lacks-unless m e d true = eq-eqb (bit_and (at m e) 0) 0 (and_zero_r (at m e)) ∙ sym (or-true (not (has (at m e) d)))
  where
    or-true : (s : Bool) → (s || true) ≡ true
    or-true true = refl
    or-true false = refl
lacks-unless m e d false = go (has (at m e) d) refl
  where
    go : (s : Bool) → has (at m e) d ≡ s → lacks m e (single d) ≡ (not s || false)
    go true s =
        ne_eqb (bit_and (at m e) (2 ^ d)) 0
        (λ z. omega (arith, bit-and (at m e) (2 ^ d) d, ap (λ (x : ℕ). bit x d) z, bit-none d, bit-power d, eqb-true (bit (at m e) d) 1 s))
    go false s = eq-eqb (bit_and (at m e) (2 ^ d)) 0 (not-held (at m e) d (λ h. true≢false (sym h ∙ s)))

pub confined : (m : List ℕ) (u d : ℕ) (f : ℕ → Bool) (ok : ℕ) → u < 27 → ((i : ℕ) → i < 9 → has ok i ≡ f (unit_cell u i))
    → all (λ e. lacks m e (cond (f e) 0 (single d))) (unit u) ≡ eqb (minus (held_places m u d) ok) 0
confined m u d f ok h says =
    all_same (λ e. lacks m e (cond (f e) 0 (single d))) (λ e. not (has (at m e) d) || f e) (unit u) (λ e k. lacks-unless m e d (f e))
    ∙ within u ok h (λ e. has (at m e) d) f says ∙ ap (λ (x : ℕ). eqb (minus x ok) 0) (sym (held-are m u d h))
