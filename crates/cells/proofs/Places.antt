-- A loss at some places of a unit is the loss of its cells, each its own digits or none; the masks of a unit's open cells give the places that hold
-- a digit. Assumes nothing.
use mathlib.Core.Path.{◌≡◌, refl, sym, ap, ◌∙◌}
use mathlib.Core.Bool.{Bool, true, false, cond, ◌&&◌}
use mathlib.Core.List.{List, [], ◌∷◌}
use Prim.Native.Nat.{ℕ, zero, suc, ◌^◌, ◌+◌, ◌<◌}
use native.Mathlib.Decide.{ℕ_discrete}
use native.Mathlib.Omega.{arith}
use borrow.Author.Tests.{lt-ltb}
use lib.Bits.{bit_and, and_zero_r}
use lib.Dec.{ltb}
use lib.ListN.{length, get_or}
use Rattle.candidates.specs.Masks.{has, gather}
use Rattle.candidates.proofs.Held.{has-none}
use Rattle.candidates.proofs.Tests.{cond-true, cond-false}
use Rattle.grid.specs.Units.{unit, unit_cell}
use Rattle.grid.proofs.Lists.{at-up_to, map_same, each_same}
use Rattle.grid.proofs.Units.{unit-length, cell_below}
use Rattle.steps.specs.Boards.{at, is_open}
use Rattle.steps.specs.Loops.{each, range, up_to}
use Rattle.steps.specs.Ported.{holds, spots}
use Rattle.steps.specs.Steps.{lose_at, lose_all}
use Rattle.steps.proofs.Loops.{in-up_to, each_keeps}
use Rattle.steps.proofs.Steps.{lose-none, lose-other}
use Rattle.cells.specs.code.Places.{mask_at, lose_in, lose_places, open_mask, unit_masks, all_masks, spots_in}

-- ---- a loop over a unit, by places

each-later : {S : Type 0} (f : ℕ → S → S) (n k : ℕ) (s : S) → each f (range n (suc k)) s ≡ each (λ i. f (suc i)) (range n k) s
unfolding each
each-later f zero k s = refl
each-later f (suc n) k s = each-later f n (suc k) (f (suc k) s)

-- the members of a list by their places
each-places : {S : Type 0} (f : ℕ → S → S) (l : List ℕ) (z : ℕ) (s : S) → each f l s ≡ each (λ i. f (get_or l i z)) (range (length l) 0) s
unfolding each
each-places f [] z s = refl
each-places f (x ∷ xs) z s = each-places f xs z (f x s) ∙ sym (each-later (λ i. f (get_or (x ∷ xs) i z)) (length xs) 0 (f x s))

each-cells : {S : Type 0} (f : ℕ → S → S) (u : ℕ) → u < 27 → (s : S) → each f (unit u) s ≡ each (λ i. f (unit_cell u i)) (up_to 9) s
each-cells f u h s = each-places f (unit u) 81 s ∙ ap (λ (n : ℕ). each (λ i. f (unit_cell u i)) (range n 0) s) (unit-length u h)

-- ---- losses

pub lose-cell : (free : ℕ → Bool) (c k : ℕ) (m : List ℕ) → c < 81 → lose_in free c k m ≡ lose_at free c k m
lose-cell free c k m h = cond-true (ltb c 81) (lose_at free c k m) m (lt-ltb c 81 h)

module _ (free : ℕ → Bool) (u : ℕ) (h : u < 27) (places k : ℕ) (loss : ℕ → ℕ) (same : (i : ℕ) → i < 9 → loss (unit_cell u i) ≡ cond (has places i) k 0) where
  one_place : (i : ℕ) → i < 9 → (m : List ℕ) → cond (has places i) (lose_in free (unit_cell u i) k m) m ≡ lose_at free (unit_cell u i) (loss (unit_cell u i)) m
  one_place i l m = go (has places i) refl
    where
      c : ℕ
      c = unit_cell u i

      go : (t : Bool) → has places i ≡ t → cond (has places i) (lose_in free c k m) m ≡ lose_at free c (loss c) m
      go true t =
          cond-true (has places i) (lose_in free c k m) m t ∙ lose-cell free c k m (cell_below u i h l)
          ∙ sym (ap (λ (x : ℕ). lose_at free c x m) (same i l ∙ cond-true (has places i) k 0 t))
      go false t =
          cond-false (has places i) (lose_in free c k m) m t ∙ sym (lose-none free c 0 m (λ _. and_zero_r (at m c)))
          ∙ sym (ap (λ (x : ℕ). lose_at free c x m) (same i l ∙ cond-false (has places i) k 0 t))

  pub places-lose : (m : List ℕ) → lose_places free u places k m ≡ lose_all free (unit u) loss m
  unfolding lose_places
  places-lose m =
      each_same (λ i m. cond (has places i) (lose_in free (unit_cell u i) k m) m) (λ i. lose_at free (unit_cell u i) (loss (unit_cell u i))) (up_to 9)
      (λ i l. one_place i (in-up_to 9 i l)) m
      ∙ sym (each-cells (λ c. lose_at free c (loss c)) u h m)

-- a cell that is to lose nothing keeps its mask
pub all-kept : (free : ℕ → Bool) (k : ℕ → ℕ) (e : ℕ) → k e ≡ 0 → (cs m : List ℕ) → at (lose_all free cs k m) e ≡ at m e
all-kept free k e z cs m = each_keeps (λ c. lose_at free c (k c)) (λ (n : List ℕ). at n e ≡ at m e) cs (λ c l n p. one c n (ℕ_discrete e c) ∙ p) m refl
  where
    one : (c : ℕ) (n : List ℕ) → Dec (e ≡ c) → at (lose_at free c (k c) n) e ≡ at n e
    one c n (yes q) = ap (λ (x : List ℕ). at x e) (lose-none free c (k c) n (λ _. ap (bit_and (at n c)) (ap k (sym q) ∙ z) ∙ and_zero_r (at n c)))
    one c n (no q) = lose-other free c (k c) n e q

-- ---- the masks of a unit's open cells

pub open-mask : (g m : List ℕ) (c : ℕ) → c < 81 → open_mask g m c ≡ cond (is_open g c) (at m c) 0
open-mask g m c h = go (ltb c 81) (lt-ltb c 81 h)
  where
    go : (t : Bool) → t ≡ true → cond (t && is_open g c) (cond t (at m c) 0) 0 ≡ cond (is_open g c) (at m c) 0
    go t e = rw e

pub unit-mask : (g m : List ℕ) (u i : ℕ) → i < 9 → at (unit_masks g m u) i ≡ open_mask g m (unit_cell u i)
unfolding unit_masks
unit-mask g m u i h = at-up_to (λ i. open_mask g m (unit_cell u i)) 0 9 i h

-- masks that agree on the unit's cells
pub unit-masks-same : (g m n : List ℕ) (u : ℕ) → ((i : ℕ) → i < 9 → at m (unit_cell u i) ≡ at n (unit_cell u i)) → unit_masks g m u ≡ unit_masks g n u
unfolding unit_masks
unit-masks-same g m n u h =
    map_same (λ i. open_mask g m (unit_cell u i)) (λ i. open_mask g n (unit_cell u i)) (up_to 9)
    (λ i k. ap (λ (x : ℕ). cond (ltb (unit_cell u i) 81 && is_open g (unit_cell u i)) (cond (ltb (unit_cell u i) 81) x 0) 0) (h i (in-up_to 9 i k)))

-- ---- the masks of a unit's cells

pub mask_at_lem : (m : List ℕ) (c : ℕ) → c < 81 → mask_at m c ≡ at m c
mask_at_lem m c h = cond-true (ltb c 81) (at m c) 0 (lt-ltb c 81 h)

pub all-mask : (m : List ℕ) (u i : ℕ) → u < 27 → i < 9 → at (all_masks m u) i ≡ at m (unit_cell u i)
unfolding all_masks
all-mask m u i h l = at-up_to (λ j. mask_at m (unit_cell u j)) 0 9 i l ∙ mask_at_lem m (unit_cell u i) (cell_below u i h l)

-- ---- the places that hold a digit

pub gather-same : (f g : ℕ → Bool) (n : ℕ) → ((i : ℕ) → i < n → f i ≡ g i) → gather f n ≡ gather g n
unfolding gather
gather-same f g zero h = refl
gather-same f g (suc n) h =
    ap (λ (t : Bool). gather f n + cond t (2 ^ n) 0) (h n (omega arith)) ∙ ap (λ (x : ℕ). x + cond (g n) (2 ^ n) 0) (gather-same f g n (λ i k. h i (omega arith)))

-- an open cell's mask holds d, and a cell that is not open holds nothing
pub open-holds : (g m : List ℕ) (d c : ℕ) → c < 81 → has (open_mask g m c) d ≡ holds g m d c
open-holds g m d c h = ap (λ (x : ℕ). has x d) (open-mask g m c h) ∙ go (is_open g c)
  where
    go : (t : Bool) → has (cond t (at m c) 0) d ≡ (t && has (at m c) d)
    go true = refl
    go false = has-none d

pub spots-are : (g m : List ℕ) (u d : ℕ) → u < 27 → spots_in (unit_masks g m u) d ≡ spots g m u d
unfolding spots_in spots
spots-are g m u d h =
    gather-same (λ i. has (at (unit_masks g m u) i) d) (λ i. holds g m d (unit_cell u i)) 9
    (λ i k. ap (λ (x : ℕ). has x d) (unit-mask g m u i k) ∙ open-holds g m d (unit_cell u i) (cell_below u i h k))
