-- A digit that just two of nine masks hold is one that has just two places. Assumes nothing.
use mathlib.Core.Path.{◌≡◌, refl, sym, ap, ◌∙◌}
use mathlib.Core.Bool.{Bool, false, not, ◌&&◌, ◌||◌}
use mathlib.Core.List.{List, [], ◌∷◌, Memᴰ}
use Prim.Native.Nat.{ℕ, ◌+◌, ◌-◌, ◌^◌, ◌≤◌, ◌<◌}
use lib.Bits.{bit_and}
use lib.Count.{ones}
use lib.Dec.{eqb}
use Rattle.candidates.specs.Masks.{has, minus, union, count}
use Rattle.candidates.proofs.Held.{has-none, has-minus, has-union, has-gather}
use Rattle.candidates.proofs.Membership.{gather-lt}
use Rattle.candidates.proofs.Tests.{below, bool_iff, both, both_left, both_right}
use Rattle.grid.proofs.Lists.{range-on, range-end}
use Rattle.steps.specs.Boards.{at}
use Rattle.steps.specs.Loops.{range, up_to}
use Rattle.steps.proofs.Loops.{in-up_to}
use Rattle.cells.specs.code.Places.{spots_in}
use Rattle.cells.proofs.NineBits.{held-meet}
use Rattle.cells.proofs.UnitPlaces.{agree, agreed}
use Rattle.techniques.specs.code.XWings.{twice_from, twice_of}

-- ---- one turn of the code

module _ (nine : List ℕ) (i o t m : ℕ) where
  pub twice-on : {x y z : ℕ} → i < 9 → x ≡ union o (at nine i) → y ≡ union t (bit_and o (at nine i)) → z ≡ union m (bit_and t (at nine i))
      → twice_from nine (range (9 - (i + 1)) (i + 1)) x y z ≡ twice_from nine (range (9 - i) i) o t m
  unfolding twice_from
  twice-on h p q r = rw (p, q, r) (sym (ap (λ (l : List ℕ). twice_from nine l o t m) (range-on 9 i h)))

  pub twice-end : 9 ≤ i → twice_from nine (range (9 - i) i) o t m ≡ minus t m
  unfolding twice_from
  twice-end h = ap (λ (l : List ℕ). twice_from nine l o t m) (range-end 9 i h)

-- ---- what becomes of one digit

unfoldable twice_bit : (ℕ → Bool) → List ℕ → Bool → Bool → Bool → Bool
twice_bit f [] o t m = t && not m
twice_bit f (i ∷ is) o t m = twice_bit f is (o || f i) (t || (o && f i)) (m || (t && f i))

has_more : (x y z d : ℕ) → has (union x (bit_and y z)) d ≡ (has x d || (has y d && has z d))
has_more x y z d = has-union x (bit_and y z) d ∙ ap (λ (b : Bool). has x d || b) meet
  where
    meet : has (bit_and y z) d ≡ (has y d && has z d)
    meet =
        bool_iff (has (bit_and y z) d) (has y d && has z d) (λ t. both ((held-meet y z d).0 t).0 ((held-meet y z d).0 t).1)
        (λ t. (held-meet y z d).1 (both_left (has y d) (has z d) t, both_right (has y d) (has z d) t))

module _ (nine : List ℕ) (d : ℕ) where
  abbrev f : ℕ → Bool
  f i = has (at nine i) d

  of-digit : (is : List ℕ) (o t m : ℕ) → has (twice_from nine is o t m) d ≡ twice_bit f is (has o d) (has t d) (has m d)
  unfolding twice_from twice_bit
  of-digit [] o t m = has-minus t m d
  of-digit (i ∷ is) o t m =
      of-digit is (union o (at nine i)) (union t (bit_and o (at nine i))) (union m (bit_and t (at nine i)))
      ∙ rw (has-union o (at nine i) d, has_more t o (at nine i) d, has_more m t (at nine i) d)

same_bits : (f g : ℕ → Bool) (is : List ℕ) (o t m : Bool) → ((i : ℕ) → Memᴰ i is → f i ≡ g i) → twice_bit f is o t m ≡ twice_bit g is o t m
unfolding twice_bit
same_bits f g [] o t m h = refl
same_bits f g (i ∷ is) o t m h = rw (h i (Memᴰ.head refl)) (same_bits f g is (o || g i) (t || (o && g i)) (m || (t && g i)) (λ j k. h j (Memᴰ.tail k)))

-- by one test over all sets of nine places
two-bits : (s : ℕ) → s < 2 ^ 9 → twice_bit (has s) (up_to 9) false false false ≡ eqb (count s) 2
unfolding twice_bit agree ones
two-bits s h = agreed (twice_bit (has s) (up_to 9) false false false) (eqb (count s) 2) (below 512 (λ s. agree (twice_bit (has s) (up_to 9) false false false) (eqb (count s) 2)) tt s h)

pub twice-is : (nine : List ℕ) (d : ℕ) → has (twice_of nine) d ≡ eqb (count (spots_in nine d)) 2
unfolding twice_of spots_in
twice-is nine d =
    of-digit nine d (up_to 9) 0 0 0
    ∙ ap (λ (b : Bool). twice_bit (f nine d) (up_to 9) b b b) (has-none d)
    ∙ same_bits (f nine d) (has (spots_in nine d)) (up_to 9) false false false (λ i k. sym (has-gather (f nine d) 9 i (in-up_to 9 i k)))
    ∙ two-bits (spots_in nine d) (gather-lt (f nine d) 9)
