-- The masks from a cell on: compared, and their candidates counted. Assumes nothing.
use mathlib.Core.Path.{◌≡◌, refl, sym, ap, ap₂, ◌∙◌}
use mathlib.Core.Bool.{Bool, true, false, cond, not, ◌||◌}
use mathlib.Core.List.{List, ◌∷◌}
use Prim.Native.Nat.{ℕ, ◌+◌, ◌≤◌, ◌<◌}
use native.Mathlib.Numerals.{add-one}
use lib.Dec.{eqb}
use lib.ListN.{length, get_or, drop, drop_of_length-le}
use lib.Seq.{drop-cons}
use Rattle.candidates.specs.Masks.{count}
use Rattle.steps.specs.Boards.{same_masks, total}

-- the masks from i on are the mask at i and those after it
from : (l : List ℕ) (i : ℕ) → i < length l → drop i l ≡ get_or l i 0 ∷ drop (i + 1) l
from l i h = drop-cons l i 0 h ∙ ap (λ (k : ℕ). get_or l i 0 ∷ drop k l) (sym (add-one i))

module _ (a b : List ℕ) (i : ℕ) (h : i < length a) (k : i < length b) where
  both-from : same_masks (drop i a) (drop i b) ≡ cond (eqb (get_or a i 0) (get_or b i 0)) (same_masks (drop (i + 1) a) (drop (i + 1) b)) false
  both-from = ap₂ same_masks (from a i h) (from b i k)

  -- a flag that is up where a mask before i differs
  pub changed-on : (flag : Bool) {t : Bool} → t ≡ not (eqb (get_or a i 0) (get_or b i 0))
      → ((flag || t) || not (same_masks (drop (i + 1) a) (drop (i + 1) b))) ≡ (flag || not (same_masks (drop i a) (drop i b)))
  changed-on flag e = rw (e, both-from) (go flag (eqb (get_or a i 0) (get_or b i 0)) (same_masks (drop (i + 1) a) (drop (i + 1) b)))
    where
      go : (f e s : Bool) → ((f || not e) || not s) ≡ (f || not (cond e s false))
      go true e s = refl
      go false true s = refl
      go false false s = refl

pub changed-end : (a b : List ℕ) (i : ℕ) (flag : Bool) → length a ≤ i → length b ≤ i → (flag || not (same_masks (drop i a) (drop i b))) ≡ flag
changed-end a b i flag h k = rw (ap₂ same_masks (drop_of_length-le a h) (drop_of_length-le b k)) (go flag)
  where
    go : (f : Bool) → (f || false) ≡ f
    go true = refl
    go false = refl

pub total-on : (l : List ℕ) (i : ℕ) → i < length l → total (drop i l) ≡ count (get_or l i 0) + total (drop (i + 1) l)
unfolding total
total-on l i h = ap total (from l i h)

pub total-end : (l : List ℕ) (i : ℕ) → length l ≤ i → total (drop i l) ≡ 0
unfolding total
total-end l i h = ap total (drop_of_length-le l h)
