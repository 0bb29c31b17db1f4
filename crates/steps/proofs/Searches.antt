-- A search of the numbers below n for the first that passes a test: what is left of it at i. Searches of all cells. Assumes nothing.
use mathlib.Core.Path.{◌≡◌, refl, sym, ap, ◌∙◌}
use mathlib.Core.Bool.{Bool, true, false, cond}
use mathlib.Core.List.{List, [], ◌∷◌, Memᴰ}
use mathlib.Core.Option.{Option, none, some}
use Prim.Native.Nat.{ℕ, ◌+◌, ◌-◌, ◌≤◌, ◌<◌}
use Rattle.candidates.proofs.Tests.{cond-true, cond-false}
use Rattle.grid.specs.Cells.{cells}
use Rattle.grid.specs.Lists.{range}
use Rattle.grid.proofs.Lists.{range-on, range-end, mem-range}
use Rattle.steps.specs.Loops.{first}
use Rattle.steps.proofs.Loops.{first-none, none_first, up_to-in, in-up_to}

-- r is what the whole search finds, t what the test says at i
module _ (f : ℕ → Bool) (n i : ℕ) {r : Option ℕ} (left : first f (range (n - i) i) ≡ r) where
  module _ {t : Bool} (h : i < n) (at : t ≡ f i) where
    pub found : t ≡ true → some i ≡ r
    unfolding first
    found e = sym (cond-true (f i) (some i) (first f (range (n - (i + 1)) (i + 1))) (sym at ∙ e)) ∙ sym (ap (first f) (range-on n i h)) ∙ left

    pub passed : t ≡ false → first f (range (n - (i + 1)) (i + 1)) ≡ r
    unfolding first
    passed e = sym (cond-false (f i) (some i) (first f (range (n - (i + 1)) (i + 1))) (sym at ∙ e)) ∙ sym (ap (first f) (range-on n i h)) ∙ left

  pub ended : n ≤ i → none ≡ r
  unfolding first
  ended h = sym (ap (first f) (range-end n i h)) ∙ left

-- tests that agree on the members find the same
pub first-same : (f g : ℕ → Bool) (xs : List ℕ) → ((x : ℕ) → Memᴰ x xs → f x ≡ g x) → first f xs ≡ first g xs
unfolding first
first-same f g [] h = refl
first-same f g (x ∷ xs) h =
    ap (λ (t : Bool). cond t (some x) (first f xs)) (h x (Memᴰ.head refl))
    ∙ ap (λ (r : Option ℕ). cond (g x) (some x) r) (first-same f g xs (λ y k. h y (Memᴰ.tail k)))

pub first-cells : (f g : ℕ → Bool) → ((c : ℕ) → c < 81 → f c ≡ g c) → first f cells ≡ first g cells
unfolding cells
first-cells f g h = first-same f g cells (λ c k. h c (mem-range 81 0 c k).1)

-- a search of all cells finds nothing exactly if no cell passes
pub cells-none : (f : ℕ → Bool) → ((c : ℕ) → c < 81 → f c ≡ false) → first f cells ≡ none
unfolding cells
cells-none f h = none_first f cells (λ c k. h c (in-up_to 81 c k))

pub none-cells : (f : ℕ → Bool) → first f cells ≡ none → (c : ℕ) → c < 81 → f c ≡ false
unfolding cells
none-cells f e c h = first-none f cells e c (up_to-in 81 c h)
