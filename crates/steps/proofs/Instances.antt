-- The listed instances are those whose numbers are within their bounds: what holds of every instance within them holds of every listed one, and each of them is listed. Assumes nothing.
use mathlib.Core.Path.{refl, sym, subst}
use mathlib.Core.List.Memᴰ
use mathlib.Core.List.{List, [], ◌∷◌, Memᴰ}
use mathlib.Core.Logic.{⊎_elim}
use Prim.Native.Nat.{ℕ, ◌+◌, ◌-◌, ◌*◌, ◌/◌, ◌%◌, ◌<◌}
use native.Mathlib.Omega.{arith}
use borrow.Author.Tests.{ltb-true}
use lib.Dec.{ltb}
use Rattle.candidates.proofs.Tests.{by-test}
use Rattle.steps.specs.Instances.{Instance, lone, place, pair, pointing, claiming, cross, exchanged, line_of, box_of, lones, places, pairs, pointings, claimings, crosses}
use Rattle.steps.specs.Loops.{for, up_to, above}
use Rattle.steps.specs.Passes.{Kind, Lone, Place, Pair, Pointing, Claiming, Cross, instances}
use Rattle.steps.proofs.Loops.{for-all, for-up_to, for-two, in-up_to, in-above}

module _ (P : Instance → Type 0) where
  one : (x y : Instance) → P y → Memᴰ x (y ∷ []) → P x
  one x y p k = subst P (sym (Memᴰ.eq_of_singleton k)) p

  -- a loop over the numbers below n, and one over those above i and below n
  below : (n : ℕ) (h : ℕ → List Instance) → ((i : ℕ) → i < n → (x : Instance) → Memᴰ x (h i) → P x) → (x : Instance) → Memᴰ x (for (up_to n) h) → P x
  below n h f = for-all P (up_to n) h (λ i k. f i (in-up_to n i k))

  later : (i n : ℕ) (h : ℕ → List Instance) → ((j : ℕ) → i < j → j < n → (x : Instance) → Memᴰ x (h j) → P x) → (x : Instance) → Memᴰ x (for (above i n) h) → P x
  later i n h f = for-all P (above i n) h (λ j k. f j (in-above i n j k).0 (in-above i n j k).1)

  pub record Within : Type 0 where
    pub on_lone : (c d : ℕ) → c < 81 → d < 9 → P (lone c d)
    pub on_place : (u d i : ℕ) → u < 27 → d < 9 → i < 9 → P (place u d i)
    pub on_pair : (u i j a b : ℕ) → u < 27 → i < j → j < 9 → a < b → b < 9 → P (pair u i j a b)
    pub on_pointing : (b d k : ℕ) → b < 9 → d < 9 → k < 6 → P (pointing b d k)
    pub on_claiming : (l d k : ℕ) → l < 18 → d < 9 → k < 3 → P (claiming l d k)
    pub on_cross : (d r₁ r₂ c₁ c₂ : ℕ) → d < 9 → r₁ < r₂ → r₂ < 9 → c₁ < c₂ → c₂ < 9 → P (cross d r₁ r₂ c₁ c₂)
    pub on_exchanged : (d c₁ c₂ r₁ r₂ : ℕ) → d < 9 → c₁ < c₂ → c₂ < 9 → r₁ < r₂ → r₂ < 9 → P (exchanged d c₁ c₂ r₁ r₂)

  pub listed : Within → (k : Kind) (x : Instance) → Memᴰ x (instances k) → P x
  unfolding instances lones places pairs pointings claimings crosses
  listed w Lone = below 81 _ λ c hc. below 9 _ λ d hd. λ x. one x (lone c d) (w.on_lone c d hc hd)
  listed w Place = below 27 _ λ u hu. below 9 _ λ d hd. below 9 _ λ i hi. λ x. one x (place u d i) (w.on_place u d i hu hd hi)
  listed w Pair =
      below 27 _ λ u hu. below 9 _ λ i hi. later i 9 _ λ j ij hj. below 9 _ λ a ha. later a 9 _ λ b ab hb. λ x.
      one x (pair u i j a b) (w.on_pair u i j a b hu ij hj ab hb)
  listed w Pointing = below 9 _ λ b hb. below 9 _ λ d hd. below 6 _ λ k hk. λ x. one x (pointing b d k) (w.on_pointing b d k hb hd hk)
  listed w Claiming = below 18 _ λ l hl. below 9 _ λ d hd. below 3 _ λ k hk. λ x. one x (claiming l d k) (w.on_claiming l d k hl hd hk)
  listed w Cross = λ x k. ⊎_elim (straight x) (turned x) (Memᴰ.append_cases _ k)
    where
      straight : (x : Instance) → Memᴰ x (for (up_to 9) λ d. for (up_to 9) λ r₁. for (above r₁ 9) λ r₂. for (up_to 9) λ c₁. for (above c₁ 9) λ c₂. cross d r₁ r₂ c₁ c₂ ∷ []) → P x
      straight =
          below 9 _ λ d hd. below 9 _ λ r hr. later r 9 _ λ s rs hs. below 9 _ λ a ha. later a 9 _ λ b ab hb. λ x.
          one x (cross d r s a b) (w.on_cross d r s a b hd rs hs ab hb)

      turned : (x : Instance) → Memᴰ x (for (up_to 9) λ d. for (up_to 9) λ c₁. for (above c₁ 9) λ c₂. for (up_to 9) λ r₁. for (above r₁ 9) λ r₂. exchanged d c₁ c₂ r₁ r₂ ∷ []) → P x
      turned =
          below 9 _ λ d hd. below 9 _ λ r hr. later r 9 _ λ s rs hs. below 9 _ λ a ha. later a 9 _ λ b ab hb. λ x.
          one x (exchanged d r s a b) (w.on_exchanged d r s a b hd rs hs ab hb)

-- ---- an instance within the bounds is listed

pub lone-listed : (c d : ℕ) → c < 81 → d < 9 → Memᴰ (lone c d) (instances Lone)
unfolding instances lones
lone-listed c d hc hd = for-up_to 81 _ c _ hc (for-up_to 9 _ d _ hd (Memᴰ.head refl))

pub place-listed : (u d i : ℕ) → u < 27 → d < 9 → i < 9 → Memᴰ (place u d i) (instances Place)
unfolding instances places
place-listed u d i hu hd hi = for-up_to 27 _ u _ hu (for-up_to 9 _ d _ hd (for-up_to 9 _ i _ hi (Memᴰ.head refl)))

pub pair-listed : (u i j a b : ℕ) → u < 27 → i < j → j < 9 → a < b → b < 9 → Memᴰ (pair u i j a b) (instances Pair)
unfolding instances pairs
pair-listed u i j a b hu hi hj ha hb = for-up_to 27 _ u _ hu (for-two 9 _ i j _ hi hj (for-two 9 _ a b _ ha hb (Memᴰ.head refl)))

pub pointing-listed : (b d k : ℕ) → b < 9 → d < 9 → k < 6 → Memᴰ (pointing b d k) (instances Pointing)
unfolding instances pointings
pointing-listed b d k hb hd hk = for-up_to 9 _ b _ hb (for-up_to 9 _ d _ hd (for-up_to 6 _ k _ hk (Memᴰ.head refl)))

pub claiming-listed : (l d k : ℕ) → l < 18 → d < 9 → k < 3 → Memᴰ (claiming l d k) (instances Claiming)
unfolding instances claimings
claiming-listed l d k hl hd hk = for-up_to 18 _ l _ hl (for-up_to 9 _ d _ hd (for-up_to 3 _ k _ hk (Memᴰ.head refl)))

-- the two halves of Cross, by what they make
abbrev half : (ℕ → ℕ → ℕ → ℕ → ℕ → Instance) → List Instance
half make = for (up_to 9) λ d. for (up_to 9) λ r. for (above r 9) λ s. for (up_to 9) λ a. for (above a 9) λ b. make d r s a b ∷ []

in-half : (make : ℕ → ℕ → ℕ → ℕ → ℕ → Instance) (d r s a b : ℕ) → d < 9 → r < s → s < 9 → a < b → b < 9 → Memᴰ (make d r s a b) (half make)
in-half make d r s a b hd hr hs ha hb = for-up_to 9 _ d _ hd (for-two 9 _ r s _ hr hs (for-two 9 _ a b _ ha hb (Memᴰ.head refl)))

pub cross-listed : (d r₁ r₂ c₁ c₂ : ℕ) → d < 9 → r₁ < r₂ → r₂ < 9 → c₁ < c₂ → c₂ < 9 → Memᴰ (cross d r₁ r₂ c₁ c₂) (instances Cross)
unfolding instances crosses
cross-listed d r₁ r₂ c₁ c₂ hd hr hs hc he = Memᴰ.append_left (half exchanged) (in-half cross d r₁ r₂ c₁ c₂ hd hr hs hc he)

pub exchanged-listed : (d c₁ c₂ r₁ r₂ : ℕ) → d < 9 → c₁ < c₂ → c₂ < 9 → r₁ < r₂ → r₂ < 9 → Memᴰ (exchanged d c₁ c₂ r₁ r₂) (instances Cross)
unfolding instances crosses
exchanged-listed d c₁ c₂ r₁ r₂ hd hc he hr hs = Memᴰ.append_right (half cross) (in-half exchanged d c₁ c₂ r₁ r₂ hd hc he hr hs)

-- ---- the six lines of a box, and the three boxes of a line

-- the lines that meet a box are units
pub line-below : (b k : ℕ) → b < 9 → k < 6 → line_of b k < 27
line-below b k h l = by-test (λ (v : ℕ). v < 27) (ltb k 3) (3 * (b / 3) + k) (9 + (3 * (b % 3) + (k - 3))) (λ t. omega arith) (λ t. omega arith)

pub box-below : (l k : ℕ) → l < 18 → k < 3 → box_of l k < 27
box-below l k h n = by-test (λ (v : ℕ). v < 27) (ltb l 9) _ _ (λ t. omega (arith, ltb-true l 9 t)) (λ t. omega arith)
