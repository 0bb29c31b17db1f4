-- Two lines that hold two places: of their 36 instances only that of those two loses anything. Assumes nothing.
use mathlib.Core.Path.{◌≡◌, refl, sym, ap, ◌∙◌, subst}
use mathlib.Core.Logic.{◌≢◌, ◌⊎◌, inl, inr}
use mathlib.Core.Bool.{Bool, true}
use mathlib.Core.List.{List}
use Prim.Native.Nat.{ℕ, ◌<◌}
use native.Mathlib.Omega.{arith}
use borrow.Author.Tests.{eq-eqb, eqb-true, ne_eqb}
use lib.Dec.{eqb}
use Rattle.candidates.specs.Masks.{minus, count, lowest, tail, Sub}
use Rattle.candidates.proofs.FewDigits.{Pair, count-pair, count-two}
use Rattle.candidates.proofs.Held.{held_below, held_both, held-sub}
use Rattle.candidates.proofs.Order.{sub_refl, sub-of-minus, minus-of-sub}
use Rattle.candidates.proofs.Tests.{cond-true, cond-false}
use Rattle.steps.specs.Instances.{both}
use Rattle.steps.proofs.Turns.{each-only}
use Rattle.pair_cross.specs.code.Twos.{first_of, second_of, two_lose, two_turn, lines_turned}
use Rattle.pair_cross.specs.declared.twos.Frame.{Frame}
use Rattle.pair_cross.proofs.TwoNumbers.{rise, pair_at, at_pair, Paired, paired}

-- two and two, each pair rising
matched : (a b c d : ℕ) → a < b → c < d → (a ≡ c) ⊎ (a ≡ d) → (b ≡ c) ⊎ (b ≡ d) → (a ≡ c) × (b ≡ d)
matched a b c d h l (inl p) (inl q) = absurd (omega arith)
matched a b c d h l (inl p) (inr q) = (p, q)
matched a b c d h l (inr p) (inl q) = absurd (omega arith)
matched a b c d h l (inr p) (inr q) = absurd (omega arith)

module _ (held : ℕ) (small : held < 512) (two : count held ≡ 2) where
  pair : Pair held
  pair = count-pair held (omega arith) two

  pub second-place : lowest (tail held) < 9
  second-place = held_below held 9 (lowest (tail held)) (omega arith) pair.second

  pub first-place : lowest held < 9
  first-place = let h = pair.rise in omega (arith, second-place)

  module _ (g : List ℕ) (F : Frame) (i j : ℕ) (m : List ℕ) where
    pub hits : two_turn g F i j held (lowest held) (lowest (tail held)) m ≡ two_lose g F i j (lowest held) (lowest (tail held)) m
    unfolding two_turn
    hits =
        cond-true (eqb (minus held (both (lowest held) (lowest (tail held)))) 0) (two_lose g F i j (lowest held) (lowest (tail held)) m) m
        (eq-eqb (minus held (both (lowest held) (lowest (tail held)))) 0 (minus-of-sub (subst (λ (x : ℕ). Sub held x) pair.is (sub_refl held))))

  same-pair : (q : ℕ) → q < 36 → minus held (both (first_of q) (second_of q)) ≡ 0 → q ≡ pair_at (lowest held) (lowest (tail held))
  same-pair q h e =
      let w = count-two held (omega arith) two in
      let s = sub-of-minus held (both (first_of q) (second_of q)) e in
      let r =
      matched (lowest held) (lowest (tail held)) (first_of q) (second_of q) pair.rise (rise q h)
      (held_both (first_of q) (second_of q) (lowest held) (held-sub (lowest held) s ((w.held (lowest held)).1 (inl refl))))
      (held_both (first_of q) (second_of q) (lowest (tail held)) (held-sub (lowest (tail held)) s pair.second)) in
      sym (at_pair q h) ∙ ap (λ (x : ℕ). pair_at x (second_of q)) (sym r.0) ∙ ap (pair_at (lowest held)) (sym r.1)

  -- the others do nothing
  pub misses : (g : List ℕ) (F : Frame) (i j q : ℕ) → q < 36 → q ≢ pair_at (lowest held) (lowest (tail held)) → (n : List ℕ) → two_turn g F i j held (first_of q) (second_of q) n ≡ n
  unfolding two_turn
  misses g F i j q h o n =
      cond-false (eqb (minus held (both (first_of q) (second_of q))) 0) (two_lose g F i j (first_of q) (second_of q) n) n
      (ne_eqb (minus held (both (first_of q) (second_of q))) 0 (λ e. o (same-pair q h e)))

  pub the-pair : Paired (lowest held) (lowest (tail held))
  the-pair = paired (lowest held) (lowest (tail held)) pair.rise second-place

  pub two-turned : (g : List ℕ) (F : Frame) (i j : ℕ) (m : List ℕ) → lines_turned g F i j held m ≡ two_lose g F i j (lowest held) (lowest (tail held)) m
  unfolding lines_turned
  two-turned g F i j m =
      let w = the-pair in
      each-only (λ q. two_turn g F i j held (first_of q) (second_of q)) (pair_at (lowest held) (lowest (tail held))) 36 0 (omega arith) (omega (arith, w.listed)) (λ q h. misses g F i j q (omega arith)) m
      ∙ ap (λ (x : ℕ). two_turn g F i j held x (second_of (pair_at (lowest held) (lowest (tail held)))) m) w.first
      ∙ ap (λ (x : ℕ). two_turn g F i j held (lowest held) x m) w.second
      ∙ hits g F i j m

-- the two places, as code reads them off what the lines hold
pub record TwoRead (held a b : ℕ) : Type 0 where
  pub two : count held ≡ 2
  pub first : a ≡ lowest held
  pub second : b ≡ lowest (tail held)
  pub first-below : a < 9
  pub second-below : b < 9

pub two-read : {held a b rest : ℕ} {t : Bool} → held < 512 → t ≡ eqb (count held) 2 → t ≡ true → a ≡ lowest held → rest ≡ tail held → b ≡ lowest rest → TwoRead held a b
two-read {held} small asked is first rest-is second =
    let two = eqb-true (count held) 2 (sym asked ∙ is) in
    let later = second ∙ ap lowest rest-is in record {
      two = two;
      first = first;
      second = later;
      first-below = omega (arith, first, first-place held small two);
      second-below = omega (arith, later, second-place held small two);
    }
