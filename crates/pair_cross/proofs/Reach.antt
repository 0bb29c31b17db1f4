-- What the other lines can lose to two lines that hold k. Assumes nothing.
use mathlib.Core.Path.{◌≡◌, refl, sym, ap, ◌∙◌, subst}
use mathlib.Core.Logic.{◌≢◌}
use mathlib.Core.Bool.{Bool, true, false, cond}
use Prim.Native.Nat.{ℕ, ◌+◌, ◌^◌, ◌≤◌, ◌<◌}
use native.Mathlib.Decide.{ℕ_discrete}
use native.Mathlib.Omega.{arith}
use borrow.Author.Tests.{eqb-true, eqb-false, ne_eqb}
use lib.Bits.{bit_and, and_zero_r}
use lib.Dec.{eqb}
use Rattle.candidates.specs.Masks.{union, count, single, lowest, tail, Sub}
use Rattle.candidates.proofs.Counts.{count-sub, count-proper}
use Rattle.candidates.proofs.FewDigits.{tail-count, tail-small}
use Rattle.candidates.proofs.Order.{sub_refl, minus-sub}
use Rattle.candidates.proofs.Tests.{by-test, cond-true, cond-false}
use Rattle.cells.proofs.NineBits.{both-sub, count-both}
use Rattle.pair_cross.specs.code.Twos.{reach_of}

tails-count : (k : ℕ) → k < 2 ^ 16 → 2 ≤ count k → count (tail (tail k)) + 2 ≡ count k
tails-count k small h =
    let p = tail-count k small (omega arith) in
    let q = tail-count (tail k) (tail-small k small (omega arith)) (omega arith) in
    omega arith

-- all that an instance of theirs takes
pub reach-covers : (k a b : ℕ) → k < 2 ^ 16 → a < b → b < 9 → Sub k (union (2 ^ a) (2 ^ b)) → Sub (union (2 ^ a) (2 ^ b)) (reach_of k)
unfolding reach_of
reach-covers k a b small h l p =
    by-test (λ (x : ℕ). Sub (union (2 ^ a) (2 ^ b)) x) (eqb (count (tail k)) 0) 511 (cond (eqb (count (tail (tail k))) 0) k 0)
    (λ t. both-sub a b (omega arith) l)
    (λ t. by-test (λ (x : ℕ). Sub (union (2 ^ a) (2 ^ b)) x) (eqb (count (tail (tail k))) 0) k 0 (λ s. two t s) (λ s. more t s))
  where
    apart : a ≢ b
    apart e = absurd (omega arith)

    counted : eqb (count (tail k)) 0 ≡ false → count (tail (tail k)) + 2 ≡ count k
    counted t =
        let n = eqb-false (count (tail k)) 0 t in
        let some : 0 < count k = omega (arith, count-sub (minus-sub k (single (lowest k)))) in
        tails-count k small (omega (arith, tail-count k small some))

    two : eqb (count (tail k)) 0 ≡ false → eqb (count (tail (tail k))) 0 ≡ true → Sub (union (2 ^ a) (2 ^ b)) k
    two t s = subst (λ (x : ℕ). Sub (union (2 ^ a) (2 ^ b)) x) (sym same) (sub_refl (union (2 ^ a) (2 ^ b)))
      where
        same : k ≡ union (2 ^ a) (2 ^ b)
        same = go (ℕ_discrete k (union (2 ^ a) (2 ^ b)))
          where
            go : Dec (k ≡ union (2 ^ a) (2 ^ b)) → k ≡ union (2 ^ a) (2 ^ b)
            go (yes e) = e
            go (no n) = absurd (omega (arith, count-proper p n, count-both a b apart, counted t, eqb-true (count (tail (tail k))) 0 s))

    more : eqb (count (tail k)) 0 ≡ false → eqb (count (tail (tail k))) 0 ≡ false → Sub (union (2 ^ a) (2 ^ b)) 0
    more t s = absurd (omega (arith, count-sub p, count-both a b apart, counted t, eqb-false (count (tail (tail k))) 0 s))

-- ---- two places or more

module _ (k : ℕ) (small : k < 2 ^ 16) where
  second : 2 ≤ count k → reach_of k ≡ cond (eqb (count (tail (tail k))) 0) k 0
  unfolding reach_of
  second h =
      cond-false (eqb (count (tail k)) 0) 511 (cond (eqb (count (tail (tail k))) 0) k 0)
      (ne_eqb (count (tail k)) 0 (λ e. omega (arith, tail-count k small (omega arith))))

  pub reach-more : 3 ≤ count k → reach_of k ≡ 0
  reach-more h = second (omega arith) ∙ cond-false (eqb (count (tail (tail k))) 0) k 0 (ne_eqb (count (tail (tail k))) 0 (λ e. omega (arith, tails-count k small (omega arith))))

  -- nothing that is apart from what they hold
  pub reach-apart : (x : ℕ) → 2 ≤ count k → bit_and x k ≡ 0 → bit_and x (reach_of k) ≡ 0
  reach-apart x h e = go (eqb (count (tail (tail k))) 0) refl
    where
      go : (t : Bool) → eqb (count (tail (tail k))) 0 ≡ t → bit_and x (reach_of k) ≡ 0
      go true t = ap (bit_and x) (second h ∙ cond-true (eqb (count (tail (tail k))) 0) k 0 t) ∙ e
      go false t = ap (bit_and x) (second h ∙ cond-false (eqb (count (tail (tail k))) 0) k 0 t) ∙ and_zero_r x
