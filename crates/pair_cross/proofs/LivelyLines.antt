-- Nine lines that are not lively: no two of them make the others lose anything. Assumes nothing.
use mathlib.Core.Path.{◌≡◌, refl, sym, ◌∙◌, subst}
use mathlib.Core.Logic.{◌≢◌, ◌⊎◌, inl, inr}
use mathlib.Core.Bool.{Bool, true, false, cond}
use Prim.Native.Nat.{ℕ, ◌≤◌, ◌<◌}
use native.Mathlib.Decide.{ℕ_discrete, dec_lt}
use native.Mathlib.Omega.{arith}
use borrow.Author.Tests.{eq-eqb, eqb-true}
use lib.Bits.{bit_and}
use lib.Dec.{eqb}
use Rattle.candidates.specs.Masks.{bit, union, count}
use Rattle.candidates.proofs.Counts.{count-sub, count-proper}
use Rattle.candidates.proofs.Held.{Held, none-held, held-union, held-ext, held_below, held_all}
use Rattle.candidates.proofs.Order.{union_left, union_right}
use Rattle.candidates.proofs.Tests.{cond-true}
use Rattle.grid.proofs.Unions.{held-gathered}
use Rattle.steps.specs.Loops.{up_to, above}
use Rattle.steps.proofs.Loops.{up_to-in, above_in}
use Rattle.cells.proofs.NineBits.{held-meet}
use Rattle.pair_cross.specs.code.Twos.{reach_of}
use Rattle.pair_cross.specs.code.Lively.{tally_of, others, lost_of, small, hot, pick, twin, twins_above, twins, any_hot, lively_of}
use Rattle.pair_cross.proofs.Holders.{tally-tells, once-held}
use Rattle.pair_cross.proofs.Lossless.{Alone, not-small, not-hot, others-at, many, many-first, alone-first, alone-second, alone-both, equal-two}

hot-in : (f : ℕ → ℕ) (l d : ℕ) → l < 9 → hot (f l) (tally_of f).twice ≡ true → d < 9 → Held (any_hot f (tally_of f).twice) d
unfolding any_hot
hot-in f l d h t k =
    (held-gathered (λ i. cond (hot (f i) (tally_of f).twice) 511 0) (up_to 9) 0 d).1
    (inr (l, up_to-in 9 l h, subst (λ (z : ℕ). Held z d) (sym (cond-true (hot (f l) (tally_of f).twice) 511 0 t)) (held_all d k)))

pub none-hot : (f : ℕ → ℕ) (l : ℕ) → l < 9 → any_hot f (tally_of f).twice ≡ 0 → hot (f l) (tally_of f).twice ≡ false
none-hot f l h e = go (hot (f l) (tally_of f).twice) refl
  where
    go : (t : Bool) → hot (f l) (tally_of f).twice ≡ t → hot (f l) (tally_of f).twice ≡ false
    go true t = absurd (none-held 0 (subst (λ (z : ℕ). Held z 0) e (hot-in f l 0 h t (omega arith))))
    go false t = t

-- two lines that are not hot take nothing, unless they are two equal lines of two places
module _ (f : ℕ → ℕ) (free : ℕ) (low : (l : ℕ) → l < 9 → f l < 512) (i j : ℕ) (rise : i < j) (hj : j < 9) where
  hi : i < 9
  hi = omega arith

  differ : i ≢ j
  differ e = absurd (omega arith)

  pub many-none : small (f i) ≡ false → lost_of (tally_of f) (f i) (f j) free ≡ 0
  many-none t = many-first f i j differ hi hj (low i hi) (low j hj) free (not-small (f i) (omega (arith, low i hi)) t)

  module _ (equal : f i ≡ f j → 2 ≤ count (f i) → small (f i) ≡ true → lost_of (tally_of f) (f i) (f j) free ≡ 0) where
    -- two lines of two places or more
    two_none : 2 ≤ count (f i) → 2 ≤ count (f j) → lost_of (tally_of f) (f i) (f j) free ≡ 0
    two_none a b = go (dec_lt 2 (count (union (f i) (f j)))) (small (f i)) refl
      where
        same : (x : ℕ) → 2 ≤ count x → count x ≤ count (union (f i) (f j)) → (x ≢ union (f i) (f j) → count x < count (union (f i) (f j))) → count (union (f i) (f j)) ≤ 2 → x ≡ union (f i) (f j)
        same x h k proper most = pick-one (ℕ_discrete x (union (f i) (f j)))
          where
            pick-one : Dec (x ≡ union (f i) (f j)) → x ≡ union (f i) (f j)
            pick-one (yes e) = e
            pick-one (no n) = absurd (omega (arith, proper n))

        go : Dec (2 < count (union (f i) (f j))) → (s : Bool) → small (f i) ≡ s → lost_of (tally_of f) (f i) (f j) free ≡ 0
        go (yes h) s t = many f i j differ hi hj (low i hi) (low j hj) free h
        go (no h) false t = many-none t
        go (no h) true t =
            let p = same (f i) a (count-sub (union_left (f i) (f j))) (λ n. count-proper (union_left (f i) (f j)) n) (omega arith) in
            let q = same (f j) b (count-sub (union_right (f i) (f j))) (λ n. count-proper (union_right (f i) (f j)) n) (omega arith) in
            equal (p ∙ sym q) a t

    pub cool-none : hot (f i) (tally_of f).twice ≡ false → hot (f j) (tally_of f).twice ≡ false → lost_of (tally_of f) (f i) (f j) free ≡ 0
    cool-none p q = kinds (not-hot (f i) (tally_of f).twice (omega (arith, low i hi)) p) (not-hot (f j) (tally_of f).twice (omega (arith, low j hj)) q)
      where
        kinds : Alone (f i) (tally_of f).twice ⊎ (2 ≤ count (f i)) → Alone (f j) (tally_of f).twice ⊎ (2 ≤ count (f j)) → lost_of (tally_of f) (f i) (f j) free ≡ 0
        kinds (inl a) (inl b) = alone-both f i j differ hi hj (low i hi) (low j hj) free a b
        kinds (inl a) (inr b) = alone-first f i j differ hi hj (low i hi) (low j hj) free a b
        kinds (inr a) (inl b) = alone-second f i j differ hi hj (low i hi) (low j hj) free a b
        kinds (inr a) (inr b) = two_none a b

  -- lines that are not lively
  module _ (still : lively_of f free ≡ 0) where
    quiet-hot : (d : ℕ) → Held (any_hot f (tally_of f).twice) d → Held (tally_of f).once d → Held free d → ⊥
    unfolding lively_of
    quiet-hot d p q r =
        none-held d (subst (λ (z : ℕ). Held z d) still
        ((held-meet (union (bit_and (any_hot f (tally_of f).twice) (tally_of f).once) (bit_and (twins f) (tally_of f).thrice)) free d).1
        ((held-union (bit_and (any_hot f (tally_of f).twice) (tally_of f).once) (bit_and (twins f) (tally_of f).thrice) d).1 (inl ((held-meet (any_hot f (tally_of f).twice) (tally_of f).once d).1 (p, q))), r)))

    quiet-twins : (d : ℕ) → Held (twins f) d → Held (tally_of f).thrice d → Held free d → ⊥
    unfolding lively_of
    quiet-twins d p q r =
        none-held d (subst (λ (z : ℕ). Held z d) still
        ((held-meet (union (bit_and (any_hot f (tally_of f).twice) (tally_of f).once) (bit_and (twins f) (tally_of f).thrice)) free d).1
        ((held-union (bit_and (any_hot f (tally_of f).twice) (tally_of f).once) (bit_and (twins f) (tally_of f).thrice) d).1 (inr ((held-meet (twins f) (tally_of f).thrice d).1 (p, q))), r)))

    -- a hot line: nothing that is held can be lost
    hot-none : (l : ℕ) → l < 9 → hot (f l) (tally_of f).twice ≡ true → lost_of (tally_of f) (f i) (f j) free ≡ 0
    hot-none l h t = held-ext (lost_of (tally_of f) (f i) (f j) free) 0 (λ d. (λ s. absurd (no d s), λ s. absurd (none-held d s)))
      where
        no : (d : ℕ) → Held (lost_of (tally_of f) (f i) (f j) free) d → ⊥
        no d s =
            let p = ((held-meet (bit_and (others (tally_of f) (f i) (f j)) free) (reach_of (union (f i) (f j))) d).0 s).0 in
            let q = (held-meet (others (tally_of f) (f i) (f j)) free d).0 p in
            let o : Held (tally_of f).once d =
            eq-eqb (bit (tally_of f).once d) 1 (omega (arith, (others-at f i j differ hi hj (low i hi) (low j hj) free d).some, (tally-tells f d).not-once, eqb-true (bit (others (tally_of f) (f i) (f j)) d) 1 q.0)) in
            let w = (once-held f d).0 o in
            quiet-hot d (hot-in f l d h t (held_below (f w.0) 9 d (low w.0 w.1) w.2)) o q.1

    twin-in : (d : ℕ) → f i ≡ f j → small (f i) ≡ true → Held (f i) d → Held (twins f) d
    unfolding twins twins_above
    twin-in d e s t =
        (held-gathered (twins_above f) (up_to 8) 0 d).1
        (inr (i, up_to-in 8 i (omega arith), (held-gathered (λ j. twin (pick (f i)) (f j)) (above i 9) 0 d).1 (inr (j, above_in i 9 j rise hj, subst (λ (z : ℕ). Held z d) (sym same) t))))
      where
        few : pick (f i) ≡ f i
        few = cond-true (small (f i)) (f i) 0 s

        same : twin (pick (f i)) (f j) ≡ f i
        same = cond-true (eqb (pick (f i)) (f j)) (pick (f i)) 0 (eq-eqb (pick (f i)) (f j) (few ∙ e)) ∙ few

    equal-none : f i ≡ f j → 2 ≤ count (f i) → small (f i) ≡ true → lost_of (tally_of f) (f i) (f j) free ≡ 0
    equal-none e h s =
        equal-two f i j differ hi hj (low i hi) (low j hj) free e h
        (held-ext (bit_and (bit_and (f i) (tally_of f).thrice) free) 0 (λ d. (λ u. absurd (no d u), λ u. absurd (none-held d u))))
      where
        no : (d : ℕ) → Held (bit_and (bit_and (f i) (tally_of f).thrice) free) d → ⊥
        no d u =
            let p = (held-meet (bit_and (f i) (tally_of f).thrice) free d).0 u in
            let q = (held-meet (f i) (tally_of f).thrice d).0 p.0 in
            quiet-twins d (twin-in d e s q.0) q.1 p.1

    pub lane-still : lost_of (tally_of f) (f i) (f j) free ≡ 0
    lane-still = go (hot (f i) (tally_of f).twice) (hot (f j) (tally_of f).twice) refl refl
      where
        go : (a b : Bool) → hot (f i) (tally_of f).twice ≡ a → hot (f j) (tally_of f).twice ≡ b → lost_of (tally_of f) (f i) (f j) free ≡ 0
        go true b p q = hot-none i hi p
        go false true p q = hot-none j hj q
        go false false p q = cool-none equal-none p q
