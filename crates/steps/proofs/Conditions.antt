-- When a step applies, by cells and digits, and that for each wide kind this is its condition in plain words. Assumes nothing.
use mathlib.Core.Path.{◌≡◌, refl, sym, ◌∙◌, subst}
use mathlib.Core.Logic.Iff
use mathlib.Core.Logic.{◌⊎◌, ◌↔◌, inl, inr, ⊎_elim}
use mathlib.Core.Bool.{Bool, true, false, cond, ◌||◌, true≢false}
use mathlib.Core.List.Memᴰ
use mathlib.Core.List.{List, [], ◌∷◌, ◌++◌, Memᴰ}
use Prim.Native.Nat.{ℕ, ◌<◌}
use borrow.Author.Tests.{eqb-true, eq-eqb}
use lib.Bits.{bit_and}
use lib.Dec.{eqb}
use Rattle.candidates.specs.Masks.{has, minus, single}
use Rattle.candidates.proofs.Held.{Held, held-power}
use Rattle.candidates.proofs.Tests.{either}
use Rattle.grid.specs.Units.{unit, in_unit, Member}
use Rattle.grid.proofs.Units.{member_below, member-in, in-member, member-mem, mem-member}
use Rattle.steps.specs.Boards.{at}
use Rattle.steps.specs.Instances.{both, lone_step, place_step, pair_step, locked_step, cross_step}
use Rattle.steps.specs.Loops.{all}
use Rattle.steps.specs.Published.{Candidate}
use Rattle.steps.specs.Steps.{lacks, applies}
use Rattle.steps.specs.Wide.{LoneCell, OnlyPlace, PairCells, Locked, CrossCells}
use Rattle.steps.proofs.Digits.{held_two, held-except, apart-held}
use Rattle.steps.proofs.Loops.{all-member, member-all}
use Rattle.steps.proofs.Losses.{held-unless}
use Rattle.steps.proofs.Members.{in_either}

module _ (m : List ℕ) where
  -- ---- any step

  module _ (reads : List ℕ) where
    -- no cell holds a digit of its mask
    pub applies-held : (bars : ℕ → ℕ) → (all (λ c. lacks m c (bars c)) reads ≡ true) ↔ ((c : ℕ) → Memᴰ c reads → (d : ℕ) → Held (bars c) d → ¬ (Candidate m c d))
    applies-held bars = (
      λ t c k. (apart-held (at m c) (bars c)).0 (eqb-true (bit_and (at m c) (bars c)) 0 (all-member (λ c. lacks m c (bars c)) reads t c k)),
      λ h. member-all (λ c. lacks m c (bars c)) reads (λ c k. eq-eqb (bit_and (at m c) (bars c)) 0 ((apart-held (at m c) (bars c)).1 (h c k))),
    )

    -- no cell holds a digit but those of k
    pub applies-except : (k : ℕ) → (all (λ c. lacks m c (minus 511 k)) reads ≡ true) ↔ ((c : ℕ) → Memᴰ c reads → (d : ℕ) → d < 9 → Candidate m c d → Held k d)
    applies-except k = Iff.trans (applies-held (λ _. minus 511 k)) (
      λ f c l d b t. go d (λ n. f c l d ((held-except k d).1 (b, n)) t) (has k d) refl,
      λ f c l d e t. let w = (held-except k d).0 e in w.1 (f c l d w.0 t),
    )
      where
        go : (d : ℕ) → ¬ (¬ (Held k d)) → (t : Bool) → has k d ≡ t → Held k d
        go d n true t = t
        go d n false t = absurd (n (λ s. true≢false (sym s ∙ t)))

    -- each cell that holds d passes the test
    pub applies-unless : (test : ℕ → Bool) (d : ℕ) → (all (λ c. lacks m c (cond (test c) 0 (single d))) reads ≡ true) ↔ ((c : ℕ) → Memᴰ c reads → Candidate m c d → test c ≡ true)
    applies-unless test d = Iff.trans (applies-held (λ c. cond (test c) 0 (single d))) (
      λ f c l t. go c (λ n. f c l d ((held-unless (test c) (single d) d).1 (n, (held-power d d).1 refl)) t) (test c) refl,
      λ f c l k e t. let w = (held-unless (test c) (single d) k).0 e in true≢false (sym (f c l (subst (λ (a : ℕ). Candidate m c a) ((held-power d k).0 w.1) t)) ∙ w.0),
    )
      where
        go : (c : ℕ) → ¬ (test c ≡ false) → (t : Bool) → test c ≡ t → test c ≡ true
        go c n true t = t
        go c n false t = absurd (n t)

  -- ---- the kinds; Pointing and Claiming are one

  pub lone-applies : (c d : ℕ) → (applies (lone_step c d) m ≡ true) ↔ LoneCell m c d
  lone-applies c d = Iff.trans (applies-except (c ∷ []) (single d)) (
    λ f. record { alone = λ a l t. (held-power d a).0 (f c (Memᴰ.head refl) a l t) },
    λ w e k a l t. (held-power d a).1 (w.alone a l (subst (λ (x : ℕ). Candidate m x a) (Memᴰ.eq_of_singleton k) t)),
  )

  pub place-applies : (u d c : ℕ) → u < 27 → (applies (place_step u d c) m ≡ true) ↔ OnlyPlace m u d c
  place-applies u d c h = Iff.trans (applies-unless (unit u) (λ e. eqb e c) d) (
    λ f. record { alone = λ e p t. eqb-true e c (f e (member-mem h p) t) },
    λ w e k t. eq-eqb e c (w.alone e (mem-member h k) t),
  )

  pub pair-applies : (u c e a b : ℕ) → (applies (pair_step u c e a b) m ≡ true) ↔ PairCells m c e a b
  pair-applies u c e a b = Iff.trans (applies-except (c ∷ e ∷ []) (both a b)) (
    λ f. record {
      first = λ d l t. (held_two a b d).0 (f c (Memᴰ.head refl) d l t);
      second = λ d l t. (held_two a b d).0 (f e (Memᴰ.tail (Memᴰ.head refl)) d l t);
    },
    λ w x i d l t. (held_two a b d).1 (⊎_elim (λ q. w.first d l (subst (λ (y : ℕ). Candidate m y d) q t)) (λ r. w.second d l (subst (λ (y : ℕ). Candidate m y d) (Memᴰ.eq_of_singleton r) t)) (Memᴰ.cases_cons i)),
  )

  pub locked-applies : (u v d : ℕ) → u < 27 → v < 27 → (applies (locked_step u v d) m ≡ true) ↔ Locked m u v d
  locked-applies u v d h k = Iff.trans (applies-unless (unit u) (in_unit v) d) (
    λ f. record { inside = λ e p t. in-member v e k (member_below h p) (f e (member-mem h p) t) },
    λ w e l t. member-in k (w.inside e (mem-member h l) t),
  )

  pub cross-applies : (d u v x y : ℕ) → u < 27 → v < 27 → x < 27 → y < 27 → (applies (cross_step d u v x y) m ≡ true) ↔ CrossCells m u v x y d
  cross-applies d u v x y hu hv hx hy = Iff.trans (applies-unless (unit u ++ unit v) (λ e. in_unit x e || in_unit y e) d) (
    λ f. record { inside = λ e p t. ⊎_elim (λ q. inl (in-member x e hx (below e p) q)) (λ q. inr (in-member y e hy (below e p) q)) ((either (in_unit x e) (in_unit y e)).0 (f e ((listed e).1 p) t)) },
    λ w e l t. (either (in_unit x e) (in_unit y e)).1 (⊎_elim (λ p. inl (member-in hx p)) (λ p. inr (member-in hy p)) (w.inside e ((listed e).0 l) t)),
  )
    where
      listed : (e : ℕ) → Memᴰ e (unit u ++ unit v) ↔ (Member u e ⊎ Member v e)
      listed = in_either hu hv (inl (refl, refl))

      below : (e : ℕ) → Member u e ⊎ Member v e → e < 81
      below e = ⊎_elim (member_below hu) (member_below hv)
