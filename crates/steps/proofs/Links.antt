-- The links of a chain in words, strong and weak, are the lists of module 11. Assumes nothing.
use mathlib.Core.Path.{◌≡◌, refl, sym, ap, ◌∙◌, subst}
use mathlib.Core.Logic.{◌≢◌, ◌⊎◌, ◌↔◌, inl, inr, ⊎_elim, ⊎_swap}
use mathlib.Core.Bool.{Bool, true, false, cond, not, ◌||◌}
use mathlib.Core.List.Memᴰ
use mathlib.Core.List.{List, [], ◌∷◌, Memᴰ}
use Prim.Native.Nat.{ℕ, ◌+◌, ◌<◌}
use native.Mathlib.Omega.{arith}
use borrow.Author.Tests.{eqb-true, eqb-false, eq-eqb, ne_eqb, not-true}
use lib.Dec.{eqb, eqb→eq}
use lib.ListN.{length}
use Rattle.candidates.proofs.Tests.{all_below, below, below_both, bool_iff, cond-true, either, implies, implied}
use Rattle.grid.specs.Cells.{row, col, box, peers}
use Rattle.grid.specs.Units.{units, unit, unit_cell, Member, ShareUnit}
use Rattle.grid.proofs.Cells.{row_below, col-below, box-below, row_in, col-in, box_in_lem, peer-sees, sees-peer, sees-shared, shared_sees}
use Rattle.grid.proofs.Lists.{mem-select, select-mem}
use Rattle.grid.proofs.Units.{member_below, member-in, in-member, member-mem, mem-member, kind, by-unit}
use Rattle.steps.specs.Chains.{two_of, weak_links, strong_links}
use Rattle.steps.specs.Loops.{for, select}
use Rattle.steps.specs.Ported.{holds}
use Rattle.steps.specs.Published.{Holder}
use Rattle.steps.specs.XChains.{StrongLink, WeakLink}
use Rattle.steps.proofs.Loops.{in-for, for-in, select-same}
use Rattle.steps.proofs.Spots.{holder-holds, holds-holder}

-- ---- a list of just two

pub of_two : (xs : List ℕ) (e : ℕ) → Memᴰ e (two_of xs) → (length xs ≡ 2) × Memᴰ e xs
of_two xs e k = go (eqb (length xs) 2) refl k
  where
    go : (t : Bool) → eqb (length xs) 2 ≡ t → Memᴰ e (cond t xs []) → (length xs ≡ 2) × Memᴰ e xs
    go true t k = (eqb-true (length xs) 2 t, k)
    go false t k = absurd (Memᴰ.not-nil k)

-- two different members of it are all
only_two : (xs : List ℕ) (c e w : ℕ) → length xs ≡ 2 → c ≢ e → Memᴰ c xs → Memᴰ e xs → Memᴰ w xs → (w ≡ c) ⊎ (w ≡ e)
only_two [] c e w n d p q r = absurd (omega arith)
only_two (x ∷ []) c e w n d p q r = absurd (omega arith)
only_two (x ∷ y ∷ z ∷ l) c e w n d p q r = absurd (omega arith)
only_two (x ∷ y ∷ []) c e w n d p q r = go (one c p) (one e q) (one w r)
  where
    one : (k : ℕ) → Memᴰ k (x ∷ y ∷ []) → (k ≡ x) ⊎ (k ≡ y)
    one k h = ⊎_elim (λ s. inl s) (λ s. inr (Memᴰ.eq_of_singleton s)) (Memᴰ.cases_cons h)

    go : (c ≡ x) ⊎ (c ≡ y) → (e ≡ x) ⊎ (e ≡ y) → (w ≡ x) ⊎ (w ≡ y) → (w ≡ c) ⊎ (w ≡ e)
    go (inl a) (inl b) s = absurd (d (a ∙ sym b))
    go (inr a) (inr b) s = absurd (d (a ∙ sym b))
    go (inl a) (inr b) (inl s) = inl (s ∙ sym a)
    go (inl a) (inr b) (inr s) = inr (s ∙ sym b)
    go (inr a) (inl b) (inl s) = inr (s ∙ sym b)
    go (inr a) (inl b) (inr s) = inl (s ∙ sym a)

-- a unit has each of its cells once
places-two : (u i j : ℕ) → u < 27 → i < 9 → j < 9 → i ≢ j → length (select (λ x. eqb x (unit_cell u i) || eqb x (unit_cell u j)) (unit u)) ≡ 2
unfolding units unit
places-two u i j hu hi hj n =
    eqb→eq (length (select (λ x. eqb x (unit_cell u i) || eqb x (unit_cell u j)) (unit u))) 2
    (implied (not (eqb i j)) (eqb (length (select (λ x. eqb x (unit_cell u i) || eqb x (unit_cell u j)) (unit u))) 2)
    (below_both 9 9 (λ i j. implies (not (eqb i j)) (eqb (length (select (λ x. eqb x (unit_cell u i) || eqb x (unit_cell u j)) (unit u))) 2))
    (below 27 (λ u. all_below 9 (λ i. all_below 9 (λ j. implies (not (eqb i j)) (eqb (length (select (λ x. eqb x (unit_cell u i) || eqb x (unit_cell u j)) (unit u))) 2)))) tt u hu)
    i j hi hj) (ap not (ne_eqb i j n)))

-- ---- the units of a cell

abbrev three : ℕ → List ℕ
three c = row c ∷ (9 + col c) ∷ (18 + box c) ∷ []

own-unit : (c : ℕ) → c < 81 → (u : ℕ) → Memᴰ u (three c) → (u < 27) × Member u c
own-unit c h u k =
    ⊎_elim (λ (q : u ≡ row c). is (sym q) (omega (arith, row_below c h)) (in-member (row c) c (omega (arith, row_below c h)) h (row_in c h)))
    (λ k. ⊎_elim (λ (q : u ≡ 9 + col c). is (sym q) (omega (arith, col-below c)) (in-member (9 + col c) c (omega (arith, col-below c)) h (col-in c)))
    (λ k. is (sym (Memᴰ.eq_of_singleton k)) (omega (arith, box-below c h)) (in-member (18 + box c) c (omega (arith, box-below c h)) h (box_in_lem c h)))
    (Memᴰ.cases_cons k)) (Memᴰ.cases_cons k)
  where
    is : {v u : ℕ} → v ≡ u → v < 27 → Member v c → (u < 27) × Member u c
    is e l m = subst (λ (u : ℕ). (u < 27) × Member u c) e (l, m)

unit-own : (c u : ℕ) → u < 27 → Member u c → Memᴰ u (three c)
unit-own c u h m =
    by-unit (λ u. Memᴰ u (three c)) c (Memᴰ.head refl) (Memᴰ.tail (Memᴰ.head refl)) (Memᴰ.tail (Memᴰ.tail (Memᴰ.head refl))) u (kind u h) (member-in h m)

-- ---- links

abbrev flip : {a b : ℕ} → ShareUnit a b → ShareUnit b a
flip s = record { different = λ e. s.different (sym e); shared = s.shared; within = s.within; first = s.second; second = s.first }

module _ (g m : List ℕ) (d : ℕ) where
  pub strong-back : {c e : ℕ} → StrongLink g m d c e → StrongLink g m d e c
  strong-back l = record { two = flip l.two; holder₁ = l.holder₂; holder₂ = l.holder₁; alone = λ x p q. ⊎_swap (l.alone x p q) }

  pub weak-back : {c e : ℕ} → WeakLink g m d c e → WeakLink g m d e c
  weak-back l = record { two = flip l.two; holder₁ = l.holder₂; holder₂ = l.holder₁ }

  module _ {c : ℕ} (e : ℕ) (h : c < 81) (p : Holder g m d c) where
    pub weak-link : Memᴰ e (weak_links g m d c) ↔ WeakLink g m d c e
    unfolding weak_links
    weak-link = (there, λ w. select-mem (holds g m d) (peers c) e (sees-peer c e (member_below w.two.within w.two.second) (shared_sees w.two)) (holder-holds g m w.holder₂))
      where
        there : Memᴰ e (select (holds g m d) (peers c)) → WeakLink g m d c e
        there k =
            let a = mem-select (holds g m d) (peers c) e k in
            let b = peer-sees c e a.0 in
            record { two = sees-shared c e h b.0 b.1; holder₁ = p; holder₂ = holds-holder g m d e a.1 }

    abbrev holders : ℕ → List ℕ
    holders u = select (holds g m d) (unit u)

    in-holders : {x : ℕ} (u : ℕ) → u < 27 → Member u x → Holder g m d x → Memᴰ x (holders u)
    in-holders {x} u hu mx hx = select-mem (holds g m d) (unit u) x (member-mem hu mx) (holder-holds g m hx)

    two-holders : (l : StrongLink g m d c e) → length (holders l.two.shared) ≡ 2
    two-holders l =
        let s = l.two in
        let u = s.shared in
        ap length (select-same (holds g m d) (λ x. eqb x c || eqb x e) (unit u) (λ x k. just x (mem-member s.within k)))
        ∙ ap (λ (t : ℕ × ℕ). length (select (λ x. eqb x t.0 || eqb x t.1) (unit u))) (λ i. (sym s.first.is i, sym s.second.is i))
        ∙ places-two u s.first.place s.second.place s.within s.first.within s.second.within
        (λ q. s.different (sym s.first.is ∙ ap (unit_cell u) q ∙ s.second.is))
      where
        just : (x : ℕ) → Member l.two.shared x → holds g m d x ≡ (eqb x c || eqb x e)
        just x k =
            bool_iff (holds g m d x) (eqb x c || eqb x e)
            (λ t. (either (eqb x c) (eqb x e)).1 (⊎_elim (λ q. inl (eq-eqb x c q)) (λ q. inr (eq-eqb x e q)) (l.alone x k (holds-holder g m d x t))))
            (λ t. ⊎_elim (λ q. subst (λ (y : ℕ). holds g m d y ≡ true) (sym (eqb-true x c q)) (holder-holds g m l.holder₁))
            (λ q. subst (λ (y : ℕ). holds g m d y ≡ true) (sym (eqb-true x e q)) (holder-holds g m l.holder₂)) ((either (eqb x c) (eqb x e)).0 t))

    pub strong-link : Memᴰ e (strong_links g m d c) ↔ StrongLink g m d c e
    unfolding strong_links
    strong-link = (there, back)
      where
        through : ℕ → List ℕ
        through u = select (λ x. not (eqb x c)) (two_of (holders u))

        there : Memᴰ e (for (three c) through) → StrongLink g m d c e
        there k =
            let w = in-for (three c) through e k in
            let o = own-unit c h w.0 w.1 in
            let a = mem-select (λ x. not (eqb x c)) (two_of (holders w.0)) e w.2 in
            let b = of_two (holders w.0) e a.0 in
            let r = mem-select (holds g m d) (unit w.0) e b.1 in
            let n : c ≢ e = λ q. eqb-false e c (not-true (eqb e c) a.1) (sym q) in
            record {
              two = record { different = n; shared = w.0; within = o.0; first = o.1; second = mem-member o.0 r.0 };
              holder₁ = p;
              holder₂ = holds-holder g m d e r.1;
              alone = λ x q t. only_two (holders w.0) c e x b.0 n (in-holders w.0 o.0 o.1 p) b.1 (in-holders w.0 o.0 q t);
            }

        back : StrongLink g m d c e → Memᴰ e (for (three c) through)
        back l =
            let s = l.two in
            let u = s.shared in
            let pair : two_of (holders u) ≡ holders u = cond-true (eqb (length (holders u)) 2) (holders u) [] (eq-eqb (length (holders u)) 2 (two-holders l)) in
            for-in (three c) through u e (unit-own c u s.within s.first)
            (select-mem (λ x. not (eqb x c)) (two_of (holders u)) e
            (subst (λ (l : List ℕ). Memᴰ e l) (sym pair) (in-holders u s.within s.second l.holder₂)) (ap not (ne_eqb e c (λ q. s.different (sym q)))))
