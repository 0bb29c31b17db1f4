-- Naked pairs goes by its published relation, which names no order of digits. Assumes nothing.
use mathlib.Core.Path.{◌≡◌, refl, sym, ap, ◌∙◌, subst}
use mathlib.Core.Logic.{◌≢◌, ◌⊎◌, ◌↔◌, inl, inr, ⊎_elim}
use mathlib.Core.Bool.{Bool, true, false, true≢false}
use mathlib.Core.List.{List}
use Prim.Native.Nat.{ℕ, ◌<◌}
use native.Mathlib.Omega.{arith}
use Rattle.candidates.specs.Masks.{has}
use Rattle.candidates.proofs.Held.{held_below}
use Rattle.candidates.proofs.Order.{sub-le}
use Rattle.candidates.proofs.Tests.{bool_iff, by-test}
use Rattle.grid.specs.Units.{unit, unit_cell, Member}
use Rattle.grid.proofs.Units.{at_place, cells-differ}
use Rattle.steps.specs.Boards.{at, is_open}
use Rattle.steps.specs.Loops.{up_to, above}
use Rattle.steps.specs.Ported.{is_naked_pair, naked_pair_loss, naked_pair_at, naked_pairs}
use Rattle.steps.specs.Published.{Candidate, NakedPair, NakedPairLoss, Without}
use Rattle.steps.specs.Steps.{lose_all}
use Rattle.steps.proofs.Loops.{in-up_to, in-above}
use Rattle.steps.proofs.Published.{naked-pair, naked-pair-loses, naked-pair-none}
use Rattle.steps.proofs.Steps.{all_under}
use Rattle.symmetries.specs.Changes.{Moves, OneToOne}
use Rattle.symmetries.proofs.Moves.{undone, one-undone, comes, same-to}
use Rattle.symmetries.proofs.OneDigit.{Same, Relabelled, each_two}

-- n is m relabelled; both hold nine digits
pub record NineRelabelled (f : Moves) (m n : List ℕ) : Type 0 where
  pub small₁ : (c : ℕ) → at m c < 512
  pub small₂ : (c : ℕ) → at n c < 512
  pub digit : Relabelled f m n

-- the other way round
unlabelled : {f : Moves} → OneToOne 9 f → {m n : List ℕ} → NineRelabelled f m n → NineRelabelled (undone f) n m
unlabelled {f} o {m} {n} r =
    record { small₁ = r.small₂; small₂ = r.small₁; digit = λ d h. record { held = λ c. sym ((r.digit (f.from d) (o.from d h)).held c ∙ ap (has (at n c)) (o.forth d h)) } }

module _ {f : Moves} (o : OneToOne 9 f) {m n : List ℕ} (r : NineRelabelled f m n) where
  digit_lt : (c d : ℕ) → Candidate m c d → d < 9
  digit_lt c d k = held_below (at m c) 9 d (r.small₁ c) k

  -- just the digits a and b, and just their labels
  two-labels : (c a b : ℕ) → a < 9 → b < 9 → ((d : ℕ) → Candidate m c d ↔ ((d ≡ a) ⊎ (d ≡ b))) → (d : ℕ) → Candidate n c d ↔ ((d ≡ f.to a) ⊎ (d ≡ f.to b))
  two-labels c a b ha hb k d = (down, ⊎_elim (λ e. up a ha e ((k a).1 (inl refl))) (λ e. up b hb e ((k b).1 (inr refl))))
    where
      down : Candidate n c d → (d ≡ f.to a) ⊎ (d ≡ f.to b)
      down q =
          let l = held_below (at n c) 9 d (r.small₂ c) q in
          ⊎_elim (λ e. inl (comes (one-undone o) l e)) (λ e. inr (comes (one-undone o) l e)) ((k (f.from d)).0 (sym (((unlabelled o r).digit d l).held c) ∙ q))

      up : (a : ℕ) → a < 9 → d ≡ f.to a → Candidate m c a → Candidate n c d
      up a ha e q = subst (Candidate n c) (sym e) (sym ((r.digit a ha).held c) ∙ q)

module _ {f : Moves} (o : OneToOne 9 f) (g h : List ℕ) (free : (c : ℕ) → is_open g c ≡ is_open h c) {m n : List ℕ} (r : NineRelabelled f m n) where
  pair-to : {u c e a b : ℕ} → NakedPair g m u c e a b → NakedPair h n u c e (f.to a) (f.to b)
  pair-to {u} {c} {e} {a} {b} k =
      let ha = digit_lt o r c a ((k.held₁ a).1 (inl refl)) in
      let hb = digit_lt o r c b ((k.held₁ b).1 (inr refl)) in
      record {
        apart = k.apart;
        first = k.first;
        second = k.second;
        free₁ = sym (free c) ∙ k.free₁;
        free₂ = sym (free e) ∙ k.free₂;
        digits = λ q. k.digits (same-to o ha hb q);
        held₁ = two-labels o r c a b ha hb k.held₁;
        held₂ = two-labels o r e a b ha hb k.held₂;
      }

  -- the same cells lose the labels
  loss-to : {u c e a b x d : ℕ} → NakedPairLoss g u c e a b x d → NakedPairLoss h u c e (f.to a) (f.to b) x (f.to d)
  loss-to {x = x} l =
      record {
        member = l.member;
        free = sym (free x) ∙ l.free;
        other₁ = l.other₁;
        other₂ = l.other₂;
        digit = ⊎_elim (λ q. inl (ap f.to q)) (λ q. inr (ap f.to q)) l.digit;
      }

  loss-from : {u c e a b x d : ℕ} → a < 9 → b < 9 → d < 9 → NakedPairLoss h u c e (f.to a) (f.to b) x (f.to d) → NakedPairLoss g u c e a b x d
  loss-from {x = x} ha hb hd l =
      record {
        member = l.member;
        free = free x ∙ l.free;
        other₁ = l.other₁;
        other₂ = l.other₂;
        digit = ⊎_elim (λ q. inl (same-to o hd ha q)) (λ q. inr (same-to o hd hb q)) l.digit;
      }

  -- where there is a pair
  pair-lost : {u c e a b : ℕ} {m' n' : List ℕ} → NakedPair g m u c e a b → Without m (NakedPairLoss g u c e a b) m' → Without n (NakedPairLoss h u c e (f.to a) (f.to b)) n'
      → (d : ℕ) → d < 9 → Same d (f.to d) m' n'
  pair-lost {u} {c} {e} {a} {b} {m'} {n'} k v w d hd =
      let ha = digit_lt o r c a ((k.held₁ a).1 (inl refl)) in
      let hb = digit_lt o r c b ((k.held₁ b).1 (inr refl)) in
      record {
        held = λ x.
            bool_iff (has (at m' x) d) (has (at n' x) (f.to d))
            (λ t. let q = (v.left x d).0 t in (w.left x (f.to d)).1 (sym ((r.digit d hd).held x) ∙ q.0, λ l. q.1 (loss-from ha hb hd l)))
            (λ t. let q = (w.left x (f.to d)).0 t in (v.left x d).1 ((r.digit d hd).held x ∙ q.0, λ l. q.1 (loss-to l)));
      }

module _ {f : Moves} (o : OneToOne 9 f) (g h : List ℕ) (free : (c : ℕ) → is_open g c ≡ is_open h c) where
  turn_small : (g : List ℕ) (u c e : ℕ) (m : List ℕ) → ((x : ℕ) → at m x < 512) → (x : ℕ) → at (naked_pair_at g u c e m) x < 512
  unfolding naked_pair_at
  turn_small g u c e m small x =
      by-test (λ (n : List ℕ). at n x < 512) (is_naked_pair g m c e) (lose_all (is_open g) (unit u) (naked_pair_loss m c e) m) m
      (λ t. omega (arith, sub-le ((all_under (is_open g) (unit u) (naked_pair_loss m c e) m).at x), small x)) (λ t. small x)

  turn-follows : (u c e : ℕ) → u < 27 → Member u c → Member u e → c ≢ e → (m n : List ℕ) → NineRelabelled f m n → NineRelabelled f (naked_pair_at g u c e m) (naked_pair_at h u c e n)
  turn-follows u c e hu mc me ne m n r =
      record { small₁ = turn_small g u c e m r.small₁; small₂ = turn_small h u c e n r.small₂; digit = go (is_naked_pair g m c e) refl (is_naked_pair h n c e) refl }
    where
      here : (is_naked_pair g m c e ≡ true) ↔ ((a : ℕ) × (b : ℕ) × NakedPair g m u c e a b)
      here = naked-pair g m r.small₁ mc me ne

      there : (is_naked_pair h n c e ≡ true) ↔ ((a : ℕ) × (b : ℕ) × NakedPair h n u c e a b)
      there = naked-pair h n r.small₂ mc me ne

      go : (s : Bool) → is_naked_pair g m c e ≡ s → (t : Bool) → is_naked_pair h n c e ≡ t → (d : ℕ) → d < 9 → Same d (f.to d) (naked_pair_at g u c e m) (naked_pair_at h u c e n)
      go true s t q =
          let k = here.0 s in
          pair-lost o g h free r k.2 (naked-pair-loses g m hu k.2) (naked-pair-loses h n hu (pair-to o g h free r k.2))
      go false s true q =
          let k = there.0 q in
          absurd (true≢false (sym (here.1 (f.from k.0, f.from k.1, pair-to (one-undone o) h g (λ c. sym (free c)) (unlabelled o r) k.2)) ∙ s))
      go false s false q = rw (naked-pair-none g m u c e s, naked-pair-none h n u c e q) r.digit

  pub naked-pairs-follow : (m n : List ℕ) → NineRelabelled f m n → NineRelabelled f (naked_pairs g m) (naked_pairs h n)
  unfolding naked_pairs
  naked-pairs-follow m n r =
      each_two _ _ (NineRelabelled f) (up_to 27) (λ u hu. each_two _ _ (NineRelabelled f) (up_to 9) (λ i hi. each_two _ _ (NineRelabelled f) (above i 9)
      (λ j hj a b s. one u i j (in-up_to 27 u hu) (in-above i 9 j hj).0 (in-above i 9 j hj).1 a b s))) m n r
    where
      one : (u i j : ℕ) → u < 27 → i < j → j < 9 → (m n : List ℕ) → NineRelabelled f m n → NineRelabelled f (naked_pair_at g u (unit_cell u i) (unit_cell u j) m) (naked_pair_at h u (unit_cell u i) (unit_cell u j) n)
      one u i j hu hi hj = turn-follows u (unit_cell u i) (unit_cell u j) hu (at_place u i (omega arith)) (at_place u j hj) (cells-differ u i j hu (omega arith) hj (omega arith))
