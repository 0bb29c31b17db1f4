-- No step costs a correct filling: the one-digit masks of a filling are settled, and so stay below all that steps reach. Assumes nothing.
use mathlib.Core.Path.{◌≡◌, refl, sym, ap, ◌∙◌, subst}
use mathlib.Core.Logic.{◌≢◌, ◌⊎◌, ◌↔◌, inl, inr, ⊎_elim}
use mathlib.Core.List.{List, map}
use Prim.Native.Nat.{ℕ, ◌^◌, ◌≤◌, ◌<◌}
use native.Mathlib.Decide.{dec_lt}
use native.Mathlib.Omega.{arith}
use Rattle.candidates.specs.Masks.{Sub}
use Rattle.candidates.proofs.Held.{Held, held-power, power-sub, sub-power}
use Rattle.candidates.proofs.Order.{sub-none}
use Rattle.grid.specs.Cells.{cells}
use Rattle.grid.specs.Units.{Member}
use Rattle.grid.proofs.Cells.{at_cells, past-cells}
use Rattle.grid.proofs.Units.{member_below}
use Rattle.steps.specs.Boards.{at, Under}
use Rattle.steps.specs.Passes.{Settled}
use Rattle.steps.specs.Published.{Candidate, NakedPairLoss, LockedLoss, Crossing, XWingLoss}
use Rattle.steps.specs.Wide.{LoneCell, LoneLoss, OnlyPlace, PlaceLoss, PairCells, Locked, CrossCells, Removes}
use Rattle.steps.proofs.Members.{member-row, member-col}
use Rattle.steps.proofs.Reach.{Reach, reach-keeps}
use Rattle.steps.proofs.Wide.{module8}

-- ---- a filling, by the place of the digit in each cell

pub record Filling (p : ℕ → ℕ) : Type 0 where
  pub small : (c : ℕ) → c < 81 → p c < 9
  pub once : (u c e : ℕ) → u < 27 → Member u c → Member u e → c ≢ e → p c ≢ p e
  pub every : (u d : ℕ) → u < 27 → d < 9 → (c : ℕ) × Member u c × (p c ≡ d)

-- of three different things two are of one sort, if there are two sorts
two-of-three : {P Q : ℕ → Type 0} → ((i j : ℕ) → i ≢ j → P i → P j → ⊥) → ((i j : ℕ) → i ≢ j → Q i → Q j → ⊥)
    → {i j k : ℕ} → i ≢ j → i ≢ k → j ≢ k → P i ⊎ Q i → P j ⊎ Q j → P k ⊎ Q k → ⊥
two-of-three p q {i} {j} {k} ij ik jk (inl x) (inl y) z = p i j ij x y
two-of-three p q {i} {j} {k} ij ik jk (inl x) (inr y) (inl z) = p i k ik x z
two-of-three p q {i} {j} {k} ij ik jk (inl x) (inr y) (inr z) = q j k jk y z
two-of-three p q {i} {j} {k} ij ik jk (inr x) (inl y) (inl z) = p j k jk y z
two-of-three p q {i} {j} {k} ij ik jk (inr x) (inl y) (inr z) = q i k ik x z
two-of-three p q {i} {j} {k} ij ik jk (inr x) (inr y) z = q i j ij x y

-- two different rows, or columns, have no cell in common
lines-apart : {u v x y e : ℕ} → Crossing u v x y → Member u e → Member v e → ⊥
lines-apart w a b =
    w.apart₁ (⊎_elim (λ p. omega (arith, member-row a p.0.0, member-row b p.0.1))
    (λ p. omega (arith, member-col a p.0.0 p.0.1, member-col b p.0.2 p.0.3)) w.lines)

-- masks in which each cell holds its digit and no other of the nine
pub record Holds (p : ℕ → ℕ) (z : List ℕ) : Type 0 where
  pub only : (c a : ℕ) → c < 81 → a < 9 → Candidate z c a ↔ (a ≡ p c)

module _ (g : List ℕ) (p : ℕ → ℕ) (F : Filling p) (z : List ℕ) (one : Holds p z) where
  own : {c : ℕ} → c < 81 → Candidate z c (p c)
  own {c} h = (one.only c (p c) h (F.small c h)).1 refl

  -- a cell of the unit that has the digit
  abbrev Has : ℕ → ℕ → ℕ → Type 0
  Has u d c = Member u c × (p c ≡ d)

  once : (u d : ℕ) → u < 27 → (c e : ℕ) → c ≢ e → Has u d c → Has u d e → ⊥
  once u d h c e n a b = F.once u c e h a.0 b.0 n (a.1 ∙ sym b.1)

  lone-keeps : (c d : ℕ) → c < 81 → d < 9 → LoneCell z c d → ¬ (Removes z (LoneLoss g c d))
  lone-keeps c d hc hd w r =
      let s = r.lost.peer in
      once s.shared d s.within c r.cell s.different (s.first, w.alone (p c) (F.small c hc) (own hc))
      (s.second, sym ((one.only r.cell r.digit (member_below s.within s.second) (omega (arith, r.lost.digit))).0 r.held) ∙ r.lost.digit)

  place-keeps : (u d c : ℕ) → u < 27 → d < 9 → Member u c → OnlyPlace z u d c → ¬ (Removes z (PlaceLoss g d c))
  place-keeps u d c hu hd m w r =
      let e = F.every u d hu hd in
      let here : e.0 ≡ c = w.alone e.0 e.1 ((one.only e.0 d (member_below hu e.1) hd).1 (sym e.2)) in
      let same : r.cell ≡ e.0 = r.lost.cell ∙ sym here in
      r.lost.other ((one.only r.cell r.digit (member_below hu (subst (Member u) (sym same) e.1)) r.lost.digit).0 r.held ∙ ap p same ∙ e.2)

  -- the two cells take a and b between them, so a third cell takes neither
  pair_keeps : (u c e a b : ℕ) → u < 27 → Member u c → Member u e → c ≢ e → a < 9 → b < 9 → a ≢ b → PairCells z c e a b → ¬ (Removes z (NakedPairLoss g u c e a b))
  pair_keeps u c e a b hu mc me apart ha hb ab w r =
      two-of-three (once u a hu) (once u b hu) apart (λ q. l.other₁ (sym q)) (λ q. l.other₂ (sym q))
      (takes mc (w.first (p c) (F.small c (member_below hu mc)) (own (member_below hu mc))))
      (takes me (w.second (p e) (F.small e (member_below hu me)) (own (member_below hu me))))
      (takes l.member (subst (λ (d : ℕ). (d ≡ a) ⊎ (d ≡ b)) ((one.only r.cell r.digit (member_below hu l.member) (⊎_elim (λ q. omega (arith, q)) (λ q. omega (arith, q)) l.digit)).0 r.held) l.digit))
    where
      l : NakedPairLoss g u c e a b r.cell r.digit
      l = r.lost

      takes : {x : ℕ} → Member u x → (p x ≡ a) ⊎ (p x ≡ b) → Has u a x ⊎ Has u b x
      takes m t = ⊎_elim (λ q. inl (m, q)) (λ q. inr (m, q)) t

  -- the digit's cell in u lies in v, so no cell of v outside u takes it
  locked-keeps : (u v d : ℕ) → u < 27 → v < 27 → d < 9 → Locked z u v d → ¬ (Removes z (LockedLoss g u v d))
  locked-keeps u v d hu hv hd w r =
      let e = F.every u d hu hd in
      let l = r.lost in
      once v d hv e.0 r.cell (λ q. l.outside (subst (Member u) q e.1))
      (w.inside e.0 e.1 ((one.only e.0 d (member_below hu e.1) hd).1 (sym e.2)), e.2)
      (l.member, sym ((one.only r.cell r.digit (member_below hv l.member) (omega (arith, l.digit))).0 r.held) ∙ l.digit)

  -- the digit's cells in u and v lie in x and y, one in each, so no third cell of these takes it
  cross_keeps : (u v x y d : ℕ) → Crossing u v x y → d < 9 → CrossCells z u v x y d → ¬ (Removes z (XWingLoss g u v x y d))
  cross_keeps u v x y d k hd w r =
      two-of-three (once x d n.2) (once y d n.3) (λ q. lines-apart k a.1 (subst (Member v) (sym q) b.1))
      (λ q. l.outside₁ (subst (Member u) q a.1)) (λ q. l.outside₂ (subst (Member v) q b.1))
      (takes a.2 (w.inside a.0 (inl a.1) ((one.only a.0 d (member_below n.0 a.1) hd).1 (sym a.2))))
      (takes b.2 (w.inside b.0 (inr b.1) ((one.only b.0 d (member_below n.1 b.1) hd).1 (sym b.2))))
      (takes (sym ((one.only r.cell r.digit (⊎_elim (member_below n.2) (member_below n.3) l.member) (omega (arith, l.digit))).0 r.held) ∙ l.digit) l.member)
    where
      l : XWingLoss g u v x y d r.cell r.digit
      l = r.lost

      n : (u < 27) × (v < 27) × (x < 27) × (y < 27)
      n = ⊎_elim (λ p. omega arith) (λ p. omega arith) k.lines

      a : (c : ℕ) × Member u c × (p c ≡ d)
      a = F.every u d n.0 hd

      b : (c : ℕ) × Member v c × (p c ≡ d)
      b = F.every v d n.1 hd

      takes : {c : ℕ} → p c ≡ d → Member x c ⊎ Member y c → Has x d c ⊎ Has y d c
      takes q t = ⊎_elim (λ m. inl (m, q)) (λ m. inr (m, q)) t

  pub filling-settled : Settled g z
  filling-settled = (module8.settled g z).1 (record {
    on_lone = lone-keeps;
    on_place = place-keeps;
    on_pair = pair_keeps;
    on_pointing = λ u v d w hd. locked-keeps u v d w.box.1 (omega (arith, w.line)) hd;
    on_claiming = λ u v d w hd. locked-keeps u v d (omega (arith, w.line)) w.box.1 hd;
    on_cross = cross_keeps;
  })

-- ---- a filling inside masks

-- each cell holds its digit
abbrev pub Inside : (ℕ → ℕ) → List ℕ → Type 0
Inside p m = (c : ℕ) → c < 81 → Held (at m c) (p c)

-- its masks, one digit each
filled : (ℕ → ℕ) → List ℕ
filled p = map (λ c. 2 ^ p c) cells

filled_at : (p : ℕ → ℕ) (c : ℕ) → c < 81 → at (filled p) c ≡ 2 ^ p c
unfolding filled
filled_at p c h = at_cells 0 (λ c. 2 ^ p c) c h

filled-out : (p : ℕ → ℕ) (c : ℕ) → 81 ≤ c → at (filled p) c ≡ 0
unfolding filled
filled-out p c h = past-cells 0 (λ c. 2 ^ p c) c h

filled-holds : (p : ℕ → ℕ) → Holds p (filled p)
filled-holds p = record { only = λ c a h _. subst (λ (x : ℕ). Held x a ↔ (a ≡ p c)) (sym (filled_at p c h)) (held-power (p c) a) }

inside_under : (p : ℕ → ℕ) (m : List ℕ) → Inside p m → Under (filled p) m
inside_under p m i = record { at = λ c. go c (dec_lt c 81) }
  where
    go : (c : ℕ) → Dec (c < 81) → Sub (at (filled p) c) (at m c)
    go c (yes h) = rw (filled_at p c h) (power-sub (at m c) (p c) (i c h))
    go c (no h) = rw (filled-out p c (omega arith)) (sub-none (at m c))

under-inside : (p : ℕ → ℕ) (m : List ℕ) → Under (filled p) m → Inside p m
under-inside p m u c h = sub-power (at m c) (p c) (subst (λ (x : ℕ). Sub x (at m c)) (filled_at p c h) (u.at c))

pub reach-inside : (g : List ℕ) (p : ℕ → ℕ) → Filling p → {m n : List ℕ} → Inside p m → Reach g m n → Inside p n
reach-inside g p F {m} {n} i r = under-inside p n (reach-keeps g (filling-settled g p F (filled p) (filled-holds p)) (inside_under p m i) r)
