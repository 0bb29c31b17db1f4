-- The ported eliminations come from instances of the wide passes: on admissible masks each published pattern is the condition of an instance that loses the same. Assumes nothing.
use mathlib.Core.Path.{◌≡◌, refl, sym}
use mathlib.Core.Logic.{◌≢◌, ◌⊎◌, ◌↔◌, inl, inr, ⊎_elim}
use mathlib.Core.Bool.{Bool, true, false}
use mathlib.Core.List.{List, Memᴰ}
use Prim.Native.Nat.{ℕ, ◌+◌, ◌<◌}
use native.Mathlib.Omega.{arith}
use Rattle.candidates.proofs.Held.{held_below, held-sub}
use Rattle.grid.specs.Units.{unit_cell, Member}
use Rattle.grid.proofs.Units.{at_place, cells-differ}
use Rattle.steps.specs.Boards.{at, Givens, Admissible, Under}
use Rattle.steps.specs.Instances.{line_of}
use Rattle.steps.specs.Loops.{each, up_to, above}
use Rattle.steps.specs.Ported.{is_naked_pair, naked_pair_at, naked_pairs, is_box_line, box_line_at, box_lines, is_x_wing, x_wing_at, x_wing_digit, x_wings}
use Rattle.steps.specs.Published.{Candidate, Holder, Without, NakedPair, Pointing, Crossing, XWing}
use Rattle.steps.specs.Wide.{PairCells, Locked, CrossCells}
use Rattle.steps.proofs.Fresh.{mask-small}
use Rattle.steps.proofs.Holders.{holder-open}
use Rattle.steps.proofs.Instances.{line-below}
use Rattle.steps.proofs.Loops.{each_keeps, in-up_to, in-above}
use Rattle.steps.proofs.Losses.{without-same, without-again}
use Rattle.steps.proofs.Members.{row-meets}
use Rattle.steps.proofs.Named.{line-meets, Listed, pair-named, pointing-named, cross-named}
use Rattle.steps.proofs.Published.{naked-pair, naked-pair-loses, naked-pair-none, pointing, pointing-loses, pointing-none, Line, x-wing, x-wing-loses, x-wing-none}
use Rattle.steps.proofs.Reach.{Reach, start, next, reach-trans, reach-eq, reach-under, reach-admissible}
use Rattle.steps.proofs.Wide.{words}

-- ---- one turn

module _ (g : List ℕ) {m n : List ℕ} where
  -- by an instance that applies and loses the same
  reach-named : {A : Type 0} {loss : ℕ → ℕ → Type 0} → Listed g m A loss → A → Without m loss n → Reach g m n
  reach-named x w lost =
      reach-eq g (next start x.kind x.instance x.listed)
      (without-same (without-again x.what ((words g m x.kind x.instance x.listed).loses (x.when w))) lost)

  -- by its test
  reach-test : (t : Bool) → (t ≡ true → Reach g m n) → (t ≡ false → n ≡ m) → Reach g m n
  reach-test true some none = some refl
  reach-test false some none = reach-eq g start (sym (none refl))

-- ---- a published pattern is a wide condition

naked-pair-wide : {g m : List ℕ} {u c e a b : ℕ} → NakedPair g m u c e a b → PairCells m c e a b
naked-pair-wide s = record { first = λ d l t. (s.held₁ d).0 t; second = λ d l t. (s.held₂ d).0 t }

-- a condition goes on holding as masks shrink
cross-down : {m n : List ℕ} {u v x y d : ℕ} → Under m n → CrossCells n u v x y d → CrossCells m u v x y d
cross-down {d = d} p w = record { inside = λ e q t. w.inside e q (held-sub d (p.at e) t) }

exchange : {u v x y : ℕ} → Crossing u v x y → Crossing v u x y
exchange k = record { lines = ⊎_elim (λ p. inl (omega arith)) (λ p. inr (omega arith)) k.lines; apart₁ = λ q. k.apart₁ (sym q); apart₂ = k.apart₂ }

-- crossing lines have a cell in common
meeting : {u v x y : ℕ} → Crossing u v x y → (e : ℕ) × Member u e × Member x e
meeting {u} {v} {x} k = ⊎_elim (λ p. row-meets p.0.0 p.1.0 p.1.1) (λ p. turned (row-meets p.1.0 p.0.0 p.0.1)) k.lines
  where
    turned : (e : ℕ) × Member x e × Member u e → (e : ℕ) × Member u e × Member x e
    turned w = (w.0, w.2, w.1)

module _ (g : List ℕ) (ok : Givens g) (m : List ℕ) (ad : Admissible g m) where
  pointing-wide : {u v d : ℕ} → u < 27 → Pointing g m u v d → Locked m u v d
  pointing-wide {u} {v} {d} h s = record { inside = λ e p t. s.inside e p (holder-open g ok m ad u d h s.member₁ s.holder₁ p t) }

  x-wing-wide : {u v x y d : ℕ} → XWing g m u v x y d → CrossCells m u v x y d
  x-wing-wide {x = x} {y} {d} s = record { inside = λ e p t. ⊎_elim (λ q. corner s.crossing s.corner₁ e q t) (λ q. corner (exchange s.crossing) s.corner₂ e q t) p }
    where
      corner : {u v : ℕ} → Crossing u v x y → ((e : ℕ) → Member u e → Holder g m d e ↔ (Member x e ⊎ Member y e)) → (e : ℕ) → Member u e → Candidate m e d → Member x e ⊎ Member y e
      corner {u} k here e p t =
          let c = meeting k in
          (here e p).0 (holder-open g ok m ad u d (⊎_elim (λ p. omega arith) (λ p. omega arith) k.lines) c.1 ((here c.0 c.1).1 (inl c.2)) p t)

  -- ---- the turns of the three passes

  pair-reach : (u i j : ℕ) → u < 27 → i < j → j < 9 → Reach g m (naked_pair_at g u (unit_cell u i) (unit_cell u j) m)
  pair-reach u i j hu ij hj = reach-test g (is_naked_pair g m c e) (λ t. one ((naked-pair g m small p q apart).0 t)) (naked-pair-none g m u c e)
    where
      c : ℕ
      c = unit_cell u i

      e : ℕ
      e = unit_cell u j

      small : (c : ℕ) → at m c < 512
      small = mask-small g ok ad.under

      p : Member u c
      p = at_place u i (omega arith)

      q : Member u e
      q = at_place u j hj

      apart : c ≢ e
      apart = cells-differ u i j hu (omega arith) hj (omega arith)

      one : (a : ℕ) × (b : ℕ) × NakedPair g m u c e a b → Reach g m (naked_pair_at g u c e m)
      one w =
          let s = w.2 in
          reach-named g (pair-named g m u c e w.0 w.1 hu p q apart (held_below (at m c) 9 w.0 (small c) ((s.held₁ w.0).1 (inl refl))) (held_below (at m c) 9 w.1 (small c) ((s.held₁ w.1).1 (inr refl))) s.digits)
          (naked-pair-wide s) (naked-pair-loses g m hu s)

  box-reach : (b d k : ℕ) → b < 9 → d < 9 → k < 6 → Reach g m (box_line_at g (18 + b) (line_of b k) d m)
  box-reach b d k hb hd hk =
      reach-test g (is_box_line g m (18 + b) (line_of b k) d) (λ t. one ((pointing g m (omega arith) (line-below b k hb hk) d).0 t)) (pointing-none g m (omega arith) (line-below b k hb hk) d)
    where
      one : Pointing g m (18 + b) (line_of b k) d → Reach g m (box_line_at g (18 + b) (line_of b k) d m)
      one s =
          reach-named g (pointing-named g m (18 + b) (line_of b k) d (line-meets b k hb hk) hd) (pointing-wide (omega arith) s)
          (pointing-loses g m (omega arith) (line-below b k hb hk) d s)

  -- The test reads m, the masks at the digit's start, and the removal is from later masks o.
  wing-reach : {k u v d : ℕ} → Line k u → Line k v → u ≢ v → d < 9 → (o : List ℕ) → Reach g m o → Reach g m (x_wing_at g m k d u v o)
  wing-reach {k} {u} {v} {d} l l' apart hd o r =
      reach-trans g r (reach-test g (is_x_wing g m u v d) (λ t. one ((x-wing g m d l l' apart).0 t)) (x-wing-none g m d l l' o))
    where
      one : (x : ℕ) × (y : ℕ) × XWing g m u v x y d → Reach g o (x_wing_at g m k d u v o)
      one w =
          reach-named g (cross-named g o u v w.0 w.1 d w.2.crossing hd) (cross-down (reach-under g r) (x-wing-wide w.2))
          (x-wing-loses g m d l l' o w.2)

  -- the lines from unit l on are crossed by those from unit k on
  digit-reach : (l k : ℕ) → ((r : ℕ) → r < 9 → Line k (l + r)) → (d : ℕ) → d < 9 → Reach g m (x_wing_digit g l k d m)
  unfolding x_wing_digit
  digit-reach l k line d hd =
      each_keeps _ (Reach g m) (up_to 9)
      (λ r p. each_keeps _ (Reach g m) (above r 9) (λ s q o. one r s (in-above r 9 s q) o)) m start
    where
      one : (r s : ℕ) → (r < s) × (s < 9) → (o : List ℕ) → Reach g m o → Reach g m (x_wing_at g m k d (l + r) (l + s) o)
      one r s h o = wing-reach (line r (omega arith)) (line s (omega arith)) (omega arith) hd o

-- ---- the three passes

-- a loop whose turns are instances on admissible masks
pub loop-reach : (g m : List ℕ) → Admissible g m → {A : Type 0} (f : A → List ℕ → List ℕ) (xs : List A) → ((x : A) → Memᴰ x xs → (n : List ℕ) → Admissible g n → Reach g n (f x n)) → (n : List ℕ) → Reach g m n → Reach g m (each f xs n)
loop-reach g m ad f xs h = each_keeps f (Reach g m) xs (λ x k n p. reach-trans g p (h x k n (reach-admissible g p ad)))

pub naked_pairs-reach : (g m : List ℕ) → Givens g → Admissible g m → Reach g m (naked_pairs g m)
unfolding naked_pairs
naked_pairs-reach g m ok ad =
    each_keeps _ (Reach g m) (up_to 27)
    (λ u hu. each_keeps _ (Reach g m) (up_to 9)
    (λ i hi. loop-reach g m ad _ (above i 9)
    (λ j hj n a. pair-reach g ok n a u i j (in-up_to 27 u hu) (in-above i 9 j hj).0 (in-above i 9 j hj).1))) m start

pub box_lines-reach : (g m : List ℕ) → Givens g → Admissible g m → Reach g m (box_lines g m)
unfolding box_lines
box_lines-reach g m ok ad =
    each_keeps _ (Reach g m) (up_to 9)
    (λ b hb. each_keeps _ (Reach g m) (up_to 9)
    (λ d hd. loop-reach g m ad _ (up_to 6)
    (λ k hk n a. box-reach g ok n a b d k (in-up_to 9 b hb) (in-up_to 9 d hd) (in-up_to 6 k hk)))) m start

pub x_wings-reach : (g m : List ℕ) → Givens g → Admissible g m → Reach g m (x_wings g m)
unfolding x_wings
x_wings-reach g m ok ad =
    loop-reach g m ad (x_wing_digit g 9 0) (up_to 9) (λ d hd n a. digit-reach g ok n a 9 0 (λ r h. inr (omega arith, omega arith, refl)) d (in-up_to 9 d hd)) _
    (loop-reach g m ad (x_wing_digit g 0 9) (up_to 9) (λ d hd n a. digit-reach g ok n a 0 9 (λ r h. inl (omega arith, refl)) d (in-up_to 9 d hd)) m start)
