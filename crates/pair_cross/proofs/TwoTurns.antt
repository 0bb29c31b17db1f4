-- The steps of two lines: which pair of places takes a place, and what all of them together leave. Assumes nothing.
use mathlib.Core.Path.{◌≡◌, refl, sym, ◌∙◌, subst}
use mathlib.Core.Logic.{◌↔◌, inl, inr, ⊎_elim}
use mathlib.Core.Bool.{Bool, true, false, cond}
use mathlib.Core.List.Memᴰ
use mathlib.Core.List.{List, [], ◌∷◌, Memᴰ}
use Prim.Native.Nat.{ℕ, ◌^◌, ◌<◌}
use native.Mathlib.Decide.{dec_lt}
use native.Mathlib.Omega.{arith}
use borrow.Author.Tests.{eqb-true, eqb-false}
use lib.Dec.{eqb}
use Rattle.candidates.specs.Masks.{minus, count, lowest, tail, Sub}
use Rattle.candidates.proofs.Counts.{count-zero}
use Rattle.candidates.proofs.FewDigits.{count-one, count-pair, tail-count, tail-small}
use Rattle.candidates.proofs.Held.{Held, none-held, held-union, held-power, held_below, sub_held}
use Rattle.candidates.proofs.Order.{sub_refl}
use Rattle.candidates.proofs.Tests.{cond-true, cond-false}
use Rattle.steps.specs.Boards.{is_open}
use Rattle.steps.specs.Instances.{both}
use Rattle.steps.specs.Loops.{each}
use Rattle.steps.specs.Published.{Candidate}
use Rattle.steps.specs.Steps.{lose_all}
use Rattle.steps.proofs.Losses.{Lost, lost-digits}
use Rattle.pair_cross.specs.code.Twos.{first_of, second_of, reach_of, two_lose, two_turn, frame_step}
use Rattle.pair_cross.specs.declared.twos.Frame.{Frame}

-- ---- each place that can be lost is lost to two places

-- two places that cover k, and d is one of them
pub record Reached (k d : ℕ) : Type 0 where
  pub a : ℕ
  pub b : ℕ
  pub up : a < b
  pub below : b < 9
  pub covers : Sub k (both a b)
  pub has-it : Held (both a b) d

pub held-left : (a b : ℕ) → Held (both a b) a
held-left a b = (held-union (2 ^ a) (2 ^ b) a).1 (inl ((held-power a a).1 refl))

pub held-right : (a b : ℕ) → Held (both a b) b
held-right a b = (held-union (2 ^ a) (2 ^ b) b).1 (inr ((held-power b b).1 refl))

-- at most p is held
reached-one : (k p d : ℕ) → p < 9 → d < 9 → ((e : ℕ) → Held k e → e ≡ p) → Reached k d
reached-one k p d hp hd only = go (dec_lt p d) (dec_lt d p) (dec_lt 0 p)
  where
    cover : (a b : ℕ) → Held (both a b) p → Sub k (both a b)
    cover a b t = sub_held k (both a b) (λ e s. subst (λ (z : ℕ). Held (both a b) z) (sym (only e s)) t)

    go : Dec (p < d) → Dec (d < p) → Dec (0 < p) → Reached k d
    go (yes r) s z = record { a = p; b = d; up = r; below = hd; covers = cover p d (held-left p d); has-it = held-right p d }
    go (no r) (yes s) z = record { a = d; b = p; up = s; below = hp; covers = cover d p (held-right d p); has-it = held-left d p }
    go (no r) (no s) (yes z) =
        let e : p ≡ d = omega arith in
        record { a = 0; b = p; up = z; below = hp; covers = cover 0 p (held-right 0 p); has-it = subst (Held (both 0 p)) e (held-right 0 p) }
    go (no r) (no s) (no z) =
        let e : p ≡ d = omega arith in
        record { a = p; b = 1; up = omega arith; below = omega arith; covers = cover p 1 (held-left p 1); has-it = subst (Held (both p 1)) e (held-left p 1) }

pub reached : (k d : ℕ) → k < 512 → d < 9 → Held (reach_of k) d → Reached k d
unfolding reach_of
reached k d low hd t = go (eqb (count (tail k)) 0) (eqb (count (tail (tail k))) 0) refl refl (dec_lt 0 (count k))
  where
    go : (s r : Bool) → eqb (count (tail k)) 0 ≡ s → eqb (count (tail (tail k))) 0 ≡ r → Dec (0 < count k) → Reached k d
    go true r p q (yes z) =
        let o = count-one k (omega arith) (omega (arith, tail-count k (omega arith) z, eqb-true (count (tail k)) 0 p)) in
        reached-one k (lowest k) d (held_below k 9 (lowest k) low o.held) hd o.alone
    go s r p q (no z) = reached-one k d d hd hd (λ e w. absurd (none-held e (subst (λ (x : ℕ). Held x e) (count-zero k (omega arith)) w)))
    go false true p q (yes z) =
        let n = eqb-false (count (tail k)) 0 p in
        let c = tail-count (tail k) (tail-small k (omega arith) z) (omega arith) in
        let w = count-pair k (omega arith) (omega (arith, tail-count k (omega arith) z, eqb-true (count (tail (tail k))) 0 q)) in
        let is-k = cond-false (eqb (count (tail k)) 0) 511 (cond (eqb (count (tail (tail k))) 0) k 0) p ∙ cond-true (eqb (count (tail (tail k))) 0) k 0 q in
        record {
          a = lowest k;
          b = lowest (tail k);
          up = w.rise;
          below = held_below k 9 (lowest (tail k)) low w.second;
          covers = subst (Sub k) w.is (sub_refl k);
          has-it = subst (λ (x : ℕ). Held x d) (is-k ∙ w.is) t;
        }
    go false false p q (yes z) =
        absurd (none-held d (subst (λ (x : ℕ). Held x d)
        (cond-false (eqb (count (tail k)) 0) 511 (cond (eqb (count (tail (tail k))) 0) k 0) p ∙ cond-false (eqb (count (tail (tail k))) 0) k 0 q) t))

-- ---- the steps of two lines of any frame

module _ (g : List ℕ) (F : Frame) (i j : ℕ) where
  abbrev pub Gone : ℕ → ℕ → ℕ → ℕ → Type 0
  Gone a b e v = Lost (is_open g) (frame_step F i j a b).loses (frame_step F i j a b).hits e v

  -- one of these pairs covers what the two hold, and takes v from e
  abbrev pub Taken : ℕ → List ℕ → ℕ → ℕ → Type 0
  Taken held qs e v = (q : ℕ) × Memᴰ q qs × (minus held (both (first_of q) (second_of q)) ≡ 0) × Gone (first_of q) (second_of q) e v

  module _ (held : ℕ) where
    one-turn : (a b : ℕ) (m : List ℕ) (e v : ℕ) → Candidate (two_turn g F i j held a b m) e v ↔ (Candidate m e v × ¬ ((minus held (both a b) ≡ 0) × Gone a b e v))
    unfolding two_turn two_lose
    one-turn a b m e v = go (eqb (minus held (both a b)) 0) refl
      where
        go : (t : Bool) → eqb (minus held (both a b)) 0 ≡ t → Candidate (cond t (lose_all (is_open g) (frame_step F i j a b).hits (frame_step F i j a b).loses m) m) e v ↔ (Candidate m e v × ¬ ((minus held (both a b) ≡ 0) × Gone a b e v))
        go true t =
            let w = lost-digits (is_open g) (frame_step F i j a b).loses (frame_step F i j a b).hits m e v in
            (λ c. ((w.0 c).0, λ l. (w.0 c).1 l.1), λ p. w.1 (p.0, λ l. p.1 (eqb-true (minus held (both a b)) 0 t, l)))
        go false t = (λ c. (c, λ l. eqb-false (minus held (both a b)) 0 t l.0), λ p. p.0)

    pub turns : (qs : List ℕ) (m : List ℕ) (e v : ℕ) → Candidate (each (λ q. two_turn g F i j held (first_of q) (second_of q)) qs m) e v ↔ (Candidate m e v × ¬ (Taken held qs e v))
    unfolding each
    turns [] m e v = (λ t. (t, λ w. Memᴰ.not-nil w.1), λ p. p.0)
    turns (q ∷ qs) m e v = go (turns qs (two_turn g F i j held (first_of q) (second_of q) m) e v) (one-turn (first_of q) (second_of q) m e v)
      where
        Now : Type 0
        Now = (minus held (both (first_of q) (second_of q)) ≡ 0) × Gone (first_of q) (second_of q) e v

        go : {X Y : Type 0} → X ↔ (Y × ¬ (Taken held qs e v)) → Y ↔ (Candidate m e v × ¬ Now) → X ↔ (Candidate m e v × ¬ (Taken held (q ∷ qs) e v))
        go later now = (
          λ t. ((now.0 (later.0 t).0).0, λ w. split (later.0 t).1 (now.0 (later.0 t).0).1 w),
          λ p. later.1 (now.1 (p.0, λ l. p.1 (q, Memᴰ.head refl, l.0, l.1)), λ w. p.1 (w.0, Memᴰ.tail w.1, w.2, w.3)),
        )
          where
            split : ¬ (Taken held qs e v) → ¬ Now → Taken held (q ∷ qs) e v → ⊥
            split a b w =
                ⊎_elim (λ (r : w.0 ≡ q). b (subst (λ (z : ℕ). (minus held (both (first_of z) (second_of z)) ≡ 0) × Gone (first_of z) (second_of z) e v) r (w.2, w.3)))
                (λ r. a (w.0, r, w.2, w.3)) (Memᴰ.cases_cons w.1)
