-- Masks of one digit, of two, and of two or more: by their count and by the digits that they hold. Assumes nothing.
use mathlib.Core.Path.{◌≡◌, refl, sym, ap, ◌∙◌, subst}
use mathlib.Core.Logic.{◌≢◌, ◌⊎◌, ◌↔◌, inl, inr, ⊎_elim}
use mathlib.Core.Bool.{Bool, true, false, cond, true≢false}
use Prim.Native.Nat.{ℕ, zero, suc, ◌+◌, ◌^◌, ◌≤◌, ◌<◌}
use native.Mathlib.Decide.{ℕ_discrete}
use native.Mathlib.Omega.{arith}
use borrow.Author.Tests.{eq-eqb}
use lib.Arith.{lt_of_le-ne}
use Rattle.candidates.specs.Masks.{bit, has, minus, union, count, single, first_place, lowest, tail}
pub use Rattle.candidates.specs.Masks.{One, More}
use Rattle.candidates.proofs.Counts.{count-minus, count-zero, count-some, count-power, sub-and, lowest-le, bit-lowest, count-tail}
use Rattle.candidates.proofs.Held.{Held, held-ext, none-held, held-power, held-minus, held-union, held_both, power-sub}

-- a and b and no others
pub record Two (x a b : ℕ) : Type 0 where
  pub apart : a ≢ b
  pub held : (d : ℕ) → Held x d ↔ ((d ≡ a) ⊎ (d ≡ b))

-- ---- a digit taken out

pub count-without : (x a : ℕ) → Held x a → count (minus x (2 ^ a)) + 1 ≡ count x
count-without x a t = omega (arith, count-minus x (2 ^ a), ap count (sub-and (power-sub x a t)), count-power a)

-- ---- the lowest digit

-- nothing before the first place from d on is held
first-least : (n d x k : ℕ) → d ≤ k → Held x k → first_place n d x ≤ k ⊎ (d + n ≤ k)
unfolding first_place
first-least zero d x k h t = inr (omega arith)
first-least (suc n) d x k h t = go (has x d) refl (ℕ_discrete k d) (λ l. first-least n (suc d) x k l t)
  where
    go : (b : Bool) → has x d ≡ b → Dec (k ≡ d) → (suc d ≤ k → first_place n (suc d) x ≤ k ⊎ (suc d + n ≤ k)) → cond (has x d) d (first_place n (suc d) x) ≤ k ⊎ (d + suc n ≤ k)
    go true e p ih = inl (rw e h)
    go false e (yes p) ih = absurd (true≢false (sym t ∙ ap (has x) p ∙ e))
    go false e (no p) ih = rw e (⊎_elim (λ l. inl l) (λ l. inr (omega arith)) (ih (omega arith)))

pub lowest-least : (x d : ℕ) → Held x d → lowest x ≤ d
lowest-least x d t = ⊎_elim (λ l. l) (λ l. omega (arith, lowest-le x)) (first-least 16 0 x d (omega arith) t)

pub lowest-in : (x : ℕ) → 0 < x → x < 2 ^ 16 → Held x (lowest x)
lowest-in x p h = eq-eqb (bit x (lowest x)) 1 (bit-lowest x p h)

module _ (x : ℕ) (small : x < 2 ^ 16) (some : 0 < count x) where
  pos : 0 < x
  pos = count-some x some

  pub lowest-held : Held x (lowest x)
  lowest-held = lowest-in x pos small

  pub held-tail : (d : ℕ) → Held (tail x) d ↔ (Held x d × (d ≢ lowest x))
  held-tail d = (λ t. down ((held-minus x (single (lowest x)) d).0 t), λ p. (held-minus x (single (lowest x)) d).1 (p.0, λ t. p.1 ((held-power (lowest x) d).0 t)))
    where
      down : Held x d × ¬ (Held (2 ^ lowest x) d) → Held x d × (d ≢ lowest x)
      down p = (p.0, λ e. p.1 ((held-power (lowest x) d).1 e))

  pub tail-count : count (tail x) + 1 ≡ count x
  tail-count = count-tail x pos small

  pub tail-small : tail x < 2 ^ 16
  tail-small = omega arith

-- ---- one digit

pub one-count : {x d : ℕ} → One x d → count x ≡ 1
one-count {x} {d} o = ap count (held-ext x (2 ^ d) (λ e. (λ t. (held-power d e).1 (o.alone e t), λ t. subst (λ (k : ℕ). Held x k) (sym ((held-power d e).0 t)) o.held))) ∙ count-power d

pub count-one : (x : ℕ) → x < 2 ^ 16 → count x ≡ 1 → One x (lowest x)
count-one x h e = record { held = lowest-held x h (omega arith); alone = λ d t. alone d t (ℕ_discrete d (lowest x)) }
  where
    rest : tail x ≡ 0
    rest = count-zero (tail x) (omega (arith, tail-count x h (omega arith)))

    alone : (d : ℕ) → Held x d → Dec (d ≡ lowest x) → d ≡ lowest x
    alone d t (yes p) = p
    alone d t (no n) = absurd (none-held d (subst (λ (k : ℕ). Held k d) rest ((held-tail x h (omega arith) d).1 (t, n))))

-- ---- two digits or more

pub more-count : {x a b : ℕ} → More x a b → 2 ≤ count x
more-count {x} {a} {b} w = omega (arith, count-without x a w.held₁, count-without (minus x (2 ^ a)) b ((held-minus x (2 ^ a) b).1 (w.held₂, λ t. w.apart (sym ((held-power a b).0 t)))))

pub count-more : (x : ℕ) → x < 2 ^ 16 → 2 ≤ count x → More x (lowest x) (lowest (tail x))
count-more x h l = record { apart = λ p. snd.1 (sym p); held₁ = lowest-held x h (omega arith); held₂ = snd.0 }
  where
    snd : Held x (lowest (tail x)) × (lowest (tail x) ≢ lowest x)
    snd = (held-tail x h (omega arith) (lowest (tail x))).0 (lowest-held (tail x) (tail-small x h (omega arith)) (omega (arith, tail-count x h (omega arith))))

-- ---- two digits

pub two-count : {x a b : ℕ} → Two x a b → count x ≡ 2
two-count {x} {a} {b} w = omega (arith, count-without x a ((w.held a).1 (inl refl)), one-count rest)
  where
    other : (d : ℕ) → Held (minus x (2 ^ a)) d → d ≡ b
    other d t =
        let p = (held-minus x (2 ^ a) d).0 t in
        ⊎_elim (λ e. absurd (p.1 ((held-power a d).1 e))) (λ e. e) ((w.held d).0 p.0)

    rest : One (minus x (2 ^ a)) b
    rest = record {
      held = (held-minus x (2 ^ a) b).1 ((w.held b).1 (inr refl), λ t. w.apart (sym ((held-power a b).0 t)));
      alone = other;
    }

pub count-two : (x : ℕ) → x < 2 ^ 16 → count x ≡ 2 → Two x (lowest x) (lowest (tail x))
count-two x h e = record { apart = two.apart; held = λ d. (λ t. down d t (ℕ_discrete d (lowest x)), λ p. ⊎_elim (λ q. up d (lowest x) q two.held₁) (λ q. up d (lowest (tail x)) q two.held₂) p) }
  where
    two : More x (lowest x) (lowest (tail x))
    two = count-more x h (omega arith)

    up : (d k : ℕ) → d ≡ k → Held x k → Held x d
    up d k q t = rw q t

    rest : One (tail x) (lowest (tail x))
    rest = count-one (tail x) (tail-small x h (omega arith)) (omega (arith, tail-count x h (omega arith)))

    down : (d : ℕ) → Held x d → Dec (d ≡ lowest x) → (d ≡ lowest x) ⊎ (d ≡ lowest (tail x))
    down d t (yes p) = inl p
    down d t (no n) = inr (rest.alone d ((held-tail x h (omega arith) d).1 (t, n)))

pub two-ext : {x y a b : ℕ} → Two x a b → Two y a b → x ≡ y
two-ext {x} {y} v w = held-ext x y (λ d. (λ t. (w.held d).1 ((v.held d).0 t), λ t. (v.held d).1 ((w.held d).0 t)))

-- the two digits are the same in either order
pub two-same : {x a b c e : ℕ} → Two x a b → Two x c e → ((a ≡ c) × (b ≡ e)) ⊎ ((a ≡ e) × (b ≡ c))
two-same {x} {a} {b} {c} {e} v w = go ((w.held a).0 ((v.held a).1 (inl refl))) ((w.held b).0 ((v.held b).1 (inr refl)))
  where
    go : (a ≡ c) ⊎ (a ≡ e) → (b ≡ c) ⊎ (b ≡ e) → ((a ≡ c) × (b ≡ e)) ⊎ ((a ≡ e) × (b ≡ c))
    go (inl p) (inl q) = absurd (v.apart (p ∙ sym q))
    go (inl p) (inr q) = inl (p, q)
    go (inr p) (inl q) = inr (p, q)
    go (inr p) (inr q) = absurd (v.apart (p ∙ sym q))

pub lowest-rises : (x : ℕ) → x < 2 ^ 16 → 2 ≤ count x → lowest x < lowest (tail x)
lowest-rises x h l =
    let w = count-more x h l in
    lt_of_le-ne (lowest-least x (lowest (tail x)) w.held₂) w.apart

-- two digits as a union, the lower first
pub record Pair (x : ℕ) : Type 0 where
  pub is : x ≡ union (2 ^ lowest x) (2 ^ lowest (tail x))
  pub rise : lowest x < lowest (tail x)
  pub second : Held x (lowest (tail x))

pub count-pair : (x : ℕ) → x < 2 ^ 16 → count x ≡ 2 → Pair x
count-pair x h e =
    let w = count-two x h e in
    record {
      is = held-ext x (union (2 ^ lowest x) (2 ^ lowest (tail x))) (λ d. (
        λ t. (held-union (2 ^ lowest x) (2 ^ lowest (tail x)) d).1 (⊎_elim (λ q. inl ((held-power (lowest x) d).1 q)) (λ q. inr ((held-power (lowest (tail x)) d).1 q)) ((w.held d).0 t)),
        λ t. (w.held d).1 (held_both (lowest x) (lowest (tail x)) d t),
      ));
      rise = lowest-rises x h (omega arith);
      second = (w.held (lowest (tail x))).1 (inr refl);
    }
