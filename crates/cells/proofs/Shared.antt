-- What nine masks hold together: what one of them holds, what two of them hold, and what those hold that have more than one digit. Assumes nothing.
use mathlib.Core.Path.{◌≡◌, refl, sym, ap, ◌∙◌, subst}
use mathlib.Core.Logic.{◌≢◌, inl, inr, ⊎_elim}
use mathlib.Core.Bool.{Bool, true, false, cond}
use mathlib.Core.List.{List}
use Prim.Native.Nat.{ℕ, zero, suc, ◌+◌, ◌-◌, ◌≤◌, ◌<◌}
use native.Mathlib.Decide.{ℕ_discrete, dec_lt}
use native.Mathlib.Omega.{arith}
use borrow.Author.Tests.{eqb-true}
use lib.Bits.{bit_and}
use lib.Dec.{eqb}
use Rattle.candidates.specs.Masks.{has, union, count, Sub}
use Rattle.candidates.proofs.Held.{Held, none-held, held_all, held-sub, sub_held, held-union}
use Rattle.candidates.proofs.Order.{sub_refl, sub_trans, sub-antisym, sub-none, union_left, union_right}
use Rattle.candidates.proofs.Tests.{cond-true, cond-false}
use Rattle.grid.proofs.Lists.{range-on, range-end}
use Rattle.grid.proofs.Unions.{held-gathered}
use Rattle.steps.specs.Boards.{at, is_open}
use Rattle.steps.specs.Loops.{each, range, up_to}
use Rattle.steps.proofs.Loops.{in-up_to, up_to-in}
use Rattle.cells.specs.code.Places.{door_at, loose_digits}
use Rattle.cells.specs.code.Unions.{joined, joined_at, shared_from, shared_of, several_in, several_of}
use Rattle.cells.proofs.NineBits.{held-meet}

-- ---- a union of what f gives at the numbers of a range

module _ (f : ℕ → ℕ) (n : ℕ) where
  pub union-at : (l : ℕ) → l < n → Sub (f l) (each (λ i x. union x (f i)) (up_to n) 0)
  union-at l h = sub_held (f l) (each (λ i x. union x (f i)) (up_to n) 0) (λ d t. (held-gathered f (up_to n) 0 d).1 (inr (l, up_to-in n l h, t)))

  pub union-held : (d : ℕ) → Held (each (λ i x. union x (f i)) (up_to n) 0) d → (i : ℕ) × (i < n) × Held (f i) d
  union-held d t = ⊎_elim (λ p. absurd (none-held d p)) (λ w. (w.0, in-up_to n w.0 w.1, w.2)) ((held-gathered f (up_to n) 0 d).0 t)

  -- a union that holds nothing is of parts that hold nothing
  pub union-none : each (λ i x. union x (f i)) (up_to n) 0 ≡ 0 → (l : ℕ) → l < n → f l ≡ 0
  union-none e l h = sub-antisym (subst (Sub (f l)) e (union-at l h)) (sub-none (f l))

-- where the open cells hold nothing together, none of them holds anything
pub loose_none : (g m : List ℕ) → loose_digits g m ≡ 0 → (c d : ℕ) → c < 81 → d < 9 → is_open g c ≡ true → Held (at m c) d → ⊥
unfolding loose_digits
loose_none g m e c d h l free t =
    none-held d
    (subst (λ (k : ℕ). Held k d) (union-none (λ c. bit_and (at m c) (door_at g c)) 81 e c h)
    ((held-meet (at m c) (door_at g c) d).1 (t, subst (λ (k : ℕ). Held k d) (sym (cond-true (is_open g c) 511 0 free)) (held_all d l))))

module _ (nine : List ℕ) (d : ℕ) where
  pub joined-held : Held (joined nine) d → (i : ℕ) × (i < 9) × Held (at nine i) d
  unfolding joined
  joined-held t = union-held (at nine) 9 d t

  -- a mask that holds what no several one holds has one digit
  pub several-not : (Held (several_of nine) d → ⊥) → (i : ℕ) → i < 9 → Held (at nine i) d → count (at nine i) ≡ 1
  unfolding several_of
  several-not none i h t = go (eqb (count (at nine i)) 1) refl
    where
      go : (b : Bool) → eqb (count (at nine i)) 1 ≡ b → count (at nine i) ≡ 1
      go true e = eqb-true (count (at nine i)) 1 e
      go false e =
          absurd (none (held-sub d (union-at (λ j. several_in (at nine j)) 9 i h)
          (subst (λ (x : ℕ). Held x d) (sym (cond-false (eqb (count (at nine i)) 1) 0 (at nine i) e)) t)))

-- ---- what two of the masks hold

module _ (nine : List ℕ) (i s b : ℕ) where
  pub shared-on : {x y : ℕ} → i < 9 → x ≡ union s (at nine i) → y ≡ union b (bit_and s (at nine i)) → shared_from nine (range (9 - (i + 1)) (i + 1)) x y ≡ shared_from nine (range (9 - i) i) s b
  unfolding shared_from
  shared-on {x} {y} h p q =
      ap (λ (z : ℕ). shared_from nine (range (9 - (i + 1)) (i + 1)) z y) p
      ∙ ap (shared_from nine (range (9 - (i + 1)) (i + 1)) (union s (at nine i))) q
      ∙ sym (ap (λ (l : List ℕ). shared_from nine l s b) (range-on 9 i h))

  pub shared-end : 9 ≤ i → shared_from nine (range (9 - i) i) s b ≡ b
  unfolding shared_from
  shared-end h = ap (λ (l : List ℕ). shared_from nine l s b) (range-end 9 i h)

pub record Twice (nine : List ℕ) (d : ℕ) : Type 0 where
  pub first : ℕ
  pub second : ℕ
  pub rise : first < second
  pub below : second < 9
  pub held₁ : Held (at nine first) d
  pub held₂ : Held (at nine second) d

module _ (nine : List ℕ) (d : ℕ) where
  twice-from : (n k s b : ℕ) → k + n ≡ 9 → (Held s d → (i : ℕ) × (i < k) × Held (at nine i) d) → (Held b d → Twice nine d) → Held (shared_from nine (range n k) s b) d → Twice nine d
  unfolding shared_from
  twice-from zero k s b e seen two t = two t
  twice-from (suc n) k s b e seen two t =
      twice-from n (suc k) (union s (at nine k)) (union b (bit_and s (at nine k))) (omega arith)
      (λ h. ⊎_elim (λ p. let w = seen p in let o = w.1 in (w.0, omega arith, w.2)) (λ p. (k, omega arith, p)) ((held-union s (at nine k) d).0 h))
      (λ h. ⊎_elim two (λ p. let q = (held-meet s (at nine k) d).0 p in let w = seen q.0 in
      record { first = w.0; second = k; rise = w.1; below = omega arith; held₁ = w.2; held₂ = q.1 }) ((held-union b (bit_and s (at nine k)) d).0 h)) t

  pub shared-twice : Held (shared_of nine) d → Twice nine d
  unfolding shared_of
  shared-twice t = twice-from 9 0 0 0 refl (λ h. absurd (none-held d h)) (λ h. absurd (none-held d h)) t

  shared_start : (n k s b : ℕ) → Sub b (shared_from nine (range n k) s b)
  unfolding shared_from
  shared_start zero k s b = sub_refl b
  shared_start (suc n) k s b = sub_trans (union_left b (bit_and s (at nine k))) (shared_start n (suc k) (union s (at nine k)) (union b (bit_and s (at nine k))))

  -- a digit that was seen, and is held once more
  seen-shared : (n k s b j : ℕ) → Held s d → k ≤ j → j < k + n → Held (at nine j) d → Held (shared_from nine (range n k) s b) d
  unfolding shared_from
  seen-shared zero k s b j t h l p = absurd (omega arith)
  seen-shared (suc n) k s b j t h l p =
      go (ℕ_discrete j k) (λ o. seen-shared n (suc k) (union s (at nine k)) (union b (bit_and s (at nine k))) j ((held-union s (at nine k) d).1 (inl t)) o (omega arith) p)
    where
      go : Dec (j ≡ k) → (suc k ≤ j → Held (shared_from nine (range n (suc k)) (union s (at nine k)) (union b (bit_and s (at nine k)))) d) → Held (shared_from nine (range n (suc k)) (union s (at nine k)) (union b (bit_and s (at nine k)))) d
      go (yes e) more =
          held-sub d (sub_trans (union_right b (bit_and s (at nine k))) (shared_start n (suc k) (union s (at nine k)) (union b (bit_and s (at nine k)))))
          ((held-meet s (at nine k) d).1 (t, subst (λ (x : ℕ). Held (at nine x) d) e p))
      go (no e) more = more (omega arith)

  two-shared : (n k s b i j : ℕ) → k ≤ i → i < j → j < k + n → Held (at nine i) d → Held (at nine j) d → Held (shared_from nine (range n k) s b) d
  unfolding shared_from
  two-shared zero k s b i j h r l p q = absurd (omega arith)
  two-shared (suc n) k s b i j h r l p q =
      go (ℕ_discrete i k) (λ o. two-shared n (suc k) (union s (at nine k)) (union b (bit_and s (at nine k))) i j o r (omega arith) p q)
    where
      go : Dec (i ≡ k) → (suc k ≤ i → Held (shared_from nine (range n (suc k)) (union s (at nine k)) (union b (bit_and s (at nine k)))) d) → Held (shared_from nine (range n (suc k)) (union s (at nine k)) (union b (bit_and s (at nine k)))) d
      go (yes e) more =
          seen-shared n (suc k) (union s (at nine k)) (union b (bit_and s (at nine k))) j
          ((held-union s (at nine k) d).1 (inr (subst (λ (x : ℕ). Held (at nine x) d) e p))) (omega arith) (omega arith) q
      go (no e) more = more (omega arith)

  pub twice-shared : (i j : ℕ) → i < 9 → j < 9 → i ≢ j → Held (at nine i) d → Held (at nine j) d → Held (shared_of nine) d
  unfolding shared_of
  twice-shared i j h l n p q = go (dec_lt i j)
    where
      go : Dec (i < j) → Held (shared_from nine (up_to 9) 0 0) d
      go (yes r) = two-shared 9 0 0 0 i j (omega arith) r (omega arith) p q
      go (no r) = two-shared 9 0 0 0 j i (omega arith) (omega arith) (omega arith) q p

-- ---- what the masks at some places hold

module _ (nine : List ℕ) (places d : ℕ) where
  pub joined_at_lem : (i : ℕ) → i < 9 → Held places i → Held (at nine i) d → Held (joined_at nine places) d
  unfolding joined_at
  joined_at_lem i h p q =
      held-sub d (union-at (λ j. cond (has places j) (at nine j) 0) 9 i h)
      (subst (λ (x : ℕ). Held x d) (sym (cond-true (has places i) (at nine i) 0 p)) q)

  pub at_joined : Held (joined_at nine places) d → (i : ℕ) × (i < 9) × Held places i × Held (at nine i) d
  unfolding joined_at
  at_joined t =
      let w = union-held (λ j. cond (has places j) (at nine j) 0) 9 d t in
      one w.0 w.1 (has places w.0) refl w.2
    where
      one : (i : ℕ) → i < 9 → (b : Bool) → has places i ≡ b → Held (cond (has places i) (at nine i) 0) d → (i : ℕ) × (i < 9) × Held places i × Held (at nine i) d
      one i h true e t = (i, h, e, subst (λ (x : ℕ). Held x d) (cond-true (has places i) (at nine i) 0 e) t)
      one i h false e t = absurd (none-held d (subst (λ (x : ℕ). Held x d) (cond-false (has places i) (at nine i) 0 e) t))
