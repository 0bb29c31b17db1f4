-- The candidates of 81 sets as a rising list: with one more, none, and that the list determines the sets. Assumes nothing.
use mathlib.Core.Path.{◌≡◌, refl, sym, ap, ◌∙◌, subst}
use mathlib.Core.Logic.{◌⊎◌, inl, inr, ⊎_elim}
use mathlib.Core.Bool.{Bool, true, false, cond, ◌||◌, or-true, or-false}
use mathlib.Core.List.{List, [], ◌∷◌, ◌++◌, Memᴰ}
use Prim.Native.Nat.{ℕ, zero, suc, ◌+◌, ◌*◌, ◌/◌, ◌%◌, ◌≤◌, ◌<◌}
use native.Mathlib.Decide.{ℕ_discrete, dec_lt}
use native.Mathlib.Omega.{arith}
use borrow.Author.Tests.{eq-eqb, ne_eqb, eqb-true}
use lib.Bits.{or_lt}
use lib.Dec.{eqb}
use lib.ListN.{length, get_or, set, get_or-replicate, length-replicate, get_or-eq_default}
use lib.Pow.{pow-lt}
use lib.Seq.{ext_get_or, get_or-set_same, get_or-set_other}
use Rattle.candidates.specs.Masks.{has, single, union}
use Rattle.candidates.proofs.Held.{Held, held_below, held-ext, has-none, has-power, has-union}
use Rattle.candidates.proofs.Tests.{eqb-iff, cond-true, cond-false, either}
use Rattle.grid.proofs.Lists.{mem-range, mem-select, select-mem, select-none}
use Rattle.steps.specs.Boards.{at}
use Rattle.steps.specs.Loops.{range, select, up_to}
use Rattle.steps.proofs.Loops.{up_to-in}
use Rattle.record.specs.Sections.{in_sets, candidates, with, no_sets}

-- ---- the sets with one candidate more

abbrev more : List ℕ → ℕ → ℕ
more s e = union (at s (e / 9)) (single (e % 9))

module _ (s : List ℕ) (e : ℕ) (size : length s ≡ 81) (l : e < 729) where
  pub in-with : (k : ℕ) → in_sets (with s e) k ≡ (in_sets s k || eqb k e)
  in-with k = go (ℕ_discrete (k / 9) (e / 9))
    where
      same : k / 9 ≡ e / 9 → k % 9 ≡ e % 9 → k ≡ e
      same p q = omega arith

      digit : k / 9 ≡ e / 9 → has (single (e % 9)) (k % 9) ≡ eqb k e
      digit p = has-power (e % 9) (k % 9) ∙ eqb-iff (k % 9) (e % 9) k e (same p) (ap (λ (x : ℕ). x % 9))

      go : Dec (k / 9 ≡ e / 9) → in_sets (with s e) k ≡ (in_sets s k || eqb k e)
      go (no n) =
          ap (λ (x : ℕ). has x (k % 9)) (get_or-set_other s (e / 9) (k / 9) (more s e) 0 n)
          ∙ sym (ap (λ (b : Bool). in_sets s k || b) (ne_eqb k e (λ q. n (ap (λ (x : ℕ). x / 9) q))) ∙ or-false (in_sets s k))
      go (yes p) =
          ap (λ (c : ℕ). has (get_or (set s (e / 9) (more s e)) c 0) (k % 9)) p
          ∙ ap (λ (x : ℕ). has x (k % 9)) (get_or-set_same s (e / 9) (more s e) 0 (omega arith))
          ∙ has-union (at s (e / 9)) (single (e % 9)) (k % 9)
          ∙ ap (λ (c : ℕ). has (at s c) (k % 9) || has (single (e % 9)) (k % 9)) (sym p) ∙ ap (λ (b : Bool). in_sets s k || b) (digit p)

  pub in-cases : (k : ℕ) → in_sets (with s e) k ≡ true → (in_sets s k ≡ true) ⊎ (k ≡ e)
  in-cases k t = ⊎_elim inl (λ u. inr (eqb-true k e u)) ((either (in_sets s k) (eqb k e)).0 (sym (in-with k) ∙ t))

  pub with-small : ((c : ℕ) → at s c < 512) → (c : ℕ) → at (with s e) c < 512
  with-small small c = go (ℕ_discrete c (e / 9))
    where
      go : Dec (c ≡ e / 9) → at (with s e) c < 512
      go (no n) = rw (get_or-set_other s (e / 9) c (more s e) 0 n) (small c)
      go (yes p) = rw (p, get_or-set_same s (e / 9) (more s e) 0 (omega arith)) (or_lt 9 (at s (e / 9)) (single (e % 9)) (small (e / 9)) (pow-lt {j = 9} (omega arith)))

-- ---- the list with one candidate more

module _ (f g : ℕ → Bool) (e : ℕ) (same : (j : ℕ) → j < e → g j ≡ f j) (here : g e ≡ true) (above : (j : ℕ) → e < j → g j ≡ false) (none : (j : ℕ) → e ≤ j → f j ≡ false) where
  select-last : (n k : ℕ) → k ≤ e → e < k + n → select g (range n k) ≡ select f (range n k) ++ (e ∷ [])
  select-last zero k h l = absurd (omega arith)
  select-last (suc n) k h l = go (ℕ_discrete k e) (λ m. select-last n (suc k) m (omega arith))
    where
      either_way : (t : Bool) → select g (range n (suc k)) ≡ select f (range n (suc k)) ++ (e ∷ [])
          → cond t (k ∷ select g (range n (suc k))) (select g (range n (suc k))) ≡ cond t (k ∷ select f (range n (suc k))) (select f (range n (suc k))) ++ (e ∷ [])
      either_way true q = ap (λ (l : List ℕ). k ∷ l) q
      either_way false q = q

      go : Dec (k ≡ e) → (suc k ≤ e → select g (range n (suc k)) ≡ select f (range n (suc k)) ++ (e ∷ []))
          → cond (g k) (k ∷ select g (range n (suc k))) (select g (range n (suc k))) ≡ cond (f k) (k ∷ select f (range n (suc k))) (select f (range n (suc k))) ++ (e ∷ [])
      go (yes p) ih =
          cond-true (g k) (k ∷ select g (range n (suc k))) (select g (range n (suc k))) (ap g p ∙ here)
          ∙ ap (λ (l : List ℕ). k ∷ l) (select-none g (range n (suc k)) (λ j m. above j (omega (arith, mem-range n (suc k) j m)))) ∙ ap (λ (x : ℕ). x ∷ []) p
          ∙ sym (ap (λ (l : List ℕ). l ++ (e ∷ [])) (cond-false (f k) (k ∷ select f (range n (suc k))) (select f (range n (suc k))) (none k (omega arith))
          ∙ select-none f (range n (suc k)) (λ j m. none j (omega (arith, mem-range n (suc k) j m)))))
      go (no p) ih =
          ap (λ (t : Bool). cond t (k ∷ select g (range n (suc k))) (select g (range n (suc k)))) (same k (omega arith)) ∙ either_way (f k) (ih (omega arith))

-- a candidate above all others comes last
pub added-last : (s : List ℕ) (e : ℕ) → length s ≡ 81 → e < 729 → ((j : ℕ) → in_sets s j ≡ true → j < e) → candidates (with s e) ≡ candidates s ++ (e ∷ [])
unfolding candidates
added-last s e size l below = select-last (in_sets s) (in_sets (with s e)) e same here above none 729 0 (omega arith) (omega arith)
  where
    none : (j : ℕ) → e ≤ j → in_sets s j ≡ false
    none j m = go (in_sets s j) refl
      where
        go : (t : Bool) → in_sets s j ≡ t → in_sets s j ≡ false
        go true t = absurd (omega (arith, below j t))
        go false t = t

    other : (j : ℕ) → (j ≡ e → ⊥) → in_sets (with s e) j ≡ in_sets s j
    other j n = in-with s e size l j ∙ ap (λ (b : Bool). in_sets s j || b) (ne_eqb j e n) ∙ or-false (in_sets s j)

    same : (j : ℕ) → j < e → in_sets (with s e) j ≡ in_sets s j
    same j m = other j (λ q. absurd (omega arith))

    here : in_sets (with s e) e ≡ true
    here = in-with s e size l e ∙ ap (λ (b : Bool). in_sets s e || b) (eq-eqb e e refl) ∙ or-true (in_sets s e)

    above : (j : ℕ) → e < j → in_sets (with s e) j ≡ false
    above j m = other j (λ q. absurd (omega arith)) ∙ none j (omega arith)

-- ---- no candidate

pub at_none : (c : ℕ) → at no_sets c ≡ 0
at_none c = go (dec_lt c 81)
  where
    go : Dec (c < 81) → at no_sets c ≡ 0
    go (yes h) = get_or-replicate 81 c 0 0 h
    go (no h) = get_or-eq_default no_sets 0 {n = c} (omega (arith, length-replicate {A = ℕ} 81 0))

pub in-none : (k : ℕ) → in_sets no_sets k ≡ false
in-none k = ap (λ (x : ℕ). has x (k % 9)) (at_none (k / 9)) ∙ has-none (k % 9)

pub candidates-none : candidates no_sets ≡ []
unfolding candidates
candidates-none = select-none (in_sets no_sets) (up_to 729) (λ j h. in-none j)

-- ---- the list determines the sets

module _ (s : List ℕ) (c d : ℕ) (l : d < 9) where
  pub in_cell : in_sets s (9 * c + d) ≡ has (at s c) d
  in_cell =
      let q : (9 * c + d) / 9 ≡ c = omega arith in
      let r : (9 * c + d) % 9 ≡ d = omega arith in
      ap (λ (x : ℕ). has (at s x) ((9 * c + d) % 9)) q ∙ ap (has (at s c)) r

held-over : (s t : List ℕ) → ((c : ℕ) → at s c < 512) → candidates s ≡ candidates t → (c d : ℕ) → c < 81 → Held (at s c) d → Held (at t c) d
unfolding candidates
held-over s t small e c d h u =
    let l : d < 9 = held_below (at s c) 9 d (small c) u in
    sym (in_cell t c d l)
    ∙ (mem-select (in_sets t) (up_to 729) (9 * c + d)
    (subst (λ (ks : List ℕ). Memᴰ (9 * c + d) ks) e (select-mem (in_sets s) (up_to 729) (9 * c + d) (up_to-in 729 (9 * c + d) (omega arith)) (in_cell s c d l ∙ u)))).1

pub sets_same : (s t : List ℕ) → length s ≡ 81 → length t ≡ 81 → ((c : ℕ) → at s c < 512) → ((c : ℕ) → at t c < 512) → candidates s ≡ candidates t → s ≡ t
sets_same s t ls lt ps pt e =
    ext_get_or 0 s t (ls ∙ sym lt)
    (λ c h. held-ext (at s c) (at t c) (λ d. (held-over s t ps e c d (omega arith), held-over t s pt (sym e) c d (omega arith))))
