-- What holds of every step: it shrinks, it is monotone, and clue cells keep their masks. Assumes nothing.
use mathlib.Core.Path.{◌≡◌, refl, sym, ap, ◌∙◌, subst}
use mathlib.Core.Logic.{◌≢◌}
use mathlib.Core.Bool.{Bool, true, false}
use mathlib.Core.List.{List, [], ◌∷◌, Memᴰ}
use Prim.Native.Nat.{ℕ, ◌≤◌, ◌<◌}
use native.Mathlib.Decide.{ℕ_discrete, dec_lt}
use native.Mathlib.Omega.{arith}
use borrow.Author.Tests.{eqb-true, eq-eqb}
use lib.Bits.{bit_and}
use lib.ListN.{length, set, length-set, get_or-eq_default}
use lib.Seq.{get_or-set_same, get_or-set_other, set_out, set-get_or}
use Rattle.candidates.specs.Masks.{Sub, minus}
use Rattle.candidates.proofs.Order.{sub_refl, minus-sub, minus-mono, minus-none, apart-sub}
use Rattle.candidates.proofs.Tests.{by-test}
use Rattle.steps.specs.Boards.{at, Under}
use Rattle.steps.specs.Loops.{each}
use Rattle.steps.specs.Steps.{Step, lacks, applies, lose_at, lose_all, step_taken}
use Rattle.steps.proofs.Loops.{each-idle, each_keeps, all-member, member-all}
use Rattle.steps.proofs.Masks.{under-refl, under-trans}

-- ---- one mask is set

set_here : (m : List ℕ) (c k : ℕ) → at (set m c (minus (at m c) k)) c ≡ minus (at m c) k
set_here m c k = go (dec_lt c (length m))
  where
    go : Dec (c < length m) → at (set m c (minus (at m c) k)) c ≡ minus (at m c) k
    go (yes h) = get_or-set_same m c (minus (at m c) k) 0 h
    go (no h) =
        let out : length m ≤ c = omega arith in
        let none : at m c ≡ 0 = get_or-eq_default m 0 out in
        ap (λ (l : List ℕ). at l c) (set_out m c (minus (at m c) k) out) ∙ omega arith

module _ (free : ℕ → Bool) where
  -- the cell itself, and any other
  pub lose-here : (c k : ℕ) (m : List ℕ) → free c ≡ true → at (lose_at free c k m) c ≡ minus (at m c) k
  lose-here c k m f = rw f (set_here m c k)

  pub lose-shut : (c k : ℕ) (m : List ℕ) → free c ≡ false → lose_at free c k m ≡ m
  lose-shut c k m f = rw f

  pub lose-other : (c k : ℕ) (m : List ℕ) (e : ℕ) → e ≢ c → at (lose_at free c k m) e ≡ at m e
  lose-other c k m e h =
      by-test (λ (n : List ℕ). at n e ≡ at m e) (free c) (set m c (minus (at m c) k)) m (λ t. get_or-set_other m c e (minus (at m c) k) 0 h) (λ t. refl)

  -- a cell that is not open keeps its mask
  pub shut-keeps : (c k : ℕ) (m : List ℕ) (e : ℕ) → free e ≡ false → at (lose_at free c k m) e ≡ at m e
  shut-keeps c k m e f = go (ℕ_discrete e c)
    where
      go : Dec (e ≡ c) → at (lose_at free c k m) e ≡ at m e
      go (yes q) = ap (λ (n : List ℕ). at n e) (lose-shut c k m (subst (λ (x : ℕ). free x ≡ false) q f))
      go (no q) = lose-other c k m e q

  pub lose-length : (c k : ℕ) (m : List ℕ) → length (lose_at free c k m) ≡ length m
  lose-length c k m =
      by-test (λ (n : List ℕ). length n ≡ length m) (free c) (set m c (minus (at m c) k)) m (λ t. length-set m c (minus (at m c) k)) (λ t. refl)

  -- at each cell the mask stays or loses the digits
  lose-cases : (P : ℕ → Type 0) (c k : ℕ) (m : List ℕ) (e : ℕ) → (e ≡ c → P (minus (at m e) k)) → P (at m e) → P (at (lose_at free c k m) e)
  lose-cases P c k m e hit miss = go (ℕ_discrete e c) (free c) refl
    where
      go : Dec (e ≡ c) → (t : Bool) → free c ≡ t → P (at (lose_at free c k m) e)
      go (yes q) true t = subst P (sym (ap (at (lose_at free c k m)) q ∙ lose-here c k m t ∙ ap (λ (x : ℕ). minus (at m x) k) (sym q))) (hit q)
      go (yes q) false t = subst P (sym (ap (λ (n : List ℕ). at n e) (lose-shut c k m t))) miss
      go (no q) t r = subst P (sym (lose-other c k m e q)) miss

  pub lose-under : (c k : ℕ) (m : List ℕ) → Under (lose_at free c k m) m
  lose-under c k m = record { at = λ e. lose-cases (λ x. Sub x (at m e)) c k m e (λ q. minus-sub (at m e) k) (sub_refl (at m e)) }

  pub lose-mono : (c k : ℕ) {m n : List ℕ} → Under m n → Under (lose_at free c k m) (lose_at free c k n)
  lose-mono c k {m} {n} p = record { at = λ e. go e (ℕ_discrete e c) (free c) refl }
    where
      go : (e : ℕ) → Dec (e ≡ c) → (t : Bool) → free c ≡ t → Sub (at (lose_at free c k m) e) (at (lose_at free c k n) e)
      go e (yes q) true t = rw q (rw (lose-here c k m t, lose-here c k n t) (minus-mono k (p.at c)))
      go e (yes q) false t = rw (lose-shut c k m t, lose-shut c k n t) (p.at e)
      go e (no q) t r = rw (lose-other c k m e q, lose-other c k n e q) (p.at e)

  -- nothing to lose
  pub lose-none : (c k : ℕ) (m : List ℕ) → (free c ≡ true → bit_and (at m c) k ≡ 0) → lose_at free c k m ≡ m
  lose-none c k m h =
      by-test (λ (n : List ℕ). n ≡ m) (free c) (set m c (minus (at m c) k)) m
      (λ t. ap (set m c) (minus-none (at m c) k (h t)) ∙ set-get_or m c 0) (λ t. refl)

  -- ---- many cells

  pub all_under : (cs : List ℕ) (k : ℕ → ℕ) (m : List ℕ) → Under (lose_all free cs k m) m
  all_under cs k m = each_keeps (λ c. lose_at free c (k c)) (λ n. Under n m) cs (λ c l n p. under-trans (lose-under c (k c) n) p) m (under-refl m)

  pub all-mono : (cs : List ℕ) (k : ℕ → ℕ) {m n : List ℕ} → Under m n → Under (lose_all free cs k m) (lose_all free cs k n)
  unfolding each
  all-mono [] k p = p
  all-mono (c ∷ cs) k p = all-mono cs k (lose-mono c (k c) p)

  pub all-length : (cs : List ℕ) (k : ℕ → ℕ) (m : List ℕ) → length (lose_all free cs k m) ≡ length m
  all-length cs k m = each_keeps (λ c. lose_at free c (k c)) (λ n. length n ≡ length m) cs (λ c l n p. lose-length c (k c) n ∙ p) m refl

  pub all-shut : (cs : List ℕ) (k : ℕ → ℕ) (m : List ℕ) (e : ℕ) → free e ≡ false → at (lose_all free cs k m) e ≡ at m e
  all-shut cs k m e f = each_keeps (λ c. lose_at free c (k c)) (λ n. at n e ≡ at m e) cs (λ c l n p. shut-keeps c (k c) n e f ∙ p) m refl

  pub all_none : (cs : List ℕ) (k : ℕ → ℕ) (m : List ℕ) → ((c : ℕ) → Memᴰ c cs → free c ≡ true → bit_and (at m c) (k c) ≡ 0) → lose_all free cs k m ≡ m
  all_none cs k m h = each-idle (λ c. lose_at free c (k c)) cs m (λ c l. lose-none c (k c) m (h c l))

  -- ---- a step

  -- a condition that holds goes on holding as masks shrink
  pub applies-down : (s : Step) {m n : List ℕ} → Under m n → applies s n ≡ true → applies s m ≡ true
  applies-down s {m} {n} p t =
      member-all (λ c. lacks m c (s.bars c)) s.reads
      (λ c k. eq-eqb (bit_and (at m c) (s.bars c)) 0
      (apart-sub (s.bars c) (p.at c) (eqb-true (bit_and (at n c) (s.bars c)) 0 (all-member (λ c. lacks n c (s.bars c)) s.reads t c k))))

  pub take-under : (s : Step) (m : List ℕ) → Under (step_taken free s m) m
  unfolding step_taken
  take-under s m =
      by-test (λ (n : List ℕ). Under n m) (applies s m) (lose_all free s.hits s.loses m) m (λ t. all_under s.hits s.loses m) (λ t. under-refl m)

  pub take-length : (s : Step) (m : List ℕ) → length (step_taken free s m) ≡ length m
  unfolding step_taken
  take-length s m =
      by-test (λ (n : List ℕ). length n ≡ length m) (applies s m) (lose_all free s.hits s.loses m) m (λ t. all-length s.hits s.loses m) (λ t. refl)

  pub take-shut : (s : Step) (m : List ℕ) (e : ℕ) → free e ≡ false → at (step_taken free s m) e ≡ at m e
  unfolding step_taken
  take-shut s m e f =
      by-test (λ (n : List ℕ). at n e ≡ at m e) (applies s m) (lose_all free s.hits s.loses m) m (λ t. all-shut s.hits s.loses m e f) (λ t. refl)

  pub take-mono : (s : Step) {m n : List ℕ} → Under m n → Under (step_taken free s m) (step_taken free s n)
  unfolding step_taken
  take-mono s {m} {n} p = go (applies s n) refl
    where
      go : (t : Bool) → applies s n ≡ t → Under (step_taken free s m) (step_taken free s n)
      go true t = rw (t, applies-down s p t) (all-mono s.hits s.loses p)
      go false t = rw t (under-trans (take-under s m) p)
