-- Loops whose turns see and change one digit at a time: what becomes of a digit hangs on that digit alone, whatever the order of the digits. Assumes nothing.
use mathlib.Core.Path.{◌≡◌, refl, sym, ◌∙◌, subst}
use mathlib.Core.Logic.{◌≢◌, ◌↔◌}
use mathlib.Core.Bool.{Bool, true, false, cond}
use mathlib.Core.List.{List, [], ◌∷◌, Memᴰ}
use Prim.Native.Nat.{ℕ, zero, suc, ◌+◌, ◌≤◌, ◌<◌}
use native.Mathlib.Decide.{ℕ_discrete}
use native.Mathlib.Omega.{arith}
use Rattle.candidates.specs.Masks.{has, single}
use Rattle.candidates.proofs.Held.{Held, held-power}
use Rattle.candidates.proofs.Tests.{bool_iff}
use Rattle.steps.specs.Boards.{at}
use Rattle.steps.specs.Loops.{each, range, up_to}
use Rattle.steps.specs.Published.{Candidate}
use Rattle.steps.specs.Steps.{lose_all}
use Rattle.steps.proofs.Losses.{Lost, lost-digits, held-unless}
use Rattle.steps.proofs.Loops.{each_keeps}
use Rattle.symmetries.specs.Changes.{Moves, OneToOne}

-- digit d of m is digit e of n
pub record Same (d e : ℕ) (m n : List ℕ) : Type 0 where
  pub held : (c : ℕ) → has (at m c) d ≡ has (at n c) e

pub same_self : (d : ℕ) (m : List ℕ) → Same d d m m
same_self d m = record { held = λ c. refl }

pub same-trans : {a b d : ℕ} {m n o : List ℕ} → Same a b m n → Same b d n o → Same a d m o
same-trans s t = record { held = λ c. s.held c ∙ t.held c }

pub same-sym : {d e : ℕ} {m n : List ℕ} → Same d e m n → Same e d n m
same-sym s = record { held = λ c. sym (s.held c) }

-- n is m relabelled
abbrev pub Relabelled : Moves → List ℕ → List ℕ → Type 0
Relabelled f m n = (d : ℕ) → d < 9 → Same d (f.to d) m n

-- ---- cells that lose a digit

-- a cell that is not spared loses d
abbrev pub unless_spared : (ℕ → Bool) → ℕ → ℕ → ℕ
unless_spared spared d e = cond (spared e) 0 (single d)

pub others-stay : (free : ℕ → Bool) (cs : List ℕ) (spared : ℕ → Bool) (d e : ℕ) (m : List ℕ) → e ≢ d → Same e e (lose_all free cs (unless_spared spared d) m) m
others-stay free cs spared d e m n = record { held = λ c. at-cell c (lost-digits free (unless_spared spared d) cs m c e) }
  where
    at-cell : (c : ℕ) → Candidate (lose_all free cs (unless_spared spared d) m) c e ↔ (Candidate m c e × ¬ (Lost free (unless_spared spared d) cs c e)) → has (at (lose_all free cs (unless_spared spared d) m) c) e ≡ has (at m c) e
    at-cell c w =
        bool_iff (has (at (lose_all free cs (unless_spared spared d) m) c) e) (has (at m c) e) (λ t. (w.0 t).0)
        (λ t. w.1 (t, λ l. n ((held-power d e).0 ((held-unless (spared c) (single d) e).0 l.digit).1)))

-- two boards with the same open cells: the digit goes in the same cells
pub same-lost : (f h : ℕ → Bool) → ((c : ℕ) → f c ≡ h c) → (cs : List ℕ) (spared : ℕ → Bool) {d e : ℕ} {m n : List ℕ} → Same d e m n
    → Same d e (lose_all f cs (unless_spared spared d) m) (lose_all h cs (unless_spared spared e) n)
same-lost f h free cs spared {d} {e} {m} {n} s =
    record {
      held = λ c.
          let v = lost-digits f (unless_spared spared d) cs m c d in
          let w = lost-digits h (unless_spared spared e) cs n c e in
          bool_iff (has (at (lose_all f cs (unless_spared spared d) m) c) d) (has (at (lose_all h cs (unless_spared spared e) n) c) e)
          (λ t. w.1 (sym (s.held c) ∙ (v.0 t).0, λ l. (v.0 t).1 (record { listed = l.listed; free = free c ∙ l.free; digit = other c e d l.digit })))
          (λ t. v.1 (s.held c ∙ (w.0 t).0, λ l. (w.0 t).1 (record { listed = l.listed; free = sym (free c) ∙ l.free; digit = other c d e l.digit })));
    }
  where
    other : (c a b : ℕ) → Held (unless_spared spared a c) a → Held (unless_spared spared b c) b
    other c a b k = (held-unless (spared c) (single b) b).1 (((held-unless (spared c) (single a) a).0 k).0, (held-power b b).1 refl)

-- a test may keep the masks
pub when-keeps : (t : Bool) {e : ℕ} {m n : List ℕ} → Same e e n m → Same e e (cond t n m) m
when-keeps true s = s
when-keeps false {e} {m} s = same_self e m

pub when-same : (t : Bool) {d e : ℕ} {m n o p : List ℕ} → Same d e o p → Same d e m n → Same d e (cond t o m) (cond t p n)
when-same true s q = s
when-same false s q = q

-- ---- loops on two boards

pub each_two : {A : Type 0} (f h : A → List ℕ → List ℕ) (R : List ℕ → List ℕ → Type 0) (xs : List A) → ((x : A) → Memᴰ x xs → (m n : List ℕ) → R m n → R (f x m) (h x n))
    → (m n : List ℕ) → R m n → R (each f xs m) (each h xs n)
unfolding each
each_two f h R [] k m n r = r
each_two f h R (x ∷ xs) k m n r = each_two f h R xs (λ y o. k y (Memᴰ.tail o)) (f x m) (h x n) (k x (Memᴰ.head refl) m n r)

-- a loop each of whose turns keeps a digit
pub each_same : {A : Type 0} (f : A → List ℕ → List ℕ) (e : ℕ) (xs : List A) → ((x : A) (m : List ℕ) → Same e e (f x m) m) → (m : List ℕ) → Same e e (each f xs m) m
each_same f e xs k m = each_keeps f (λ n. Same e e n m) xs (λ x l n p. same-trans (k x n) p) m (same_self e m)

-- ---- turns that see and change one digit

-- the turn of digit d leaves the others
abbrev pub Keeps : (ℕ → List ℕ → List ℕ) → Type 0
Keeps f = (d e : ℕ) (m : List ℕ) → e ≢ d → Same e e (f d m) m

-- f on one board and h on the other, each digit in its turn
pub record OneDigit (f h : ℕ → List ℕ → List ℕ) : Type 0 where
  pub keeps₁ : Keeps f
  pub keeps₂ : Keeps h
  pub turn : {d e : ℕ} {m n : List ℕ} → Same d e m n → Same d e (f d m) (h e n)

-- the masks before the turn of digit e, of which the loop makes what the turn makes of it
record Own (f : ℕ → List ℕ → List ℕ) (e : ℕ) (m n : List ℕ) : Type 0 where
  before : List ℕ
  as-was : Same e e before m
  after : Same e e n (f e before)

module _ (f : ℕ → List ℕ → List ℕ) (keeps : Keeps f) where
  later : (n k e : ℕ) (m : List ℕ) → e < k → Same e e (each f (range n k) m) m
  unfolding each
  later zero k e m h = same_self e m
  later (suc n) k e m h = same-trans (later n (suc k) e (f k m) (omega arith)) (keeps k e m (λ q. omega arith))

  own : (n k e : ℕ) (m : List ℕ) → k ≤ e → e < k + n → Own f e m (each f (range n k) m)
  unfolding each
  own zero k e m h l = absurd (omega arith)
  own (suc n) k e m h l = go (ℕ_discrete e k) (λ j. own n (suc k) e (f k m) j (omega arith))
    where
      go : Dec (e ≡ k) → (suc k ≤ e → Own f e (f k m) (each f (range n (suc k)) (f k m))) → Own f e m (each f (range n (suc k)) (f k m))
      go (yes q) r =
          record {
            before = m;
            as-was = same_self e m;
            after = subst (λ (x : ℕ). Same e e (each f (range n (suc k)) (f k m)) (f x m)) (sym q) (later n (suc k) e (f k m) (omega arith));
          }
      go (no q) r =
          let w = r (omega arith) in
          record { before = w.before; as-was = same-trans w.as-was (keeps k e m q); after = w.after }

pub digits-turn : {f : Moves} → OneToOne 9 f → {p q : ℕ → List ℕ → List ℕ} → OneDigit p q → (m n : List ℕ) → Relabelled f m n → Relabelled f (each p (up_to 9) m) (each q (up_to 9) n)
digits-turn {f} o {p} {q} l m n r d hd =
    let v = own p l.keeps₁ 9 0 d m (omega arith) (omega arith) in
    let w = own q l.keeps₂ 9 0 (f.to d) n (omega arith) (omega (arith, o.to d hd)) in
    same-trans v.after (same-trans (l.turn (same-trans v.as-was (same-trans (r d hd) (same-sym w.as-was)))) (same-sym w.after))
