-- What each cell holds after some cells have lost digits. Assumes nothing.
use mathlib.Core.Path.{◌≡◌, refl, sym, ap, ◌∙◌, subst}
use mathlib.Core.Logic.Iff
use mathlib.Core.Logic.{◌↔◌, ⊎_elim}
use mathlib.Core.Bool.{Bool, true, false, cond, true≢false}
use mathlib.Core.List.Memᴰ
use mathlib.Core.List.{List, [], ◌∷◌, Memᴰ}
use Prim.Native.Nat.{ℕ}
use native.Mathlib.Decide.{ℕ_discrete}
use lib.Seq.{ext_get_or}
use Rattle.candidates.specs.Masks.{minus}
use Rattle.steps.specs.Boards.{at}
use Rattle.steps.specs.Loops.{each}
use Rattle.steps.specs.Published.{Candidate, Without}
use Rattle.steps.specs.Steps.{Step, applies, lose_at, lose_all, step_taken}
use Rattle.candidates.proofs.Held.{Held, none-held, held-ext, held-minus}
use Rattle.steps.proofs.Steps.{lose-here, lose-shut, lose-other, all-length}

-- ---- a mask with exceptions

pub held-unless : (t : Bool) (k d : ℕ) → Held (cond t 0 k) d ↔ ((t ≡ false) × Held k d)
held-unless true k d = (λ h. absurd (none-held d h), λ w. absurd (true≢false w.0))
held-unless false k d = (λ h. (refl, h), λ w. w.1)

-- ---- a removal is determined by what it loses

pub without-same : {m n o : List ℕ} {lost : ℕ → ℕ → Type 0} → Without m lost n → Without m lost o → n ≡ o
without-same {m} {n} {o} p q =
    ext_get_or 0 n o (p.size ∙ sym q.size) (λ c h. held-ext (at n c) (at o c) (λ d. (λ t. (q.left c d).1 ((p.left c d).0 t), λ t. (p.left c d).1 ((q.left c d).0 t))))

-- the same loss in other words
pub without-again : {m n : List ℕ} {lost gone : ℕ → ℕ → Type 0} → ((e d : ℕ) → lost e d ↔ gone e d) → Without m gone n → Without m lost n
without-again same p =
    record {
      size = p.size;
      left = λ c d. Iff.trans (p.left c d) (λ w. (w.0, λ l. w.1 ((same c d).0 l)), λ w. (w.0, λ l. w.1 ((same c d).1 l)));
    }

-- ---- cells lose digits

module _ (is_free : ℕ → Bool) (k : ℕ → ℕ) where
  -- the cell is one of the list and open, and the digit one of its mask
  pub record Lost (cs : List ℕ) (e d : ℕ) : Type 0 where
    pub listed : Memᴰ e cs
    pub free : is_free e ≡ true
    pub digit : Held (k e) d

  abbrev Gone : ℕ → ℕ → ℕ → Type 0
  Gone c e d = (e ≡ c) × (is_free e ≡ true) × Held (k e) d

  here : (c : ℕ) (m : List ℕ) (e d : ℕ) → Candidate (lose_at is_free c (k c) m) e d ↔ (Candidate m e d × ¬ (Gone c e d))
  here c m e d = go (ℕ_discrete e c) (is_free c) refl
    where
      n : List ℕ
      n = lose_at is_free c (k c) m

      by_mask : {x : ℕ} → at n e ≡ x → Held x d ↔ (Candidate m e d × ¬ (Gone c e d)) → Candidate n e d ↔ (Candidate m e d × ¬ (Gone c e d))
      by_mask q w = subst (λ (x : ℕ). Held x d ↔ (Candidate m e d × ¬ (Gone c e d))) (sym q) w

      cut : e ≡ c → is_free e ≡ true → Held (minus (at m e) (k e)) d ↔ (Candidate m e d × ¬ (Gone c e d))
      cut p f =
          let w = held-minus (at m e) (k e) d in
          (λ t. ((w.0 t).0, λ l. (w.0 t).1 l.2), λ v. w.1 (v.0, λ h. v.1 (p, f, h)))

      kept : ¬ (Gone c e d) → Candidate m e d ↔ (Candidate m e d × ¬ (Gone c e d))
      kept none = (λ t. (t, none), λ w. w.0)

      go : Dec (e ≡ c) → (t : Bool) → is_free c ≡ t → Candidate n e d ↔ (Candidate m e d × ¬ (Gone c e d))
      go (yes p) true f =
          by_mask (ap (at n) p ∙ lose-here is_free c (k c) m f ∙ ap (λ (x : ℕ). minus (at m x) (k x)) (sym p)) (cut p (ap is_free p ∙ f))
      go (yes p) false f = by_mask (ap (λ (l : List ℕ). at l e) (lose-shut is_free c (k c) m f)) (kept (λ l. true≢false (sym l.1 ∙ ap is_free p ∙ f)))
      go (no p) t f = by_mask (lose-other is_free c (k c) m e p) (kept (λ l. p l.0))

  -- each cell of the list that is open loses the digits of its mask, and nothing else is lost
  pub lost-digits : (cs : List ℕ) (m : List ℕ) (e d : ℕ) → Candidate (lose_all is_free cs k m) e d ↔ (Candidate m e d × ¬ (Lost cs e d))
  unfolding each
  lost-digits [] m e d = (λ t. (t, λ l. Memᴰ.not-nil l.listed), λ p. p.0)
  lost-digits (c ∷ cs) m e d = go (lost-digits cs (lose_at is_free c (k c) m) e d) (here c m e d)
    where
      go : {X Y : Type 0} → X ↔ (Y × ¬ (Lost cs e d)) → Y ↔ (Candidate m e d × ¬ (Gone c e d)) → X ↔ (Candidate m e d × ¬ (Lost (c ∷ cs) e d))
      go {X} {Y} later now = (λ t. down (later.0 t), λ w. later.1 (now.1 (w.0, λ l. w.1 (first l)), λ l. w.1 (more l)))
        where
          first : Gone c e d → Lost (c ∷ cs) e d
          first l = record { listed = Memᴰ.head l.0; free = l.1; digit = l.2 }

          more : Lost cs e d → Lost (c ∷ cs) e d
          more l = record { listed = Memᴰ.tail l.listed; free = l.free; digit = l.digit }

          down : Y × ¬ (Lost cs e d) → Candidate m e d × ¬ (Lost (c ∷ cs) e d)
          down w =
              let p = now.0 w.0 in
              (p.0, λ l. ⊎_elim (λ q. p.1 (q, l.free, l.digit)) (λ r. w.1 (record { listed = r; free = l.free; digit = l.digit })) (Memᴰ.cases_cons l.listed))

  -- the same, said of any relation that names what is lost where a test holds
  pub lost-when : (t : Bool) (cs : List ℕ) (m : List ℕ) (lost : ℕ → ℕ → Type 0) → t ≡ true → ((e d : ℕ) → lost e d ↔ Lost cs e d) → Without m lost (cond t (lose_all is_free cs k m) m)
  lost-when t cs m lost on same = rw on (without-again same (record { size = all-length is_free cs k m; left = lost-digits cs m }))

-- and of a step that applies
pub step-loses : (is_free : ℕ → Bool) (s : Step) (m : List ℕ) {lost : ℕ → ℕ → Type 0} → applies s m ≡ true → ((e d : ℕ) → lost e d ↔ Lost is_free s.loses s.hits e d) → Without m lost (step_taken is_free s m)
unfolding step_taken
step-loses is_free s m {lost} on same = lost-when is_free s.loses (applies s m) s.hits m lost on same
