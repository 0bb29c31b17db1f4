-- Published passes, over any state: what their turns keep, and loops that are such a pass. Assumes nothing.
use mathlib.Core.Path.{◌≡◌, refl, sym, ◌∙◌, subst}
use mathlib.Core.Logic.{◌↔◌}
use mathlib.Core.Bool.{Bool, true, false, true≢false}
use mathlib.Core.List.{List, [], ◌∷◌, Memᴰ}
use Rattle.steps.specs.Loops.{each}
use Rattle.steps.specs.Published.{Turn, Turns, done, next}

turns-none : {A S : Type 0} {turn : A → S → S → Type 0} {s t : S} → Turns turn [] s t → t ≡ s
turns-none done = refl

turns-first : {A S : Type 0} {turn : A → S → S → Type 0} {x : A} {xs : List A} {s o : S} → Turns turn (x ∷ xs) s o → (t : S) × turn x s t × Turns turn xs t o
turns-first (next {t = t} p r) = (t, p, r)

-- what each turn keeps, the pass keeps
pub turns-keep : {A S : Type 0} {turn : A → S → S → Type 0} (P : S → Type 0) (xs : List A) → ((x : A) → Memᴰ x xs → (s t : S) → turn x s t → P s → P t) → (s t : S) → Turns turn xs s t → P s → P t
turns-keep P [] h s t r p = subst P (sym (turns-none r)) p
turns-keep P (x ∷ xs) h s t r p =
    let w = turns-first r in
    turns-keep P xs (λ y k. h y (Memᴰ.tail k)) w.0 t w.2 (h x (Memᴰ.head refl) s w.0 w.1 p)

-- a loop whose every turn is as described, and keeps what its turns need
pub each-turns : {A S : Type 0} {f : A → S → S} {turn : A → S → S → Type 0} (P : S → Type 0) (xs : List A)
    → ((x : A) → Memᴰ x xs → (s : S) → P s → ((t : S) → turn x s t ↔ (t ≡ f x s)) × P (f x s))
    → (s : S) → P s → ((t : S) → Turns turn xs s t ↔ (t ≡ each f xs s)) × P (each f xs s)
unfolding each
each-turns {S = S} {turn = turn} P [] h s p = (λ t. (turns-none, λ e. subst (λ (o : S). Turns turn [] s o) (sym e) done), p)
each-turns {A} {S} {f} {turn} P (x ∷ xs) h s p = go (h x (Memᴰ.head refl) s p) (λ q. each-turns P xs (λ y k. h y (Memᴰ.tail k)) (f x s) q)
  where
    go : ((t : S) → turn x s t ↔ (t ≡ f x s)) × P (f x s)
        → (P (f x s) → ((o : S) → Turns turn xs (f x s) o ↔ (o ≡ each f xs (f x s))) × P (each f xs (f x s)))
        → ((o : S) → Turns turn (x ∷ xs) s o ↔ (o ≡ each f xs (f x s))) × P (each f xs (f x s))
    go now later = (λ o. (λ t. down o (turns-first t), λ e. next ((now.0 (f x s)).1 refl) (((later now.1).0 o).1 e)), (later now.1).1)
      where
        down : (o : S) → (t : S) × turn x s t × Turns turn xs t o → o ≡ each f xs (f x s)
        down o w = ((later now.1).0 o).0 (subst (λ (t : S). Turns turn xs t o) ((now.0 w.0).0 w.1) w.2)

-- a turn by its test: k is what the turn makes of s, and a pattern makes one thing
pub turn_by : {A S : Type 0} {pattern : A → Type 0} {makes : A → S → Type 0} {s k : S} → ((a : A) (x y : S) → makes a x → makes a y → x ≡ y)
    → (t : Bool) → (t ≡ true) ↔ ((a : A) × pattern a) → ((a : A) → pattern a → makes a k) → (t ≡ false → k ≡ s) → (r : S) → Turn pattern makes s r ↔ (r ≡ k)
turn_by {A} {S} {pattern} {makes} {s} {k} one t test some none r = (λ w. there w t refl, λ e. subst (λ (o : S). Turn pattern makes s o) (sym e) here)
  where
    stays : ((a : A) → ¬ (pattern a)) → (b : Bool) → t ≡ b → k ≡ s
    stays no_such true e =
        let w = test.0 e in
        absurd (no_such w.0 w.1)
    stays no_such false e = none e

    here : Turn pattern makes s k
    here = record { some = some; none = λ no_such. stays no_such t refl }

    there : Turn pattern makes s r → (b : Bool) → t ≡ b → r ≡ k
    there w true e =
        let a = test.0 e in
        one a.0 r k (w.some a.0 a.1) (some a.0 a.1)
    there w false e = w.none (λ a p. true≢false (sym (test.1 (a, p)) ∙ e)) ∙ sym (none e)

-- what a turn that needs nothing needs
abbrev pub Any : {S : Type 0} → S → Type 0
Any s = Unit {0}
