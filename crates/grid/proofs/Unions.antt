-- What a loop of unions gathers. Assumes nothing.
use mathlib.Core.Path.{◌≡◌, refl, subst}
use mathlib.Core.Logic.{◌⊎◌, ◌↔◌, inl, inr, ⊎_elim}
use mathlib.Core.List.Memᴰ
use mathlib.Core.List.{List, [], ◌∷◌, Memᴰ}
use Prim.Native.Nat.{ℕ}
use Rattle.candidates.specs.Masks.{union}
use Rattle.candidates.proofs.Held.{Held, held-union}
use Rattle.grid.specs.Lists.{each}

pub held-gathered : {A : Type 0} (f : A → ℕ) (xs : List A) (k d : ℕ) → Held (each (λ e k. union k (f e)) xs k) d ↔ (Held k d ⊎ ((e : A) × Memᴰ e xs × Held (f e) d))
unfolding each
held-gathered f [] k d = (λ t. inl t, ⊎_elim (λ t. t) (λ w. absurd (Memᴰ.not-nil w.1)))
held-gathered {A} f (x ∷ xs) k d = go (held-gathered f xs (union k (f x)) d)
  where
    Some : List A → Type 0
    Some l = (e : A) × Memᴰ e l × Held (f e) d

    go : Held (each (λ e k. union k (f e)) xs (union k (f x))) d ↔ (Held (union k (f x)) d ⊎ Some xs)
        → Held (each (λ e k. union k (f e)) xs (union k (f x))) d ↔ (Held k d ⊎ Some (x ∷ xs))
    go ih = (
      λ t. ⊎_elim (λ s. ⊎_elim (λ a. inl a) (λ b. inr (x, Memᴰ.head refl, b)) ((held-union k (f x) d).0 s)) (λ w. inr (w.0, Memᴰ.tail w.1, w.2)) (ih.0 t),
      ⊎_elim (λ a. ih.1 (inl ((held-union k (f x) d).1 (inl a)))) back,
    )
      where
        back : Some (x ∷ xs) → Held (each (λ e k. union k (f e)) xs (union k (f x))) d
        back w =
            ⊎_elim (λ (q : w.0 ≡ x). ih.1 (inl ((held-union k (f x) d).1 (inr (subst (λ (e : A). Held (f e) d) q w.2)))))
            (λ r. ih.1 (inr (w.0, r, w.2))) (Memᴰ.cases_cons w.1)
