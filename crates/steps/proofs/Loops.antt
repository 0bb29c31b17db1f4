-- Laws of the loops: what each member of a list does, and what a list made by loops holds. Assumes nothing.
use mathlib.Core.Path.{◌≡◌, refl, sym, ap, ◌∙◌, subst}
use mathlib.Core.Bool.{Bool, true, false, cond, ◌&&◌, true≢false}
use mathlib.Core.Logic.{inl, inr, ⊎_elim}
use mathlib.Core.List.Memᴰ
use mathlib.Core.List.{List, [], ◌∷◌, ◌++◌, append-nil, append_assoc, Memᴰ}
use mathlib.Core.Option.{Option, none, some, some-ne-none}
use Prim.Native.Nat.{ℕ, ◌+◌, ◌*◌, ◌-◌, ◌<◌, zero-le}
use native.Mathlib.Omega.{arith}
use Rattle.candidates.proofs.Tests.{by-test, either}
pub use Rattle.grid.proofs.Lists.{all-member, member-all}
use Rattle.grid.proofs.Lists.{range-mem, mem-range}
use Rattle.steps.specs.Loops.{each, for, select, all, any, first, up_to, above}

module _ {A S : Type 0} (f : A → S → S) where
  pub each_append : (xs ys : List A) (s : S) → each f (xs ++ ys) s ≡ each f ys (each f xs s)
  unfolding each
  each_append [] ys s = refl
  each_append (x ∷ xs) ys s = each_append xs ys (f x s)

  pub each-idle : (xs : List A) (s : S) → ((x : A) → Memᴰ x xs → f x s ≡ s) → each f xs s ≡ s
  unfolding each
  each-idle [] s h = refl
  each-idle (x ∷ xs) s h = ap (each f xs) (h x (Memᴰ.head refl)) ∙ each-idle xs s (λ y k. h y (Memᴰ.tail k))

  -- what each member keeps, the whole loop keeps
  pub each_keeps : (P : S → Type 0) (xs : List A) → ((x : A) → Memᴰ x xs → (s : S) → P s → P (f x s)) → (s : S) → P s → P (each f xs s)
  unfolding each
  each_keeps P [] h s p = p
  each_keeps P (x ∷ xs) h s p = each_keeps P xs (λ y k. h y (Memᴰ.tail k)) (f x s) (h x (Memᴰ.head refl) s p)

module _ {A B : Type 0} where
  pub each-for : {S : Type 0} (f : B → S → S) (xs : List A) (h : A → List B) (s : S) → each f (for xs h) s ≡ each (λ x. each f (h x)) xs s
  unfolding each for
  each-for f [] h s = refl
  each-for f (x ∷ xs) h s = each_append f (h x) (for xs h) s ∙ each-for f xs h (each f (h x) s)

  -- a loop that adds what its members give, one after the other
  pub each-adds : (f : A → List B) (xs : List A) (ys : List B) → each (λ x zs. zs ++ f x) xs ys ≡ ys ++ for xs f
  unfolding each for
  each-adds f [] ys = sym (append-nil ys)
  each-adds f (x ∷ xs) ys = each-adds f xs (ys ++ f x) ∙ append_assoc ys (f x) (for xs f)

  -- a loop over two lists, one after the other
  pub for-append : (xs ys : List A) (f : A → List B) → for (xs ++ ys) f ≡ for xs f ++ for ys f
  unfolding for
  for-append [] ys f = refl
  for-append (x ∷ xs) ys f = ap (λ (l : List B). f x ++ l) (for-append xs ys f) ∙ sym (append_assoc (f x) (for xs f) (for ys f))

  -- a member of a list made by a loop comes from one of the loop's members
  pub in-for : (xs : List A) (h : A → List B) (y : B) → Memᴰ y (for xs h) → (x : A) × Memᴰ x xs × Memᴰ y (h x)
  unfolding for
  in-for [] h y k = absurd (Memᴰ.not-nil k)
  in-for (x ∷ xs) h y k = ⊎_elim (λ l. (x, (Memᴰ.head refl), l)) (λ r. more (in-for xs h y r)) (Memᴰ.append_cases (h x) k)
    where
      more : (z : A) × Memᴰ z xs × Memᴰ y (h z) → (z : A) × Memᴰ z (x ∷ xs) × Memᴰ y (h z)
      more w = (w.0, Memᴰ.tail w.1, w.2)

  -- what holds of all that the loop's members give holds of all members
  pub for-all : (P : B → Type 0) (xs : List A) (h : A → List B) → ((x : A) → Memᴰ x xs → (y : B) → Memᴰ y (h x) → P y) → (y : B) → Memᴰ y (for xs h) → P y
  for-all P xs h f y k = let w = in-for xs h y k in f w.0 w.1 y w.2

  pub for-in : (xs : List A) (h : A → List B) (x : A) (y : B) → Memᴰ x xs → Memᴰ y (h x) → Memᴰ y (for xs h)
  unfolding for
  for-in [] h x y k l = absurd (Memᴰ.not-nil k)
  for-in (z ∷ zs) h x y k l =
      ⊎_elim (λ e. Memᴰ.append_left (for zs h) (subst (λ (w : A). Memᴰ y (h w)) e l)) (λ r. Memᴰ.append_right (h z) (for-in zs h x y r l))
      (Memᴰ.cases_cons k)

-- a loop whose members give the same
pub for-same : {A B : Type 0} (f g : A → List B) (xs : List A) → ((x : A) → Memᴰ x xs → f x ≡ g x) → for xs f ≡ for xs g
unfolding for
for-same f g [] h = refl
for-same f g (x ∷ xs) h =
    let p = h x (Memᴰ.head refl) in
    let r = for-same f g xs (λ y k. h y (Memᴰ.tail k)) in
    cc

-- a loop over what a loop makes
for-for : {A B C : Type 0} (xs : List A) (h : A → List B) (f : B → List C) → for (for xs h) f ≡ for xs (λ x. for (h x) f)
unfolding for
for-for [] h f = refl
for-for {C = C} (x ∷ xs) h f = for-append (h x) (for xs h) f ∙ ap (λ (l : List C). for (h x) f ++ l) (for-for xs h f)

for-one : {A B C : Type 0} (xs : List A) (h : A → B) (f : B → List C) → for (for xs λ x. h x ∷ []) f ≡ for xs (λ x. f (h x))
unfolding for
for-one [] h f = refl
for-one {C = C} (x ∷ xs) h f = ap (λ (l : List C). f (h x) ++ l) (for-one xs h f)

-- 9 n turns are n times nine
pub nines : {B : Type 0} (f : ℕ → List B) (n : ℕ) → up_to (9 * n) ≡ for (up_to n) (λ i. for (up_to 9) λ k. (9 * i + k) ∷ []) → for (up_to (9 * n)) f ≡ for (up_to n) (λ i. for (up_to 9) λ k. f (9 * i + k))
nines f n e =
    ap (λ (is : List ℕ). for is f) e ∙ for-for (up_to n) (λ i. for (up_to 9) λ k. (9 * i + k) ∷ []) f
    ∙ for-same (λ i. for (for (up_to 9) λ k. (9 * i + k) ∷ []) f) (λ i. for (up_to 9) λ k. f (9 * i + k)) (up_to n) (λ i _. for-one (up_to 9) (λ k. 9 * i + k) f)

-- members of the two loops over numbers
pub in-up_to : (n i : ℕ) → Memᴰ i (up_to n) → i < n
in-up_to n i k = omega (arith, mem-range n 0 i k)

pub in-above : (j n i : ℕ) → Memᴰ i (above j n) → (j < i) × (i < n)
in-above j n i k = omega (arith, mem-range (n - (j + 1)) (j + 1) i k)

pub up_to-in : (n i : ℕ) → i < n → Memᴰ i (up_to n)
up_to-in n i h = range-mem n 0 i zero-le (omega arith)

pub above_in : (j n i : ℕ) → j < i → i < n → Memᴰ i (above j n)
above_in j n i h k = range-mem (n - (j + 1)) (j + 1) i (omega arith) (omega arith)

module _ {B : Type 0} (n : ℕ) where
  pub for-up_to : (f : ℕ → List B) (i : ℕ) (y : B) → i < n → Memᴰ y (f i) → Memᴰ y (for (up_to n) f)
  for-up_to f i y h k = for-in (up_to n) f i y (up_to-in n i h) k

  -- two numbers, the first below the second
  pub for-two : (f : ℕ → ℕ → List B) (i j : ℕ) (y : B) → i < j → j < n → Memᴰ y (f i j) → Memᴰ y (for (up_to n) (λ i. for (above i n) (f i)))
  for-two f i j y h l k = for-up_to (λ i. for (above i n) (f i)) i y (omega arith) (for-in (above i n) (f i) j y (above_in i n j h l) k)

module _ (f : ℕ → Bool) where
  pub first-none : (xs : List ℕ) → first f xs ≡ none → (x : ℕ) → Memᴰ x xs → f x ≡ false
  unfolding first
  first-none [] t x k = absurd (Memᴰ.not-nil k)
  first-none (y ∷ ys) t x k = go (f y) refl t (λ r. first-none ys r x)
    where
      go : (b : Bool) → f y ≡ b → cond (f y) (some y) (first f ys) ≡ none → (first f ys ≡ none → Memᴰ x ys → f x ≡ false) → f x ≡ false
      go true e t ih = absurd (some-ne-none y (rw e at t))
      go false e t ih = ⊎_elim (λ (q : x ≡ y). rw q e) (λ r. ih (rw e at t) r) (Memᴰ.cases_cons k)

  pub none_first : (xs : List ℕ) → ((x : ℕ) → Memᴰ x xs → f x ≡ false) → first f xs ≡ none
  unfolding first
  none_first [] h = refl
  none_first (x ∷ xs) h = rw (h x (Memᴰ.head refl)) (none_first xs (λ y k. h y (Memᴰ.tail k)))

  -- what a search finds is one of the list
  pub first_by : (P : Option ℕ → Type 0) (xs : List ℕ) → P none → ((x : ℕ) → Memᴰ x xs → P (some x)) → P (first f xs)
  unfolding first
  first_by P [] p h = p
  first_by P (x ∷ xs) p h = by-test P (f x) (some x) (first f xs) (λ t. h x (Memᴰ.head refl)) (λ t. first_by P xs p (λ y k. h y (Memᴰ.tail k)))

  pub all_both : (xs ys : List ℕ) → all f (xs ++ ys) ≡ (all f xs && all f ys)
  all_both [] ys = refl
  all_both (x ∷ xs) ys = ap (λ (b : Bool). f x && b) (all_both xs ys) ∙ assoc (f x)
    where
      assoc : (a : Bool) → (a && (all f xs && all f ys)) ≡ ((a && all f xs) && all f ys)
      assoc true = refl
      assoc false = refl

  pub all_append : (xs ys : List ℕ) → all f xs ≡ true → all f ys ≡ true → all f (xs ++ ys) ≡ true
  all_append xs ys p q = member-all f (xs ++ ys) (λ x k. ⊎_elim (all-member f xs p x) (all-member f ys q x) (Memᴰ.append_cases xs k))

  -- a test that some member passes
  pub any-member : (xs : List ℕ) → any f xs ≡ true → (x : ℕ) × Memᴰ x xs × (f x ≡ true)
  any-member [] e = absurd (true≢false (sym e))
  any-member (x ∷ xs) e =
      ⊎_elim (λ t. (x, Memᴰ.head refl, t))
      (λ t.
      let w = any-member xs t in
      (w.0, Memᴰ.tail w.1, w.2))
      ((either (f x) (any f xs)).0 e)

  pub member-any : (xs : List ℕ) (x : ℕ) → Memᴰ x xs → f x ≡ true → any f xs ≡ true
  member-any [] x k t = absurd (Memᴰ.not-nil k)
  member-any (y ∷ xs) x k t =
      (either (f y) (any f xs)).1 (⊎_elim (λ e. inl (ap f (sym e) ∙ t)) (λ l. inr (member-any xs x l t)) (Memᴰ.cases_cons k))

-- selections by tests that agree on the list's members
pub select-same : (f g : ℕ → Bool) (xs : List ℕ) → ((x : ℕ) → Memᴰ x xs → f x ≡ g x) → select f xs ≡ select g xs
select-same f g [] h = refl
select-same f g (x ∷ xs) h = rw (h x (Memᴰ.head refl)) (ap (λ (l : List ℕ). cond (g x) (x ∷ l) l) (select-same f g xs (λ y k. h y (Memᴰ.tail k))))
