-- Lists: what stands in a range and in a selection, tests of every element, and elements by their places. Assumes nothing.
use mathlib.Core.Path.{◌≡◌, refl, sym, ap, ◌∙◌}
use mathlib.Core.Logic.{◌≢◌, ⊎_elim}
use mathlib.Core.Bool.{Bool, true, false, cond, not, ◌&&◌, ◌||◌, false≢true}
use mathlib.Core.List.Memᴰ
use mathlib.Core.List.{List, [], ◌∷◌, map, Memᴰ}
use Prim.Native.Nat.{ℕ, zero, suc, ◌+◌, ◌-◌, ◌≤◌, ◌<◌}
use native.Mathlib.Nat.{not-suc-le-zero, le_of_suc-le-suc, zero-add, add-zero, add-suc, suc-add}
use native.Mathlib.Numerals.{add-one}
use native.Mathlib.Decide.{ℕ_discrete}
use native.Mathlib.Omega.{arith}
use borrow.Author.Tests.{eqb-true, eq-eqb}
use lib.IntN.{ℤ, pos, negsuc}
use lib.ListN.{length, get_or, take, drop, drop_of_length-le}
use lib.Seq.{drop-cons}
use Rattle.grid.specs.Lists.{range, select, all, each}
use Rattle.grid.specs.Fillings.{same_number, among, distinct}
use Rattle.candidates.proofs.Tests.{cond-false, both, both_left, both_right}

-- ---- a membership and a place

pub mem-place {ℓ} : {A : Type ℓ} {a : A} {l : List A} (d : A) → Memᴰ a l → (i : ℕ) × (i < length l) × (get_or l i d ≡ a)
mem-place d (Memᴰ.head e) = (0, omega arith, sym e)
mem-place d (Memᴰ.tail m) =
    let p = mem-place d m in
    let h = p.1 in
    (suc p.0, omega arith, p.2)

pub place-mem {ℓ} : {A : Type ℓ} (l : List A) (d : A) (i : ℕ) → i < length l → Memᴰ (get_or l i d) l
place-mem [] d i h = absurd (not-suc-le-zero h)
place-mem (x ∷ xs) d zero h = Memᴰ.head refl
place-mem (x ∷ xs) d (suc i) h = Memᴰ.tail (place-mem xs d i (le_of_suc-le-suc h))

-- ---- ranges and selections

at-range {ℓ} : {A : Type ℓ} (f : ℕ → A) (z : A) (n k i : ℕ) → i < n → get_or (map f (range n k)) i z ≡ f (k + i)
at-range f z zero k i h = absurd (not-suc-le-zero h)
at-range f z (suc n) k zero h = ap f (sym (add-zero k))
at-range f z (suc n) k (suc i) h =
    at-range f z n (suc k) i (le_of_suc-le-suc h) ∙ ap f (suc-add k i ∙ sym (add-suc k i))

pub at-up_to {ℓ} : {A : Type ℓ} (f : ℕ → A) (z : A) (n i : ℕ) → i < n → get_or (map f (range n 0)) i z ≡ f i
at-up_to f z n i h = at-range f z n 0 i h ∙ ap f (zero-add i)

pub range-mem : (n k c : ℕ) → k ≤ c → c < k + n → Memᴰ c (range n k)
range-mem zero k c h l = absurd (omega arith)
range-mem (suc n) k c h l = go (ℕ_discrete c k) (λ g. range-mem n (suc k) c g (omega arith))
  where
    go : Dec (c ≡ k) → (suc k ≤ c → Memᴰ c (range n (suc k))) → Memᴰ c (k ∷ range n (suc k))
    go (yes e) more = Memᴰ.head e
    go (no e) more = Memᴰ.tail (more (omega arith))

pub mem-range : (n k c : ℕ) → Memᴰ c (range n k) → (k ≤ c) × (c < k + n)
mem-range zero k c m = absurd (Memᴰ.not-nil m)
mem-range (suc n) k c m =
    ⊎_elim (λ e. (omega arith, omega arith))
    (λ r. let p = mem-range n (suc k) c r in let a = p.0 in let b = p.1 in (omega arith, omega arith))
    (Memᴰ.cases_cons m)

pub select-mem : (f : ℕ → Bool) (l : List ℕ) (c : ℕ) → Memᴰ c l → f c ≡ true → Memᴰ c (select f l)
select-mem f [] c m e = m
select-mem f (x ∷ xs) c m e = ⊎_elim here (λ r. there (f x) (select-mem f xs c r e)) (Memᴰ.cases_cons m)
  where
    here : c ≡ x → Memᴰ c (cond (f x) (x ∷ select f xs) (select f xs))
    here p =
        let e' : f x ≡ true = ap f (sym p) ∙ e in
        rw e' (Memᴰ.head p)

    there : (t : Bool) → Memᴰ c (select f xs) → Memᴰ c (cond t (x ∷ select f xs) (select f xs))
    there true r = Memᴰ.tail r
    there false r = r

pub mem-select : (f : ℕ → Bool) (l : List ℕ) (c : ℕ) → Memᴰ c (select f l) → Memᴰ c l × (f c ≡ true)
mem-select f [] c m = absurd (Memᴰ.not-nil m)
mem-select f (x ∷ xs) c m = go (f x) refl m (λ r. mem-select f xs c r)
  where
    go : (t : Bool) → f x ≡ t → Memᴰ c (cond t (x ∷ select f xs) (select f xs)) → (Memᴰ c (select f xs) → Memᴰ c xs × (f c ≡ true)) → Memᴰ c (x ∷ xs) × (f c ≡ true)
    go true e r more =
        ⊎_elim (λ p. (Memᴰ.head p, ap f p ∙ e)) (λ s. (Memᴰ.tail (more s).0, (more s).1)) (Memᴰ.cases_cons r)
    go false e r more = (Memᴰ.tail (more r).0, (more r).1)

pub select-none : (f : ℕ → Bool) (l : List ℕ) → ((c : ℕ) → Memᴰ c l → f c ≡ false) → select f l ≡ []
select-none f [] h = refl
select-none f (x ∷ xs) h = cond-false (f x) (x ∷ select f xs) (select f xs) (h x (Memᴰ.head refl)) ∙ select-none f xs (λ c m. h c (Memᴰ.tail m))

pub range_length : (n k : ℕ) → length (range n k) ≡ n
range_length zero k = refl
range_length (suc n) k = ap suc (range_length n (suc k))

-- the elements at the places of a range
pub as-taken : (l : List ℕ) (n k : ℕ) → k + n ≤ length l → map (λ i. get_or l i 0) (range n k) ≡ take n (drop k l)
as-taken l zero k h = refl
as-taken l (suc n) k h =
    ap (λ (m : List ℕ). get_or l k 0 ∷ m) (as-taken l n (suc k) (omega arith)) ∙ sym (ap (take (suc n)) (drop-cons l k 0 (omega arith)))

-- ---- a loop over i from 0 up to n: what is left of it at i

pub range-on : (n i : ℕ) → i < n → range (n - i) i ≡ i ∷ range (n - (i + 1)) (i + 1)
range-on n i h =
    let e : n - i ≡ suc (n - (i + 1)) = omega arith in
    ap (λ (m : ℕ). range m i) e ∙ ap (λ (k : ℕ). i ∷ range (n - (i + 1)) k) (sym (add-one i))

pub range-end : (n i : ℕ) → n ≤ i → range (n - i) i ≡ []
range-end n i h =
    let e : n - i ≡ 0 = omega arith in
    ap (λ (m : ℕ). range m i) e

pub each_on {ℓ} : {S : Type ℓ} (f : ℕ → S → S) (n i : ℕ) (s : S) → i < n → each f (range (n - i) i) s ≡ each f (range (n - (i + 1)) (i + 1)) (f i s)
unfolding each
each_on f n i s h = ap (λ (is : List ℕ). each f is s) (range-on n i h)

pub each-end {ℓ} : {S : Type ℓ} (f : ℕ → S → S) (n i : ℕ) (s : S) → n ≤ i → each f (range (n - i) i) s ≡ s
unfolding each
each-end f n i s h = ap (λ (is : List ℕ). each f is s) (range-end n i h)

-- a loop of code over i from 0 up to n, with state s: what is left of the turns at i still makes the whole
module _ {ℓ} {S : Type ℓ} (f : ℕ → S → S) (n i : ℕ) {s whole : S} where
  pub turn-done : {next : S} → i < n → next ≡ f i s → each f (range (n - i) i) s ≡ whole → each f (range (n - (i + 1)) (i + 1)) next ≡ whole
  turn-done h e left = ap (each f (range (n - (i + 1)) (i + 1))) e ∙ sym (each_on f n i s h) ∙ left

  pub turns-over : n ≤ i → each f (range (n - i) i) s ≡ whole → s ≡ whole
  turns-over h left = sym (each-end f n i s h) ∙ left

-- the same over the members of a list, from place i on
module _ {ℓ} {S : Type ℓ} (f : ℕ → S → S) (xs : List ℕ) (i : ℕ) {s whole : S} where
  pub member-done : {next : S} → i < length xs → next ≡ f (get_or xs i 0) s → each f (drop i xs) s ≡ whole → each f (drop (i + 1) xs) next ≡ whole
  unfolding each
  member-done h e left =
      ap (each f (drop (i + 1) xs)) e
      ∙ ap (λ (k : ℕ). each f (drop k xs) (f (get_or xs i 0) s)) (add-one i)
      ∙ ap (λ (ys : List ℕ). each f ys s) (sym (drop-cons xs i 0 h))
      ∙ left

  pub members-over : length xs ≤ i → each f (drop i xs) s ≡ whole → s ≡ whole
  unfolding each
  members-over h left = ap (λ (ys : List ℕ). each f ys s) (sym (drop_of_length-le xs h)) ∙ left

pub all-on : (f : ℕ → Bool) (n i : ℕ) → i < n → f i ≡ true → all f (range (n - i) i) ≡ all f (range (n - (i + 1)) (i + 1))
all-on f n i h e = ap (all f) (range-on n i h) ∙ ap (λ (t : Bool). t && all f (range (n - (i + 1)) (i + 1))) e

pub all-stop : (f : ℕ → Bool) (n i : ℕ) → i < n → f i ≡ false → all f (range (n - i) i) ≡ false
all-stop f n i h e = ap (all f) (range-on n i h) ∙ ap (λ (t : Bool). t && all f (range (n - (i + 1)) (i + 1))) e

pub all_end : (f : ℕ → Bool) (n i : ℕ) → n ≤ i → all f (range (n - i) i) ≡ true
all_end f n i h = ap (all f) (range-end n i h)

-- steps that agree on the members
pub each_same : {A S : Type 0} (f g : A → S → S) (xs : List A) → ((x : A) → Memᴰ x xs → (s : S) → f x s ≡ g x s) → (s : S) → each f xs s ≡ each g xs s
unfolding each
each_same f g [] h s = refl
each_same f g (x ∷ xs) h s = ap (each f xs) (h x (Memᴰ.head refl) s) ∙ each_same f g xs (λ y k. h y (Memᴰ.tail k)) (g x s)

-- ---- a test of every element

pub all-member {ℓ} : {A : Type ℓ} (f : A → Bool) (xs : List A) → all f xs ≡ true → (x : A) → Memᴰ x xs → f x ≡ true
all-member f [] t x k = absurd (Memᴰ.not-nil k)
all-member f (y ∷ ys) t x k =
    ⊎_elim (λ (q : x ≡ y). ap f q ∙ both_left (f y) (all f ys) t) (λ r. all-member f ys (both_right (f y) (all f ys) t) x r) (Memᴰ.cases_cons k)

pub member-all {ℓ} : {A : Type ℓ} (f : A → Bool) (xs : List A) → ((x : A) → Memᴰ x xs → f x ≡ true) → all f xs ≡ true
member-all f [] h = refl
member-all f (x ∷ xs) h = both (h x (Memᴰ.head refl)) (member-all f xs (λ y k. h y (Memᴰ.tail k)))

-- by their places, and for a range by its numbers
pub all-at {ℓ} : {A : Type ℓ} (f : A → Bool) (l : List A) (d : A) → all f l ≡ true → (i : ℕ) → i < length l → f (get_or l i d) ≡ true
all-at f l d e i h = all-member f l e (get_or l i d) (place-mem l d i h)

pub at_all {ℓ} : {A : Type ℓ} (f : A → Bool) (l : List A) (d : A) → ((i : ℕ) → i < length l → f (get_or l i d) ≡ true) → all f l ≡ true
at_all f l d h = member-all f l (λ x m. let p = mem-place d m in ap f (sym p.2) ∙ h p.0 p.1)

pub all-range : (f : ℕ → Bool) (n : ℕ) → all f (range n 0) ≡ true → (i : ℕ) → i < n → f i ≡ true
all-range f n e i h = all-member f (range n 0) e i (range-mem n 0 i (omega arith) (omega arith))

pub range_all : (f : ℕ → Bool) (n : ℕ) → ((i : ℕ) → i < n → f i ≡ true) → all f (range n 0) ≡ true
range_all f n h = member-all f (range n 0) (λ i m. h i (omega (arith, mem-range n 0 i m)))

-- tests and values that agree on the members
pub all_same : {A : Type 0} (f g : A → Bool) (xs : List A) → ((x : A) → Memᴰ x xs → f x ≡ g x) → all f xs ≡ all g xs
all_same f g [] h = refl
all_same f g (x ∷ xs) h =
    ap (λ (t : Bool). t && all f xs) (h x (Memᴰ.head refl)) ∙ ap (λ (t : Bool). g x && t) (all_same f g xs (λ y k. h y (Memᴰ.tail k)))

pub map_same : {A B : Type 0} (f g : A → B) (xs : List A) → ((x : A) → Memᴰ x xs → f x ≡ g x) → map f xs ≡ map g xs
map_same f g [] h = refl
map_same {A} {B} f g (x ∷ xs) h =
    ap (λ (y : B). y ∷ map f xs) (h x (Memᴰ.head refl)) ∙ ap (λ (ys : List B). g x ∷ ys) (map_same f g xs (λ y k. h y (Memᴰ.tail k)))

-- ---- numbers that differ

pub same_refl : (z : ℤ) → same_number z z ≡ true
same_refl (pos n) = eq-eqb n n refl
same_refl (negsuc n) = eq-eqb n n refl

pub same-eq : (a b : ℤ) → same_number a b ≡ true → a ≡ b
same-eq (pos a) (pos b) e = ap pos (eqb-true a b e)
same-eq (pos a) (negsuc b) e = absurd (false≢true e)
same-eq (negsuc a) (pos b) e = absurd (false≢true e)
same-eq (negsuc a) (negsuc b) e = ap negsuc (eqb-true a b e)

-- a number that the list does not hold stands at no place of it
not-held : (z : ℤ) (l : List ℤ) (d : ℤ) → not (among z l) ≡ true → (i : ℕ) → i < length l → z ≢ get_or l i d
not-held z [] d e i h p = absurd (not-suc-le-zero h)
not-held z (x ∷ xs) d e i h p = go (same_number z x) refl i h p e (λ f k l. not-held z xs d f k l)
  where
    go : (t : Bool) → same_number z x ≡ t → (i : ℕ) → i < suc (length xs) → z ≡ get_or (x ∷ xs) i d → not (t || among z xs) ≡ true → (not (among z xs) ≡ true → (k : ℕ) → k < length xs → z ≢ get_or xs k d) → ⊥
    go true s i h p e more = false≢true e
    go false s zero h p e more = false≢true (sym s ∙ ap (same_number z) (sym p) ∙ same_refl z)
    go false s (suc i) h p e more = more e i (le_of_suc-le-suc h) p

held-not : (z : ℤ) (l : List ℤ) (d : ℤ) → ((i : ℕ) → i < length l → z ≢ get_or l i d) → not (among z l) ≡ true
held-not z [] d h = refl
held-not z (x ∷ xs) d h = go (same_number z x) refl (held-not z xs d (λ i k. h (suc i) (omega arith)))
  where
    go : (t : Bool) → same_number z x ≡ t → not (among z xs) ≡ true → not (t || among z xs) ≡ true
    go true s more = absurd (h 0 (omega arith) (same-eq z x s))
    go false s more = more

pub distinct-at : (l : List ℤ) (d : ℤ) → distinct l ≡ true → (i j : ℕ) → i < length l → j < length l → i ≢ j → get_or l i d ≢ get_or l j d
distinct-at [] d e i j h k n = absurd (not-suc-le-zero h)
distinct-at (x ∷ xs) d e zero zero h k n = absurd (n refl)
distinct-at (x ∷ xs) d e zero (suc j) h k n = not-held x xs d (both_left (not (among x xs)) (distinct xs) e) j (le_of_suc-le-suc k)
distinct-at (x ∷ xs) d e (suc i) zero h k n =
    λ p. not-held x xs d (both_left (not (among x xs)) (distinct xs) e) i (le_of_suc-le-suc h) (sym p)
distinct-at (x ∷ xs) d e (suc i) (suc j) h k n =
    distinct-at xs d (both_right (not (among x xs)) (distinct xs) e) i j (le_of_suc-le-suc h) (le_of_suc-le-suc k) (λ p. n (ap suc p))

pub at-distinct : (l : List ℤ) (d : ℤ) → ((i j : ℕ) → i < length l → j < length l → i ≢ j → get_or l i d ≢ get_or l j d) → distinct l ≡ true
at-distinct [] d h = refl
at-distinct (x ∷ xs) d h =
    both (held-not x xs d (λ i k. h 0 (suc i) (omega arith) (omega arith) (λ e. absurd (omega arith))))
    (at-distinct xs d (λ i j k l n. h (suc i) (suc j) (omega arith) (omega arith) (λ e. n (omega arith))))
