-- The walk over the linked cells and the units' sums finds the ends of the X-chain search. Assumes nothing.
use mathlib.Core.Path.{◌≡◌, refl, sym, ap, ap₂, ◌∙◌, subst}
use mathlib.Core.Logic.{⊎_elim}
use mathlib.Core.Bool.{Bool, true, false, cond, ◌||◌}
use mathlib.Core.List.{List, [], ◌∷◌, ◌++◌, map, append-nil, Memᴰ}
use Prim.Native.Nat.{ℕ, zero, suc, ◌+◌, ◌-◌, ◌≤◌, ◌<◌}
use native.Mathlib.Omega.{arith}
use borrow.Author.Tests.{lt-ltb, le-leb, lt-leb, ltb-true, eq-eqb, ne_eqb}
use lib.Dec.{eqb, ltb, leb}
use lib.ListN.{length}
use Rattle.candidates.proofs.Tests.{cond-true, cond-false, neither}
use Rattle.grid.specs.Cells.{sees, cells}
use Rattle.grid.specs.Units.{in_unit}
use Rattle.grid.proofs.Cells.{row_below, col-below, box-below, row_in, col-in, box_in_lem}
use Rattle.grid.proofs.Lists.{at-up_to, mem-select, place-mem, select-mem, range-mem, mem-range}
use Rattle.steps.specs.Boards.{at}
use Rattle.steps.specs.Chains.{on_path, two_of, weak_links, strong_links}
use Rattle.steps.specs.Loops.{for, select, range, up_to}
use Rattle.steps.specs.Ported.{holds}
use Rattle.steps.specs.XChains.{ends_from}
use Rattle.steps.proofs.Links.{strong-link}
use Rattle.steps.proofs.Loops.{for-in, for-same, in-up_to, up_to-in, for-append}
use Rattle.steps.proofs.Spots.{holder-holds, holds-holder}
use Rattle.chains.specs.code.Links.{others, weak_in, strong_in}
use Rattle.chains.proofs.Listing.{entries}
use Rattle.chains.specs.code.XLinks.{pair_sum, pair_sums, own_unit, other_in, other_of, is_linked, end_here, if_cell, walk_ends}
use Rattle.chains.proofs.Holders.{open-holders, weak-is, strong-is}

-- ---- rising lists

-- the list rises, from k on
Rises : ℕ → List ℕ → Type 0
Rises k [] = Unit
Rises k (x ∷ xs) = (k ≤ x) × Rises (suc x) xs

rises-from : (k j : ℕ) (xs : List ℕ) → k ≤ j → Rises j xs → Rises k xs
unfolding Rises
rises-from k j [] h r = r
rises-from k j (x ∷ xs) h r = (omega (arith, r.0), r.1)

range-rises : (n k : ℕ) → Rises k (range n k)
unfolding Rises
range-rises zero k = tt
range-rises (suc n) k = (omega arith, range-rises n (suc k))

select-rises : (f : ℕ → Bool) (k : ℕ) (xs : List ℕ) → Rises k xs → Rises k (select f xs)
unfolding Rises
select-rises f k [] r = tt
select-rises f k (x ∷ xs) r = go (f x) (select-rises f (suc x) xs r.1)
  where
    go : (t : Bool) → Rises (suc x) (select f xs) → Rises k (cond t (x ∷ select f xs) (select f xs))
    go true later = (r.0, later)
    go false later = rises-from k (suc x) (select f xs) (omega (arith, r.0)) later

-- ---- lists that loops make

module _ {A B : Type 0} where
  for-map : {C : Type 0} (h : C → A) (xs : List C) (f : A → List B) → for (map h xs) f ≡ for xs (λ x. f (h x))
  unfolding for
  for-map h [] f = refl
  for-map h (x ∷ xs) f = ap (λ (l : List B). f (h x) ++ l) (for-map h xs f)

for-select : (p : ℕ → Bool) (xs : List ℕ) (f : ℕ → List ℕ) → for (select p xs) f ≡ for xs (λ x. cond (p x) (f x) [])
unfolding for
for-select p [] f = refl
for-select p (x ∷ xs) f = go (p x) (for-select p xs f)
  where
    go : (t : Bool) → for (select p xs) f ≡ for xs (λ x. cond (p x) (f x) []) → for (cond t (x ∷ select p xs) (select p xs)) f ≡ cond t (f x) [] ++ for xs (λ x. cond (p x) (f x) [])
    go true later = ap (λ (l : List ℕ). f x ++ l) later
    go false later = later

-- ---- the other of two

pair-other : (xs : List ℕ) (c : ℕ) → Rises 0 xs → ((x : ℕ) → Memᴰ x xs → x < 81) → Memᴰ c xs
    → others c (two_of xs) ≡ if_cell (other_in (pair_sum xs) c) (other_in (pair_sum xs) c ∷ [])
unfolding Rises
pair-other [] c r small k = absurd (mathlib.Core.List.Memᴰ.not-nil k)
pair-other (x ∷ []) c r small k = rw (le-leb 0 c (omega arith)) refl
pair-other (x ∷ y ∷ z ∷ l) c r small k =
    let e : eqb (length (x ∷ y ∷ z ∷ l)) 2 ≡ false = ne_eqb (length (x ∷ y ∷ z ∷ l)) 2 (λ q. absurd (omega arith)) in
    rw (e, le-leb 0 c (omega arith)) refl
pair-other (x ∷ y ∷ []) c r small k =
    ⊎_elim (λ e. first e) (λ l. second (mathlib.Core.List.Memᴰ.eq_of_singleton l)) (mathlib.Core.List.Memᴰ.cases_cons k)
  where
    less : x < y
    less = omega (arith, r.1.0)

    by : (c o : ℕ) → o < 81 → x + y + 1 - c - 1 ≡ o → leb (x + y + 1) c ≡ false → others c (x ∷ y ∷ []) ≡ o ∷ [] → others c (x ∷ y ∷ []) ≡ if_cell (other_in (x + y + 1) c) (other_in (x + y + 1) c ∷ [])
    by c o h e t q =
        let w : other_in (x + y + 1) c ≡ o = cond-false (leb (x + y + 1) c) 81 _ t ∙ cond-false (leb 81 (x + y + 1 - c - 1)) 81 _ (lt-leb 81 (x + y + 1 - c - 1) (omega (arith, e))) ∙ e in
        q ∙ sym (ap (λ (k : ℕ). if_cell k (k ∷ [])) w ∙ cond-true (ltb o 81) (o ∷ []) [] (lt-ltb o 81 h))

    first : c ≡ x → others c (x ∷ y ∷ []) ≡ if_cell (other_in (x + y + 1) c) (other_in (x + y + 1) c ∷ [])
    first e =
        by c y (small y (mathlib.Core.List.Memᴰ.tail (mathlib.Core.List.Memᴰ.head refl))) (omega (arith, e)) (lt-leb (x + y + 1) c (omega (arith, e)))
        (rw (eq-eqb x c (sym e), ne_eqb y c (λ q. absurd (omega (arith, less, e, q)))) refl)

    second : c ≡ y → others c (x ∷ y ∷ []) ≡ if_cell (other_in (x + y + 1) c) (other_in (x + y + 1) c ∷ [])
    second e =
        by c x (small x (mathlib.Core.List.Memᴰ.head refl)) (omega (arith, e)) (lt-leb (x + y + 1) c (omega (arith, e)))
        (rw (ne_eqb x c (λ q. absurd (omega (arith, less, e, q))), eq-eqb y c (sym e)) refl)

-- a test on the digit 81 that is no cell
none-cell : (xs : List ℕ) (c : ℕ) → ltb c 81 ≡ false → if_cell c xs ≡ []
none-cell xs c t = cond-false (ltb c 81) xs [] t

module _ (g m : List ℕ) (d : ℕ) where
  abbrev pub hs : List ℕ
  hs = open-holders g m d

  abbrev pub sums : List ℕ
  sums = pair_sums hs

  pub in-hs : {c : ℕ} → Memᴰ c hs → (c < 81) × (holds g m d c ≡ true)
  unfolding cells
  in-hs {c} k =
      let w = mem-select (holds g m d) cells c k in
      (omega (arith, mem-range 81 0 c w.0), w.1)

  pub hs-in : {c : ℕ} → c < 81 → holds g m d c ≡ true → Memᴰ c hs
  unfolding cells
  hs-in {c} h t = select-mem (holds g m d) cells c (range-mem 81 0 c (omega arith) (omega arith)) t

  hs-rises : Rises 0 hs
  unfolding cells
  hs-rises = select-rises (holds g m d) 0 cells (range-rises 81 0)

  sum-at : (u : ℕ) → u < 27 → at sums u ≡ pair_sum (select (in_unit u) hs)
  unfolding pair_sums
  sum-at u h = at-up_to (λ u. pair_sum (select (in_unit u) hs)) 0 27 u h

  -- ---- strong links

  -- the nth unit of a cell
  module _ {c : ℕ} (k : Memᴰ c hs) where
    below : c < 81
    below = (in-hs k).0

    abbrev one : ℕ → List ℕ
    one i = if_cell (other_of sums c i) (other_of sums c i ∷ [])

    through : (i : ℕ) → own_unit c i < 27 → in_unit (own_unit c i) c ≡ true → others c (two_of (select (in_unit (own_unit c i)) hs)) ≡ one i
    through i h t =
        let u = own_unit c i in
        pair-other (select (in_unit u) hs) c (select-rises (in_unit u) 0 hs hs-rises) (λ x l. (in-hs (mem-select (in_unit u) hs x l).0).0) (select-mem (in_unit u) hs c k t)
        ∙ ap (λ (s : ℕ). if_cell (other_in s c) (other_in s c ∷ [])) (sym (sum-at u h))
        ∙ ap (λ (o : ℕ). if_cell o (o ∷ [])) (sym (cond-false (leb 27 u) 81 (other_in (at sums u) c) (lt-leb 27 u h)))

    strong-over : strong_links g m d c ≡ one 0 ++ (one 1 ++ (one 2 ++ []))
    unfolding strong_in for
    strong-over =
        sym (strong-is g m d c)
        ∙ ap₂ ◌++◌ (through 0 (omega (arith, row_below c below)) (row_in c below))
        (ap₂ ◌++◌ (through 1 (omega (arith, col-below c)) (col-in c)) (ap (λ (l : List ℕ). l ++ []) (through 2 (omega (arith, box-below c below)) (box_in_lem c below))))

    for-one : (i : ℕ) (f : ℕ → List ℕ) → for (one i) f ≡ if_cell (other_of sums c i) (f (other_of sums c i))
    unfolding for
    for-one i f = go (ltb (other_of sums c i) 81)
      where
        go : (t : Bool) → for (cond t (other_of sums c i ∷ []) []) f ≡ cond t (f (other_of sums c i)) []
        go true = append-nil (f (other_of sums c i))
        go false = refl

    strong-on : (f : ℕ → List ℕ) → for (up_to 3) (λ i. if_cell (other_of sums c i) (f (other_of sums c i))) ≡ for (strong_links g m d c) f
    unfolding for
    strong-on f =
        sym (ap (λ (l : List ℕ). for l f) strong-over ∙ for-append (one 0) (one 1 ++ (one 2 ++ [])) f
        ∙ ap₂ ◌++◌ (for-one 0 f) (for-append (one 1) (one 2 ++ []) f ∙ ap₂ ◌++◌ (for-one 1 f) (for-append (one 2) [] f ∙ ap (λ (l : List ℕ). l ++ []) (for-one 2 f))))

    pub unlinked : is_linked sums c ≡ false → strong_links g m d c ≡ []
    unlinked t =
        let a = (neither (ltb (other_of sums c 0) 81 || ltb (other_of sums c 1) 81) (ltb (other_of sums c 2) 81)).0 t in
        let b = (neither (ltb (other_of sums c 0) 81) (ltb (other_of sums c 1) 81)).0 a.0 in
        strong-over
        ∙ ap₂ ◌++◌ (none-cell (other_of sums c 0 ∷ []) (other_of sums c 0) b.0)
        (ap₂ ◌++◌ (none-cell (other_of sums c 1 ∷ []) (other_of sums c 1) b.1) (ap (λ (l : List ℕ). l ++ []) (none-cell (other_of sums c 2 ∷ []) (other_of sums c 2) a.1)))

    -- a strong link is a holder
    other-in : (i : ℕ) → i < 3 → ltb (other_of sums c i) 81 ≡ true → Memᴰ (other_of sums c i) hs
    unfolding for
    other-in i h t =
        let o = other_of sums c i in
        let mem : Memᴰ o (strong_links g m d c) = subst (λ (l : List ℕ). Memᴰ o l) (strong-on (λ x. x ∷ []) ∙ for-self (strong_links g m d c)) (for-in (up_to 3) (λ i. if_cell (other_of sums c i) (other_of sums c i ∷ [])) i o (up_to-in 3 i h) (subst (λ (l : List ℕ). Memᴰ o l) (sym (cond-true (ltb o 81) (o ∷ []) [] t)) (mathlib.Core.List.Memᴰ.head refl))) in
        let l = (strong-link g m d o below (holds-holder g m d c (in-hs k).1)).0 mem in
        hs-in (ltb-true o 81 t) (holder-holds g m l.holder₂)
      where
        for-self : (xs : List ℕ) → for xs (λ x. x ∷ []) ≡ xs
        for-self [] = refl
        for-self (x ∷ xs) = ap (λ (l : List ℕ). x ∷ l) (for-self xs)

  -- ---- weak links

  pub unlinked-ends : {c : ℕ} → Memᴰ c hs → is_linked sums c ≡ false → (n : ℕ) (path : List ℕ) → ends_from g m d n false path c ≡ []
  unfolding ends_from for
  unlinked-ends k t zero path = refl
  unlinked-ends {c} k t (suc n) path = rw (unlinked k t) (go (on_path c path))
    where
      go : (t : Bool) → cond {A = List ℕ} t [] ([] ++ []) ≡ []
      go true = refl
      go false = refl

  module _ (linked : List ℕ) (are : linked ≡ select (is_linked sums) hs) where
    pub in-linked : (i : ℕ) → i < length linked → Memᴰ (at linked i) hs
    in-linked i h = (mem-select (is_linked sums) hs (at linked i) (subst (λ (l : List ℕ). Memᴰ (at linked i) l) are (place-mem linked 0 i h))).0

    -- the cells that are gone on to
    abbrev seen : ℕ → ℕ → ℕ
    seen c z = cond (sees c z) z 81

    weak-on : (c : ℕ) (f : ℕ → List ℕ) → ((z : ℕ) → Memᴰ z hs → is_linked sums z ≡ false → f z ≡ [])
        → for (up_to (length linked)) (λ i. if_cell (seen c (at linked i)) (f (seen c (at linked i)))) ≡ for (weak_links g m d c) f
    unfolding weak_in
    weak-on c f none =
        sym (for-map (at linked) (up_to (length linked)) (λ z. if_cell (seen c z) (f (seen c z))))
        ∙ ap (λ (l : List ℕ). for l (λ z. if_cell (seen c z) (f (seen c z)))) (entries linked ∙ are)
        ∙ for-select (is_linked sums) hs (λ z. if_cell (seen c z) (f (seen c z)))
        ∙ for-same (λ z. cond (is_linked sums z) (if_cell (seen c z) (f (seen c z))) []) (λ z. cond (sees c z) (f z) []) hs (λ z k. one z k (is_linked sums z) refl (sees c z))
        ∙ sym (for-select (sees c) hs f) ∙ ap (λ (l : List ℕ). for l f) (weak-is g m d c)
      where
        one : (z : ℕ) → Memᴰ z hs → (l : Bool) → is_linked sums z ≡ l → (t : Bool) → cond l (if_cell (cond t z 81) (f (cond t z 81))) [] ≡ cond t (f z) []
        one z k true e true = cond-true (ltb z 81) (f z) [] (lt-ltb z 81 (in-hs k).0)
        one z k true e false = refl
        one z k false e true = sym (none z k e)
        one z k false e false = refl

    -- ---- the ends

    pub ends-are : (n : ℕ) (weak : Bool) (path : List ℕ) (c : ℕ) → Memᴰ c hs → walk_ends linked sums n weak path c ≡ ends_from g m d n weak path c
    unfolding walk_ends ends_from
    ends-are zero weak path c k = refl
    ends-are (suc n) true path c k =
        ap (λ (l : List ℕ). cond (on_path c path) [] (end_here true (length path) c ++ l))
        (for-same (λ i. if_cell (seen c (at linked i)) (walk_ends linked sums n false (c ∷ path) (seen c (at linked i)))) (λ i. if_cell (seen c (at linked i)) (ends_from g m d n false (c ∷ path) (seen c (at linked i)))) (up_to (length linked))
        (λ i l. one (at linked i) (ends-are n false (c ∷ path) (at linked i) (in-linked i (in-up_to (length linked) i l))) (sees c (at linked i)))
        ∙ weak-on c (ends_from g m d n false (c ∷ path)) (λ z l t. unlinked-ends l t n (c ∷ path)))
      where
        one : (z : ℕ) → walk_ends linked sums n false (c ∷ path) z ≡ ends_from g m d n false (c ∷ path) z → (t : Bool) → if_cell (cond t z 81) (walk_ends linked sums n false (c ∷ path) (cond t z 81)) ≡ if_cell (cond t z 81) (ends_from g m d n false (c ∷ path) (cond t z 81))
        one z e true = ap (if_cell z) e
        one z e false = refl
    ends-are (suc n) false path c k =
        ap (λ (l : List ℕ). cond (on_path c path) [] ([] ++ l))
        (for-same (λ i. if_cell (other_of sums c i) (walk_ends linked sums n true (c ∷ path) (other_of sums c i))) (λ i. if_cell (other_of sums c i) (ends_from g m d n true (c ∷ path) (other_of sums c i))) (up_to 3)
        (λ i l. one i (λ t. ends-are n true (c ∷ path) (other_of sums c i) (other-in k i (in-up_to 3 i l) t)) (ltb (other_of sums c i) 81) refl) ∙ strong-on k (ends_from g m d n true (c ∷ path)))
      where
        one : (i : ℕ) → (ltb (other_of sums c i) 81 ≡ true → walk_ends linked sums n true (c ∷ path) (other_of sums c i) ≡ ends_from g m d n true (c ∷ path) (other_of sums c i))
            → (t : Bool) → ltb (other_of sums c i) 81 ≡ t → cond t (walk_ends linked sums n true (c ∷ path) (other_of sums c i)) [] ≡ cond t (ends_from g m d n true (c ∷ path) (other_of sums c i)) []
        one i e true t = e t
        one i e false t = refl
