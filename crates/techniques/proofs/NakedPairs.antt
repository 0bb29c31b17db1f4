-- Naked pairs by places: what a turn does, and that the turns are those of module 3. A pair leaves none of its digits in the unit's other cells, so that its
-- first cell makes no second pair. Assumes nothing.
use mathlib.Core.Path.{◌≡◌, refl, sym, ap, ◌∙◌, subst}
use mathlib.Core.Logic.{◌≢◌, ⊎_elim}
use mathlib.Core.Bool.{Bool, true, false, cond, ◌&&◌, ◌||◌, and_comm, and-false, true≢false}
use mathlib.Core.List.Memᴰ
use mathlib.Core.List.{List, [], ◌∷◌, Memᴰ}
use Prim.Native.Nat.{ℕ, zero, suc, ◌+◌, ◌-◌, ◌≤◌, ◌<◌}
use native.Mathlib.Decide.{ℕ_discrete, dec_lt}
use native.Mathlib.Omega.{arith}
use borrow.Author.Tests.{eq-eqb, ne_eqb, eqb-true, eqb-false, leb-true}
use lib.Dec.{eqb, leb, ltb}
use lib.ListN.{get_or}
use Rattle.std.specs.Prelude.{Some, None, is_some}
use Rattle.std.specs.declared.option.Option.{Option}
use Rattle.candidates.specs.Masks.{count}
use Rattle.candidates.proofs.Counts.{count_none}
use Rattle.candidates.proofs.Held.{Held, none-held, held-ext}
use Rattle.candidates.proofs.Tests.{cond-true, cond-false, both, both_left, both_right, either}
use Rattle.grid.specs.Units.{unit, unit_cell}
use Rattle.grid.proofs.Lists.{at-up_to, range-on, range-end, mem-range, each_same}
use Rattle.grid.proofs.Units.{cell_below, same_place, at_place, member-mem, past-table}
use Rattle.steps.specs.Boards.{at, is_open}
use Rattle.steps.specs.Loops.{each, range, up_to, above}
use Rattle.steps.specs.Ported.{is_naked_pair, naked_pair_loss, naked_pair_at, naked_pairs}
use Rattle.steps.specs.Steps.{lose_all}
use Rattle.steps.proofs.Loops.{in-up_to, in-above, all-member, each-idle}
use Rattle.steps.proofs.Losses.{lost-digits}
use Rattle.cells.specs.code.Places.{lose_places, open_mask, unit_masks, all_masks, all_but}
use Rattle.cells.proofs.Places.{all-kept, open-mask, unit-mask, all-mask}
use Rattle.cells.proofs.UnitPlaces.{two-spared}
use Rattle.techniques.specs.code.NakedPairs.{is_pair, pair_at, unit_pairs, twin_in, twin_of, pair_of, two_of, pair_masks, no_twins, place_of}

-- ---- tests

first-open : (s t p q : Bool) → (s && t && p && q) ≡ true → s ≡ true
first-open s t p q e = both_left s t (both_left (s && t) p (both_left (s && t && p) q e))

bool-no : (t : Bool) → (t ≡ true → ⊥) → t ≡ false
bool-no true n = absurd (n refl)
bool-no false n = refl

-- ---- two places of a unit

module _ (g : List ℕ) (u i j : ℕ) (m : List ℕ) {a : ℕ} (first : a ≡ open_mask g m (unit_cell u i)) where
  pub pair-lost : {b places : ℕ} → b ≡ open_mask g m (unit_cell u j) → places ≡ all_but i j → eqb (count a) 2 ≡ true → a ≡ b
      → lose_places (is_open g) u places a m ≡ pair_at g u i j m
  unfolding pair_at
  pair-lost {b} {places} second others two same =
      ap (λ (x : ℕ). lose_places (is_open g) u x a m) others ∙ ap (λ (x : ℕ). lose_places (is_open g) u (all_but i j) x m) first
      ∙ sym (cond-true (is_pair A (open_mask g m (unit_cell u j))) (lose_places (is_open g) u (all_but i j) A m) m
      (both (ap (λ (x : ℕ). eqb (count x) 2) (sym first) ∙ two) (eq-eqb A (open_mask g m (unit_cell u j)) (sym first ∙ same ∙ second))))
    where
      A : ℕ
      A = open_mask g m (unit_cell u i)

  -- different masks
  pub pair-differs : {b : ℕ} → b ≡ open_mask g m (unit_cell u j) → (a ≡ b → ⊥) → m ≡ pair_at g u i j m
  unfolding pair_at
  pair-differs {b} second other =
      sym (cond-false (is_pair A B) (lose_places (is_open g) u (all_but i j) A m) m (ap (λ (t : Bool). eqb (count A) 2 && t) (ne_eqb A B (λ e. other (first ∙ e ∙ sym second))) ∙ and-false (eqb (count A) 2)))
    where
      A : ℕ
      A = open_mask g m (unit_cell u i)

      B : ℕ
      B = open_mask g m (unit_cell u j)

-- a first place that makes no pair changes nothing
first-idle : (g m : List ℕ) (u i : ℕ) → ((j : ℕ) → Memᴰ j (above i 9) → is_pair (open_mask g m (unit_cell u i)) (open_mask g m (unit_cell u j)) ≡ false) → m ≡ each (pair_at g u i) (above i 9) m
unfolding pair_at
first-idle g m u i none =
    sym (each-idle (λ j n. cond (is_pair (open_mask g n (unit_cell u i)) (open_mask g n (unit_cell u j))) (lose_places (is_open g) u (all_but i j) (open_mask g n (unit_cell u i)) n) n) (above i 9) m
    (λ j l. cond-false (is_pair (open_mask g m (unit_cell u i)) (open_mask g m (unit_cell u j))) (lose_places (is_open g) u (all_but i j) (open_mask g m (unit_cell u i)) m) m (none j l)))

-- ---- the search for a twin

pub no-place : (r : Option ℕ) → is_some r ≡ false → place_of r ≡ 9
no-place None e = refl
no-place (Some j) e = absurd (true≢false e)

module _ (nine : List ℕ) (x j : ℕ) where
  pub twin-here : j < 9 → at nine j ≡ x → j ≡ twin_in nine x (range (9 - j) j)
  unfolding twin_in
  twin-here h e = sym (ap (twin_in nine x) (range-on 9 j h) ∙ cond-true (eqb (at nine j) x) j (twin_in nine x (range (9 - (j + 1)) (j + 1))) (eq-eqb (at nine j) x e))

  pub twin-on : j < 9 → (at nine j ≡ x → ⊥) → twin_in nine x (range (9 - (j + 1)) (j + 1)) ≡ twin_in nine x (range (9 - j) j)
  unfolding twin_in
  twin-on h n = sym (ap (twin_in nine x) (range-on 9 j h) ∙ cond-false (eqb (at nine j) x) j (twin_in nine x (range (9 - (j + 1)) (j + 1))) (ne_eqb (at nine j) x n))

  pub twin-end : 9 ≤ j → 9 ≡ twin_in nine x (range (9 - j) j)
  unfolding twin_in
  twin-end h = sym (ap (twin_in nine x) (range-end 9 j h))

module _ (nine : List ℕ) (x : ℕ) where
  -- no place has the mask
  twin-none : (js : List ℕ) → ((j : ℕ) → Memᴰ j js → j < 9) → 9 ≤ twin_in nine x js → (j : ℕ) → Memᴰ j js → at nine j ≡ x → ⊥
  unfolding twin_in
  twin-none [] b h j l e = Memᴰ.not-nil l
  twin-none (k ∷ js) b h j l e = go (eqb (at nine k) x) refl h (λ r. twin-none js (λ y o. b y (Memᴰ.tail o)) r j)
    where
      go : (t : Bool) → eqb (at nine k) x ≡ t → 9 ≤ cond (eqb (at nine k) x) k (twin_in nine x js) → (9 ≤ twin_in nine x js → Memᴰ j js → at nine j ≡ x → ⊥) → ⊥
      go true t h more = let r = b k (Memᴰ.head refl) in omega (arith, r, subst (λ (y : ℕ). 9 ≤ y) (cond-true (eqb (at nine k) x) k (twin_in nine x js) t) h)
      go false t h more =
          ⊎_elim (λ q. eqb-false (at nine k) x t (ap (at nine) (sym q) ∙ e)) (λ o. more (subst (λ (y : ℕ). 9 ≤ y) (cond-false (eqb (at nine k) x) k (twin_in nine x js) t) h) o e) (Memᴰ.cases_cons l)

  -- j is the first of n places from k on that has it
  record Twin (n k j : ℕ) : Type 0 where
    pub from : k ≤ j
    pub below : j < k + n
    pub same : at nine j ≡ x
    pub before : (l : ℕ) → k ≤ l → l < j → at nine l ≡ x → ⊥

  twin-some : (n k : ℕ) → twin_in nine x (range n k) < 9 → Twin n k (twin_in nine x (range n k))
  unfolding twin_in
  twin-some zero k h = absurd (omega arith)
  twin-some (suc n) k h = go (eqb (at nine k) x) refl h (twin-some n (suc k))
    where
      go : (t : Bool) → eqb (at nine k) x ≡ t → cond (eqb (at nine k) x) k (twin_in nine x (range n (suc k))) < 9 → (twin_in nine x (range n (suc k)) < 9 → Twin n (suc k) (twin_in nine x (range n (suc k))))
          → Twin (suc n) k (cond (eqb (at nine k) x) k (twin_in nine x (range n (suc k))))
      go true t h more = subst (Twin (suc n) k) (sym (cond-true (eqb (at nine k) x) k (twin_in nine x (range n (suc k))) t)) (record { from = omega arith; below = omega arith; same = eqb-true (at nine k) x t; before = λ l a b e. absurd (omega arith) })
      go false t h more =
          let q = cond-false (eqb (at nine k) x) k (twin_in nine x (range n (suc k))) t in
          let w = more (subst (λ (y : ℕ). y < 9) q h) in
          subst (Twin (suc n) k) (sym q) (record { from = omega (arith, w.from); below = omega (arith, w.below); same = w.same; before = λ l a b e. first l a b e (ℕ_discrete l k) w })
        where
          first : (l : ℕ) → k ≤ l → l < twin_in nine x (range n (suc k)) → at nine l ≡ x → Dec (l ≡ k) → Twin n (suc k) (twin_in nine x (range n (suc k))) → ⊥
          first l a b e (yes p) w = eqb-false (at nine k) x t (ap (at nine) (sym p) ∙ e)
          first l a b e (no p) w = w.before l (omega arith) b e

-- ---- after a pair's loss no other cell has its mask

module _ (g m : List ℕ) (u i j : ℕ) (hu : u < 27) (hi : i < 9) (hj : j < 9) (x : ℕ) (two : count x ≡ 2) (first : open_mask g m (unit_cell u i) ≡ x) where
  abbrev after : List ℕ
  after = lose_places (is_open g) u (all_but i j) x m

  abbrev loss : ℕ → ℕ
  loss e = cond (eqb e (unit_cell u i) || eqb e (unit_cell u j)) 0 x

  some : x ≡ 0 → ⊥
  some z = omega (arith, two, ap count z ∙ count_none)

  by-cells : after ≡ lose_all (is_open g) (unit u) loss m
  by-cells = two-spared u hu (is_open g) i j x hi hj m

  first-kept : open_mask g after (unit_cell u i) ≡ x
  first-kept =
      ap (λ (y : ℕ). cond (ltb (unit_cell u i) 81 && is_open g (unit_cell u i)) (cond (ltb (unit_cell u i) 81) y 0) 0)
      (ap (λ (n : List ℕ). at n (unit_cell u i)) by-cells
      ∙ all-kept (is_open g) loss (unit_cell u i) (ap (λ (t : Bool). cond (t || eqb (unit_cell u i) (unit_cell u j)) 0 x) (eq-eqb (unit_cell u i) (unit_cell u i) refl)) (unit u) m)
      ∙ first

  other : (l : ℕ) → l < 9 → l ≢ i → l ≢ j → open_mask g after (unit_cell u l) ≡ x → ⊥
  other l hl ni nj e = go (is_open g c) refl
    where
      c : ℕ
      c = unit_cell u l

      apart : (k : ℕ) → k < 9 → l ≢ k → eqb c (unit_cell u k) ≡ false
      apart k hk n = ne_eqb c (unit_cell u k) (λ q. n (same_place u l k hu hl hk q))

      all-lost : loss c ≡ x
      all-lost = ap (λ (t : Bool). cond (t || eqb c (unit_cell u j)) 0 x) (apart i hi ni) ∙ ap (λ (t : Bool). cond t 0 x) (apart j hj nj)

      go : (t : Bool) → is_open g c ≡ t → ⊥
      go true t =
          let is : at after c ≡ x = sym (open-mask g after c (cell_below u l hu hl) ∙ cond-true (is_open g c) (at after c) 0 t) ∙ e in
          some (held-ext x 0 (λ d. (
            λ h. absurd (((lost-digits (is_open g) loss (unit u) m c d).0 (subst (λ (n : List ℕ). Held (at n c) d) by-cells (subst (λ (y : ℕ). Held y d) (sym is) h))).1
                (record { listed = member-mem hu (at_place u l hl); free = t; digit = subst (λ (y : ℕ). Held y d) (sym all-lost) h })),
            λ h. absurd (none-held d h),
          )))
      go false t = some (sym e ∙ open-mask g after c (cell_below u l hu hl) ∙ cond-false (is_open g c) (at after c) 0 t)

  -- so that the places from k on lose what the pair at j loses, and no more
  lost-once : (n k : ℕ) → i < k → k ≤ j → j < k + n → k + n ≤ 9 → open_mask g m (unit_cell u j) ≡ x → ((l : ℕ) → k ≤ l → l < j → open_mask g m (unit_cell u l) ≡ x → ⊥)
      → each (pair_at g u i) (range n k) m ≡ after
  unfolding each
  lost-once zero k a b c d same before = absurd (omega arith)
  lost-once (suc n) k a b c d same before = go (ℕ_discrete k j) (λ r. lost-once n (suc k) (omega arith) r (omega arith) (omega arith) same (λ l o. before l (omega arith)))
    where
      go : Dec (k ≡ j) → (suc k ≤ j → each (pair_at g u i) (range n (suc k)) m ≡ after) → each (pair_at g u i) (range n (suc k)) (pair_at g u i k m) ≡ after
      go (yes q) more =
          ap (λ (y : ℕ). each (pair_at g u i) (range n (suc k)) (pair_at g u i y m)) q
          ∙ ap (each (pair_at g u i) (range n (suc k))) (sym (pair-lost g u i j m (sym first) (sym same) refl (eq-eqb (count x) 2 two) refl))
          ∙ each-idle (pair_at g u i) (range n (suc k)) after
          (λ l o. let w = mem-range n (suc k) l o in
          sym (pair-differs g u i l after (sym first-kept) refl (λ e. other l (omega (arith, w.1)) (λ q. omega (arith, w.0)) (λ r. omega (arith, w.0)) (sym e))))
      go (no q) more = ap (each (pair_at g u i) (range n (suc k))) (sym (pair-differs g u i k m (sym first) refl (λ e. before k (omega arith) (omega arith) (sym e)))) ∙ more (omega arith)

-- ---- one turn of the code: nine are the masks of the unit's open cells

module _ (g m nine : List ℕ) (u i : ℕ) (h : i < 9) (is : nine ≡ unit_masks g m u) where
  mask : (j : ℕ) → j < 9 → at nine j ≡ open_mask g m (unit_cell u j)
  mask j k = ap (λ (l : List ℕ). at l j) is ∙ unit-mask g m u j k

  -- past the units no cell is open
  in-units : count (at nine i) ≡ 2 → u < 27
  in-units two = go (dec_lt u 27)
    where
      go : Dec (u < 27) → u < 27
      go (yes r) = r
      go (no r) = absurd (omega (arith, two, ap count (mask i h ∙ ap (λ (cs : List ℕ). open_mask g m (get_or cs i 81)) (past-table u (omega arith))) ∙ count_none))

  pub pair_turn_lem : {j places : ℕ} → j ≡ pair_of nine i → j < 9 → places ≡ all_but i j → lose_places (is_open g) u places (at nine i) m ≡ each (pair_at g u i) (above i 9) m
  unfolding pair_of twin_of
  pair_turn_lem {j} {places} found k rest = go (eqb (count (at nine i)) 2) refl
    where
      go : (t : Bool) → eqb (count (at nine i)) 2 ≡ t → lose_places (is_open g) u places (at nine i) m ≡ each (pair_at g u i) (above i 9) m
      go true t =
          let two = eqb-true (count (at nine i)) 2 t in
          let q : j ≡ twin_in nine (at nine i) (above i 9) = found ∙ cond-true (eqb (count (at nine i)) 2) (twin_of nine i) 9 t in
          let w = subst (Twin nine (at nine i) (9 - (i + 1)) (i + 1)) (sym q) (twin-some nine (at nine i) (9 - (i + 1)) (i + 1) (subst (λ (y : ℕ). y < 9) q k)) in
          ap (λ (ps : ℕ). lose_places (is_open g) u ps (at nine i) m) rest
          ∙ sym (lost-once g m u i j (in-units two) h k (at nine i) two (sym (mask i h)) (9 - (i + 1)) (i + 1) (omega arith) w.from w.below (omega arith) (sym (mask j k) ∙ w.same)
          (λ l a b e. w.before l a b (mask l (omega arith) ∙ e)))
      go false t = absurd (omega (arith, k, found ∙ cond-false (eqb (count (at nine i)) 2) (twin_of nine i) 9 t))

  pub pair-none : {j : ℕ} → j ≡ pair_of nine i → 9 ≤ j → m ≡ each (pair_at g u i) (above i 9) m
  unfolding pair_of twin_of
  pair-none {j} found k = first-idle g m u i (λ l o. ap (λ (y : ℕ). is_pair y (open_mask g m (unit_cell u l))) (sym (mask i h)) ∙ go l o (eqb (count (at nine i)) 2) refl)
    where
      go : (l : ℕ) → Memᴰ l (above i 9) → (t : Bool) → eqb (count (at nine i)) 2 ≡ t → is_pair (at nine i) (open_mask g m (unit_cell u l)) ≡ false
      go l o true t =
          ap (λ (s : Bool). s && eqb (at nine i) (open_mask g m (unit_cell u l))) t
          ∙ ne_eqb (at nine i) (open_mask g m (unit_cell u l))
          (λ e. twin-none nine (at nine i) (above i 9) (λ y n. (in-above i 9 y n).1) (subst (λ (y : ℕ). 9 ≤ y) (found ∙ cond-true (eqb (count (at nine i)) 2) (twin_of nine i) 9 t) k) l o
          (mask l (in-above i 9 l o).1 ∙ sym e))
      go l o false t = ap (λ (s : Bool). s && eqb (at nine i) (open_mask g m (unit_cell u l))) t

-- ---- a unit without twins among its masks of two digits changes nothing

module _ (g m : List ℕ) (u : ℕ) (h : u < 27) where
  two-mask : (i : ℕ) → i < 9 → at (all_masks (pair_masks g m) u) i ≡ two_of (open_mask g m (unit_cell u i))
  unfolding pair_masks
  two-mask i k =
      all-mask (pair_masks g m) u i h k ∙ at-up_to (λ c. cond (is_open g c) (two_of (at m c)) 0) 0 81 (unit_cell u i) (cell_below u i h k)
      ∙ go (is_open g (unit_cell u i)) ∙ sym (ap two_of (open-mask g m (unit_cell u i) (cell_below u i h k)))
    where
      go : (t : Bool) → cond t (two_of (at m (unit_cell u i))) 0 ≡ two_of (cond t (at m (unit_cell u i)) 0)
      go true = refl
      go false = sym (ap (λ (n : ℕ). cond (eqb n 2) 0 0) count_none)

  pub unit-idle : {nine pairs : List ℕ} → nine ≡ all_masks pairs u → pairs ≡ pair_masks g m → no_twins nine ≡ true → m ≡ unit_pairs g u m
  unfolding unit_pairs no_twins twin_of
  unit-idle {nine} {pairs} is made none = sym (each-idle (λ i. each (pair_at g u i) (above i 9)) (up_to 9) m (λ i l. sym (first-idle g m u i (λ j o. one i l j o))))
    where
      masks : (i : ℕ) → i < 9 → at nine i ≡ two_of (open_mask g m (unit_cell u i))
      masks i k = ap (λ (l : List ℕ). at l i) (is ∙ ap (λ (l : List ℕ). all_masks l u) made) ∙ two-mask i k

      one : (i : ℕ) → Memᴰ i (up_to 9) → (j : ℕ) → Memᴰ j (above i 9) → is_pair (open_mask g m (unit_cell u i)) (open_mask g m (unit_cell u j)) ≡ false
      one i l j o = bool-no (is_pair a b) (λ t.
          let two = both_left (eqb (count a) 2) (eqb a b) t in
          let q = eqb-true a b (both_right (eqb (count a) 2) (eqb a b) t) in
          let x : at nine i ≡ a = masks i (in-up_to 9 i l) ∙ cond-true (eqb (count a) 2) a 0 two in
          let y : at nine j ≡ at nine i = masks j (in-above i 9 j o).1 ∙ sym (ap two_of q) ∙ sym (masks i (in-up_to 9 i l)) in
          ⊎_elim (λ z. omega (arith, eqb-true (count a) 2 two, ap count (sym x ∙ eqb-true (at nine i) 0 z) ∙ count_none))
          (λ k. twin-none nine (at nine i) (above i 9) (λ y n. (in-above i 9 y n).1) (leb-true 9 (twin_of nine i) k) j o y)
          ((either (eqb (at nine i) 0) (leb 9 (twin_of nine i))).0 (all-member (λ i. eqb (at nine i) 0 || leb 9 (twin_of nine i)) (up_to 9) none i l)))
        where
          a : ℕ
          a = open_mask g m (unit_cell u i)

          b : ℕ
          b = open_mask g m (unit_cell u j)

-- ---- the turns of module 3

-- an empty mask has no two digits
none-two : (x : ℕ) → (eqb (count x) 2 && eqb x 0) ≡ false
none-two x = go (eqb x 0) refl
  where
    go : (t : Bool) → eqb x 0 ≡ t → (eqb (count x) 2 && eqb x 0) ≡ false
    go true e = ap (λ (y : ℕ). eqb (count y) 2 && eqb y 0) (eqb-true x 0 e) ∙ ap (λ (n : ℕ). eqb n 2 && true) count_none
    go false e = ap (λ (t : Bool). eqb (count x) 2 && t) e ∙ and-false (eqb (count x) 2)

same_test : (g m : List ℕ) (c e : ℕ) → c < 81 → e < 81 → is_pair (open_mask g m c) (open_mask g m e) ≡ is_naked_pair g m c e
same_test g m c e h k =
    ap (λ (x : ℕ). is_pair x (open_mask g m e)) (open-mask g m c h) ∙ ap (is_pair (cond (is_open g c) (at m c) 0)) (open-mask g m e k)
    ∙ go (is_open g c) (is_open g e) (at m c) (at m e)
  where
    go : (s t : Bool) (x y : ℕ) → is_pair (cond s x 0) (cond t y 0) ≡ (s && t && eqb x y && eqb (count x) 2)
    go true true x y = and_comm (eqb (count x) 2) (eqb x y)
    go true false x y = none-two x
    go false t x y = ap (λ (n : ℕ). eqb n 2 && eqb 0 (cond t y 0)) count_none

module _ (g : List ℕ) (u i j : ℕ) (h : u < 27) (a : i < 9) (b : j < 9) (m : List ℕ) where
  c : ℕ
  c = unit_cell u i

  e : ℕ
  e = unit_cell u j

  pub pair_is : pair_at g u i j m ≡ naked_pair_at g u (unit_cell u i) (unit_cell u j) m
  unfolding pair_at naked_pair_at c e
  pair_is = go (is_naked_pair g m c e) refl
    where
      go : (t : Bool) → is_naked_pair g m c e ≡ t → cond (is_pair (open_mask g m c) (open_mask g m e)) (lose_places (is_open g) u (all_but i j) (open_mask g m c) m) m
          ≡ cond (is_naked_pair g m c e) (lose_all (is_open g) (unit u) (naked_pair_loss m c e) m) m
      go true t =
          cond-true (is_pair (open_mask g m c) (open_mask g m e)) (lose_places (is_open g) u (all_but i j) (open_mask g m c) m) m (same_test g m c e (cell_below u i h a) (cell_below u j h b) ∙ t)
          ∙ ap (λ (x : ℕ). lose_places (is_open g) u (all_but i j) x m) (open-mask g m c (cell_below u i h a) ∙ cond-true (is_open g c) (at m c) 0 (first-open (is_open g c) (is_open g e) (eqb (at m c) (at m e)) (eqb (count (at m c)) 2) t))
          ∙ two-spared u h (is_open g) i j (at m c) a b m
          ∙ sym (cond-true (is_naked_pair g m c e) (lose_all (is_open g) (unit u) (naked_pair_loss m c e) m) m t)
      go false t =
          cond-false (is_pair (open_mask g m c) (open_mask g m e)) (lose_places (is_open g) u (all_but i j) (open_mask g m c) m) m (same_test g m c e (cell_below u i h a) (cell_below u j h b) ∙ t)
          ∙ sym (cond-false (is_naked_pair g m c e) (lose_all (is_open g) (unit u) (naked_pair_loss m c e) m) m t)

pub pairs-are : (g m : List ℕ) → each (unit_pairs g) (up_to 27) m ≡ naked_pairs g m
unfolding unit_pairs naked_pairs
pairs-are g m =
    each_same (λ u. each (λ i. each (pair_at g u i) (above i 9)) (up_to 9))
    (λ u. each (λ i. each (λ j. naked_pair_at g u (unit_cell u i) (unit_cell u j)) (above i 9)) (up_to 9)) (up_to 27)
    (λ u k. each_same (λ i. each (pair_at g u i) (above i 9)) (λ i. each (λ j. naked_pair_at g u (unit_cell u i) (unit_cell u j)) (above i 9)) (up_to 9)
    (λ i l. each_same (pair_at g u i) (λ j. naked_pair_at g u (unit_cell u i) (unit_cell u j)) (above i 9)
    (λ j n. pair_is g u i j (in-up_to 27 u k) (in-up_to 9 i l) (in-above i 9 j n).1)))
    m
