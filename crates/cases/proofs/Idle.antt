-- When Pair and Cross remove nothing, by a test for each two cells and each two lines instead of each of their 36 instances. Assumes nothing.
use mathlib.Core.Path.{◌≡◌, refl, sym, ap, ◌∙◌, subst}
use mathlib.Core.Logic.{⊎_elim}
use mathlib.Core.Bool.{Bool, true, false, cond, not, ◌&&◌, ◌||◌}
use mathlib.Core.List.Memᴰ
use mathlib.Core.List.{List, [], ◌∷◌, ◌++◌, Memᴰ}
use Prim.Native.Nat.{ℕ, zero, suc, ◌+◌, ◌/◌, ◌%◌, ◌^◌, ◌≤◌, ◌<◌}
use native.Mathlib.Numerals.{add-one}
use native.Mathlib.Decide.{ℕ_discrete, dec_lt}
use native.Mathlib.Omega.{arith}
use borrow.Author.Tests.{eqb-true, eq-eqb, ne_eqb, ltb-true}
use lib.Bits.{bit_and}
use lib.Count.{ones_in, ones, ones_step}
use lib.Pow.{shr_lt}
use lib.Dec.{T, eqb, leb, ltb, leb→le}
use Rattle.candidates.specs.Masks.{bit, has, minus, low_nine, union, count, single, Sub}
use Rattle.candidates.proofs.Counts.{count-sub, count-proper}
use Rattle.candidates.proofs.Membership.{bit-and, bit-union, bit-none, bit-power, bit_high, bit-nine}
use Rattle.candidates.proofs.Order.{sub-le}
use Rattle.candidates.proofs.Tests.{all_below, below, below_both, by-test, T_true, both_left, both_right, or-implied}
use Rattle.grid.specs.Units.{unit, unit_cell, in_unit}
use Rattle.grid.proofs.Lists.{place-mem}
use Rattle.grid.proofs.Units.{unit-length, in_row, in-col, col-place, row-place}
use Rattle.steps.specs.Boards.{at, is_open}
use Rattle.steps.specs.Instances.{Instance, pair, cross, exchanged, both, pair_step, cross_step, step_of, pairs, crosses}
use Rattle.steps.specs.Loops.{for, all, up_to, above}
use Rattle.steps.specs.Passes.{Pair, Cross, instances, instance_taken, pass}
use Rattle.steps.specs.Ported.{spots}
use Rattle.steps.specs.Steps.{Step, lacks, applies, lose_all, step_taken}
use Rattle.steps.proofs.Digits.{both_small, bit-outside}
use Rattle.steps.proofs.Spots.{spots-lt, has-spots}
use Rattle.steps.proofs.Loops.{for-all, in-up_to, in-above, up_to-in, all-member, all_append, each-idle}
use Rattle.steps.proofs.Steps.{all_none}

-- ---- more than two digits or places, or two and then a further test

abbrev pub over_two : ℕ → Bool → Bool
over_two n more = ltb 2 n || (eqb n 2 && more)

over-two : (n : ℕ) (more : Bool) → over_two n more ≡ true → n ≤ 2 → (n ≡ 2) × (more ≡ true)
over-two n more t h = go (ltb 2 n) refl t
  where
    go : (b : Bool) → ltb 2 n ≡ b → (b || (eqb n 2 && more)) ≡ true → (n ≡ 2) × (more ≡ true)
    go true e t = absurd (omega (arith, ltb-true 2 n e))
    go false e t = (eqb-true n 2 (both_left (eqb n 2) more t), both_right (eqb n 2) more t)

two-most : (a b : ℕ) → a < 9 → b < 9 → count (both a b) ≤ 2
unfolding ones
two-most a b h k = leb→le (count (both a b)) 2 (below_both 9 9 (λ a b. leb (count (both a b)) 2) tt a b h k)

-- a part that has as many digits is the whole
same_count : {x y : ℕ} → Sub x y → count x ≡ count y → x ≡ y
same_count {x} {y} p e = go (ℕ_discrete x y)
  where
    go : Dec (x ≡ y) → x ≡ y
    go (yes q) = q
    go (no n) = absurd (omega (arith, count-proper p n))

-- the digits of a mask, counted by its nine bits
count_bits : (k x : ℕ) → x < 2 ^ k → ones_in k x ≡ count x
unfolding ones_in ones
count_bits zero x h =
    let none : x ≡ 0 = omega arith in
    rw none
count_bits (suc k) x h = ap (λ (n : ℕ). x % 2 + n) (count_bits k (x / 2) (shr_lt k 1 (rw add-one h))) ∙ sym (ones_step x)

-- a part of two digits that has two or more is the two
same-two : (a b : ℕ) {x : ℕ} (more : Bool) → a < 9 → b < 9 → Sub x (both a b) → over_two (ones_in 9 x) more ≡ true → (x ≡ both a b) × (more ≡ true)
same-two a b {x} more ha hb p t =
    let bits : ones_in 9 x ≡ count x = count_bits 9 x (omega (arith, sub-le p, both_small a b ha hb)) in
    let most : count (both a b) ≤ 2 = two-most a b ha hb in
    let less : count x ≤ count (both a b) = count-sub p in
    let w = over-two (ones_in 9 x) more t (omega arith) in
    (same_count p (omega (arith, w.0)), w.1)

rows-meet : (r : ℕ) → r < 9 → (i c : ℕ) → i < 9 → c < 9 → in_unit (9 + c) (unit_cell r i) ≡ eqb i c
rows-meet r h i c hi hc = in-col c (unit_cell r i) hc ∙ ap (λ (x : ℕ). eqb x c) (col-place r i h hi)

columns-meet : (k : ℕ) → k < 9 → (i c : ℕ) → i < 9 → c < 9 → in_unit c (unit_cell (9 + k) i) ≡ eqb i c
columns-meet k h i c hi hc = in_row c (unit_cell (9 + k) i) hc ∙ ap (λ (x : ℕ). eqb x c) (row-place k i h hi)

module _ (g m : List ℕ) where
  -- no open cell of the list has anything to lose
  abbrev pub harmless : List ℕ → (ℕ → ℕ) → Bool
  harmless hits loses = all (λ y. not (is_open g y) || eqb (bit_and (at m y) (loses y)) 0) hits

  harmless-none : (hits : List ℕ) (loses : ℕ → ℕ) → harmless hits loses ≡ true → lose_all (is_open g) hits loses m ≡ m
  harmless-none hits loses t =
      all_none (is_open g) hits loses m
      (λ c k f. eqb-true (bit_and (at m c) (loses c)) 0
      (or-implied (is_open g c) (eqb (bit_and (at m c) (loses c)) 0) (all-member (λ y. not (is_open g y) || eqb (bit_and (at m y) (loses y)) 0) hits t c k) f))

  step-idle : (s : Step) → (applies s m ≡ true → harmless s.hits s.loses ≡ true) → step_taken (is_open g) s m ≡ m
  unfolding step_taken
  step-idle s h =
      by-test (λ (n : List ℕ). n ≡ m) (applies s m) (lose_all (is_open g) s.hits s.loses m) m (λ t. harmless-none s.hits s.loses (h t)) (λ t. refl)

  -- what a cell holds, where it shares nothing with all but the digits of k
  lacking : (c k d : ℕ) → d < 9 → lacks m c (minus 511 k) ≡ true → bit (at m c) d ≤ bit k d
  lacking c k d hd t =
      let none : bit_and (at m c) (minus 511 k) ≡ 0 = eqb-true (bit_and (at m c) (minus 511 k)) 0 t in
      omega (arith, bit-and (at m c) (minus 511 k) d, ap (λ (x : ℕ). bit x d) none, bit-none d, bit-outside k d hd)

  -- ---- Pair

  -- the digits of the cells at places i and j
  abbrev pub pair_digits : ℕ → ℕ → ℕ → ℕ
  pair_digits u i j = low_nine (union (at m (unit_cell u i)) (at m (unit_cell u j)))

  abbrev pub pair_loss : ℕ → ℕ → ℕ → ℕ → ℕ
  pair_loss c e x y = cond (eqb y c || eqb y e) 0 x

  abbrev pub pair_test : ℕ → ℕ → ℕ → Bool
  pair_test u i j =
      let x = pair_digits u i j in
      let rest = harmless (unit u) (pair_loss (unit_cell u i) (unit_cell u j) x) in
      over_two (ones_in 9 x) rest

  pair-idle-at : (u i j a b : ℕ) → a < 9 → b < 9 → pair_test u i j ≡ true → step_taken (is_open g) (pair_step u (unit_cell u i) (unit_cell u j) a b) m ≡ m
  pair-idle-at u i j a b ha hb t = step-idle (pair_step u c e a b) one
    where
      c : ℕ
      c = unit_cell u i

      e : ℕ
      e = unit_cell u j

      one : applies (pair_step u c e a b) m ≡ true → harmless (unit u) (pair_loss c e (both a b)) ≡ true
      one s =
          let w = same-two a b (harmless (unit u) (pair_loss c e (pair_digits u i j))) ha hb (record { at = λ d. go d (dec_lt d 9) }) t in
          subst (λ (x : ℕ). harmless (unit u) (pair_loss c e x) ≡ true) w.0 w.1
        where
          of : (z : ℕ) → Memᴰ z (c ∷ e ∷ []) → lacks m z (minus 511 (both a b)) ≡ true
          of z k = all-member (λ z. lacks m z (minus 511 (both a b))) (c ∷ e ∷ []) s z k

          go : (d : ℕ) → Dec (d < 9) → bit (pair_digits u i j) d ≤ bit (both a b) d
          go d (yes h) =
              omega (
                arith,
                bit-nine (union (at m c) (at m e)) d h,
                bit-union (at m c) (at m e) d,
                lacking c (both a b) d h (of c (Memᴰ.head refl)),
                lacking e (both a b) d h (of e (Memᴰ.tail (Memᴰ.head refl))),
              )
          go d (no h) = omega (arith, bit_high (pair_digits u i j) 9 d (omega arith) (omega arith))

  abbrev pub pairs_test : Bool
  pairs_test = all_below 27 (λ u. all_below 9 (λ j. all_below j (λ i. pair_test u i j)))

  pub pair-idle : T pairs_test → pass g Pair m ≡ m
  unfolding pass instances pairs step_of
  pair-idle t =
      each-idle (instance_taken g) pairs m
      (for-all (λ x. instance_taken g x m ≡ m) (up_to 27) _ λ u ku.
      for-all (λ x. instance_taken g x m ≡ m) (up_to 9) _ λ i ki.
      for-all (λ x. instance_taken g x m ≡ m) (above i 9) _ λ j kj.
      for-all (λ x. instance_taken g x m ≡ m) (up_to 9) _ λ a ka.
      for-all (λ x. instance_taken g x m ≡ m) (above a 9) _ λ b kb.
      one u i j a b (in-up_to 27 u ku) (in-above i 9 j kj).0 (in-above i 9 j kj).1 (in-above a 9 b kb).0 (in-above a 9 b kb).1)
    where
      one : (u i j a b : ℕ) → u < 27 → i < j → j < 9 → a < b → b < 9 → (x : Instance) → Memᴰ x (pair u i j a b ∷ []) → instance_taken g x m ≡ m
      one u i j a b hu hi hj ha hb x k =
          subst (λ (x : Instance). instance_taken g x m ≡ m) (sym (Memᴰ.eq_of_singleton k))
          (pair-idle-at u i j a b (omega arith) hb
          (T_true (pair_test u i j)
          (below j (λ i. pair_test u i j) (below 9 (λ j. all_below j (λ i. pair_test u i j)) (below 27 (λ u. all_below 9 (λ j. all_below j (λ i. pair_test u i j))) t u hu) j hj) i hi)))

  -- ---- Cross, over lines of one direction and those across

  -- the places at which the cells of line u or of line v hold d; under no givens every cell is open
  abbrev pub cross_places : ℕ → ℕ → ℕ → ℕ
  cross_places d u v = union (spots [] m u d) (spots [] m v d)

  abbrev pub cross_loss : ℕ → ℕ → ℕ → ℕ → ℕ
  cross_loss d u v e = cond (in_unit u e || in_unit v e) 0 (single d)

  abbrev pub cross_test : (ℕ → ℕ) → ℕ → ℕ → ℕ → Bool
  cross_test across d u v =
      let s = cross_places d u v in
      let rest = all (λ i. not (has s i) || harmless (unit (across i)) (cross_loss d u v)) (up_to 9) in
      over_two (ones_in 9 s) rest

  module _ (across : ℕ → ℕ) (d a b : ℕ) (ha : a < 9) (hb : b < 9) where
    -- the lines across meet line w at the places of their numbers
    abbrev Meets : ℕ → Type 0
    Meets w = (i c : ℕ) → i < 9 → c < 9 → in_unit (across c) (unit_cell w i) ≡ eqb i c

    abbrev outside : ℕ → ℕ
    outside z = cond (in_unit (across a) z || in_unit (across b) z) 0 (single d)

    place-in : (w : ℕ) → w < 27 → Meets w → ((z : ℕ) → Memᴰ z (unit w) → lacks m z (outside z) ≡ true) → (i : ℕ) → i < 9 → bit (spots [] m w d) i ≤ bit (both a b) i
    place-in w hw meets lack i h = go (ℕ_discrete (bit (spots [] m w d) i) 1) (ℕ_discrete a i) (ℕ_discrete b i)
      where
        z : ℕ
        z = unit_cell w i

        free : lacks m z (outside z) ≡ true
        free = lack z (place-mem (unit w) 81 i (omega (arith, unit-length w hw)))

        go : Dec (bit (spots [] m w d) i ≡ 1) → Dec (a ≡ i) → Dec (b ≡ i) → bit (spots [] m w d) i ≤ bit (both a b) i
        go (no t) p q = omega arith
        go (yes t) (yes p) q = omega (arith, bit-union (2 ^ a) (2 ^ b) i, ap (bit (2 ^ a)) p, bit-power a)
        go (yes t) (no p) (yes q) = omega (arith, bit-union (2 ^ a) (2 ^ b) i, ap (bit (2 ^ b)) q, bit-power b)
        go (yes t) (no p) (no q) =
            let apart : bit_and (at m z) (2 ^ d) ≡ 0 = eqb-true (bit_and (at m z) (2 ^ d)) 0 (rw (meets i a h ha, meets i b h hb, ne_eqb i a (λ e. p (sym e)), ne_eqb i b (λ e. q (sym e))) at free) in
            let held : bit (at m z) d ≡ 1 = eqb-true (bit (at m z) d) 1 (sym (has-spots [] m w d i h) ∙ eq-eqb (bit (spots [] m w d) i) 1 t) in
            absurd (omega (arith, bit-and (at m z) (2 ^ d) d, ap (λ (x : ℕ). bit x d) apart, bit-none d, bit-power d))

    cross-idle-at : (u v : ℕ) → u < 27 → v < 27 → Meets u → Meets v → cross_test across d u v ≡ true → step_taken (is_open g) (cross_step d u v (across a) (across b)) m ≡ m
    cross-idle-at u v hu hv mu mv t = step-idle (cross_step d u v (across a) (across b)) one
      where
        s : ℕ
        s = cross_places d u v

        spare : ℕ → Bool
        spare i = harmless (unit (across i)) (cross_loss d u v)

        one : applies (cross_step d u v (across a) (across b)) m ≡ true → harmless (unit (across a) ++ unit (across b)) (cross_loss d u v) ≡ true
        one p =
            all_append (λ y. not (is_open g y) || eqb (bit_and (at m y) (cross_loss d u v y)) 0) (unit (across a)) (unit (across b)) (at_place a ha first)
            (at_place b hb second)
          where
            of : (z : ℕ) → Memᴰ z (unit u ++ unit v) → lacks m z (outside z) ≡ true
            of z k = all-member (λ z. lacks m z (outside z)) (unit u ++ unit v) p z k

            go : (i : ℕ) → Dec (i < 9) → bit s i ≤ bit (both a b) i
            go i (yes h) =
                omega (
                  arith,
                  bit-union (spots [] m u d) (spots [] m v d) i,
                  place-in u hu mu (λ z k. of z (Memᴰ.append_left (unit v) k)) i h,
                  place-in v hv mv (λ z k. of z (Memᴰ.append_right (unit u) k)) i h,
                )
            go i (no h) =
                omega (
                  arith,
                  bit-union (spots [] m u d) (spots [] m v d) i,
                  bit_high (spots [] m u d) 9 i (spots-lt [] m u d) (omega arith),
                  bit_high (spots [] m v d) 9 i (spots-lt [] m v d) (omega arith),
                )

            found : (s ≡ both a b) × (all (λ i. not (has s i) || spare i) (up_to 9) ≡ true)
            found = same-two a b (all (λ i. not (has s i) || spare i) (up_to 9)) ha hb (record { at = λ i. go i (dec_lt i 9) }) t

            first : bit s a ≡ 1
            first = ap (λ (x : ℕ). bit x a) found.0 ∙ omega (arith, bit-union (2 ^ a) (2 ^ b) a, bit-power a)

            second : bit s b ≡ 1
            second = ap (λ (x : ℕ). bit x b) found.0 ∙ omega (arith, bit-union (2 ^ a) (2 ^ b) b, bit-power b)

            at_place : (i : ℕ) → i < 9 → bit s i ≡ 1 → spare i ≡ true
            at_place i h e = or-implied (has s i) (spare i) (all-member (λ i. not (has s i) || spare i) (up_to 9) found.1 i (up_to-in 9 i h)) (eq-eqb (bit s i) 1 e)

  abbrev pub crosses_test : Bool
  crosses_test =
      all_below 9 (λ d. all_below 9 (λ s. all_below s (λ r. cross_test (λ i. 9 + i) d r s && cross_test (λ i. i) d (9 + r) (9 + s))))

  pub cross-idle : T crosses_test → pass g Cross m ≡ m
  unfolding pass instances crosses step_of
  cross-idle t = each-idle (instance_taken g) crosses m (λ x k. ⊎_elim (straight x) (turned x) (Memᴰ.append_cases _ k))
    where
      Idle : Instance → Type 0
      Idle x = instance_taken g x m ≡ m

      both-tests : ℕ → ℕ → ℕ → Bool
      both-tests d s r = cross_test (λ i. 9 + i) d r s && cross_test (λ i. i) d (9 + r) (9 + s)

      tested : (d r s : ℕ) → d < 9 → r < s → s < 9 → (cross_test (λ i. 9 + i) d r s ≡ true) × (cross_test (λ i. i) d (9 + r) (9 + s) ≡ true)
      tested d r s hd hr hs =
          let w = below s (both-tests d s) (below 9 (λ s. all_below s (both-tests d s)) (below 9 (λ d. all_below 9 (λ s. all_below s (both-tests d s))) t d hd) s hs) r hr in
          let q = T_true (both-tests d s r) w in
          (both_left (cross_test (λ i. 9 + i) d r s) (cross_test (λ i. i) d (9 + r) (9 + s)) q, both_right (cross_test (λ i. 9 + i) d r s) (cross_test (λ i. i) d (9 + r) (9 + s)) q)

      one : (x y : Instance) → Idle y → Memᴰ x (y ∷ []) → Idle x
      one x y p k = subst Idle (sym (Memᴰ.eq_of_singleton k)) p

      straight : (x : Instance) → Memᴰ x (for (up_to 9) λ d. for (up_to 9) λ r₁. for (above r₁ 9) λ r₂. for (up_to 9) λ c₁. for (above c₁ 9) λ c₂. cross d r₁ r₂ c₁ c₂ ∷ []) → Idle x
      straight =
          for-all Idle (up_to 9) _ λ d kd.
          for-all Idle (up_to 9) _ λ r kr.
          for-all Idle (above r 9) _ λ s ks.
          for-all Idle (up_to 9) _ λ a ka.
          for-all Idle (above a 9) _ λ b kb. λ x.
          one x (cross d r s a b)
          (let hs = in-above r 9 s ks in
          let hb = in-above a 9 b kb in
          let hd = in-up_to 9 d kd in
          cross-idle-at (λ i. 9 + i) d a b (omega arith) hb.1 r s (omega arith) (omega arith) (rows-meet r (omega arith)) (rows-meet s hs.1)
          (tested d r s hd hs.0 hs.1).0)

      turned : (x : Instance) → Memᴰ x (for (up_to 9) λ d. for (up_to 9) λ c₁. for (above c₁ 9) λ c₂. for (up_to 9) λ r₁. for (above r₁ 9) λ r₂. exchanged d c₁ c₂ r₁ r₂ ∷ []) → Idle x
      turned =
          for-all Idle (up_to 9) _ λ d kd.
          for-all Idle (up_to 9) _ λ r kr.
          for-all Idle (above r 9) _ λ s ks.
          for-all Idle (up_to 9) _ λ a ka.
          for-all Idle (above a 9) _ λ b kb. λ x.
          one x (exchanged d r s a b)
          (let hs = in-above r 9 s ks in
          let hb = in-above a 9 b kb in
          let hd = in-up_to 9 d kd in
          cross-idle-at (λ i. i) d a b (omega arith) hb.1 (9 + r) (9 + s) (omega arith) (omega arith) (columns-meet r (omega arith)) (columns-meet s hs.1)
          (tested d r s hd hs.0 hs.1).1)
