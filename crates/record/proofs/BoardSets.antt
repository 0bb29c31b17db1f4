-- A board and its sections' sets: each determines the other, and the sets are such as a section holds. Assumes nothing.
use mathlib.Core.Path.{◌≡◌, refl, sym, ap, ◌∙◌, subst}
use mathlib.Core.Bool.{Bool, true, false, cond, not, or-true}
use mathlib.Core.List.{List, map}
use Prim.Native.Nat.{ℕ, suc, ◌+◌, ◌-◌, ◌*◌, ◌/◌, ◌%◌, ◌^◌, ◌≤◌, ◌<◌, zero-le}
use native.Mathlib.Decide.{ℕ_discrete, dec_lt}
use native.Mathlib.Omega.{arith}
use borrow.Author.Tests.{eq-eqb, ne_eqb, eqb-true, eqb-false, le-leb}
use lib.Bits.{and_zero_r}
use lib.Dec.{eqb, eqb→eq, leb, lit<}
use lib.IntN.{ℤ, pos}
use lib.ListN.{length, get_or, get_or-replicate}
use lib.Seq.{ext_get_or}
use Rattle.candidates.specs.Masks.{has, minus, place_mask, lowest, first_place, Sub}
use Rattle.candidates.proofs.FewDigits.{lowest-in}
use Rattle.candidates.proofs.Held.{Held, held_all, held_below, held-ext, held-minus, held-power, none-held, sub_held}
use Rattle.candidates.proofs.Membership.{bit-minus, ext, place-single}
use Rattle.candidates.proofs.Order.{minus-none, minus-sub, sub-le, sub-none}
use Rattle.candidates.proofs.Tests.{below, by-test, cond-true, cond-false}
use Rattle.grid.specs.Cells.{cells}
use Rattle.grid.proofs.Cells.{cells-size, at_cells, past-cells}
use Rattle.steps.specs.Boards.{at, digit_of, no_digit, given, givens_of, given_mask, is_open, fresh, Givens, Admissible}
use Rattle.steps.specs.Calls.{Clues, Entries, bad_clue, bad_entry}
use Rattle.steps.proofs.Check.{given-clue, good-digit, clues-givens}
use Rattle.steps.proofs.Entries.{entry-alone, entry-fits}
use Rattle.steps.proofs.Fresh.{fresh-out, fresh-small, given_mask-small}
use Rattle.steps.proofs.FreshDigits.{held-given}
use Rattle.record.specs.declared.sections.Section.TheVariants as section
use Rattle.record.specs.Records.{digit_sets, lacking, all_sets, digit_in, digits_in, open_sets, clues_from}
use Rattle.record.specs.Sections.{in_sets}
use Rattle.record.proofs.CandidateLists.{in_cell}
use Rattle.record.proofs.SectionLaws.{Holds}

-- ---- 81 sets made cell by cell

module _ (f : ℕ → ℕ) where
  in_map : (j : ℕ) → in_sets (map f cells) j ≡ true → (j / 9 < 81) × Held (f (j / 9)) (j % 9)
  in_map j t = go (dec_lt (j / 9) 81)
    where
      go : Dec (j / 9 < 81) → (j / 9 < 81) × Held (f (j / 9)) (j % 9)
      go (yes h) = (h, ap (λ (x : ℕ). has x (j % 9)) (sym (at_cells 0 f (j / 9) h)) ∙ t)
      go (no h) = absurd (none-held (j % 9) (ap (λ (x : ℕ). has x (j % 9)) (sym (past-cells 0 f (j / 9) (omega arith))) ∙ t))

  map-in : (j : ℕ) → j / 9 < 81 → Held (f (j / 9)) (j % 9) → in_sets (map f cells) j ≡ true
  map-in j h t = ap (λ (x : ℕ). has x (j % 9)) (at_cells 0 f (j / 9) h) ∙ t

  map-small : ((c : ℕ) → f c < 512) → (c : ℕ) → at (map f cells) c < 512
  map-small small c = go (dec_lt c 81)
    where
      go : Dec (c < 81) → at (map f cells) c < 512
      go (yes h) = rw (at_cells 0 f c h) (small c)
      go (no h) = rw (past-cells 0 f c (omega arith)) (lit< tt)

  -- a list of 81 with the same members
  map-ext : (s : List ℕ) → length s ≡ 81 → ((c : ℕ) → c < 81 → f c ≡ at s c) → map f cells ≡ s
  map-ext s l h = ext_get_or 0 (map f cells) s (cells-size f ∙ sym l) (λ c k. at_cells 0 f c (omega (arith, cells-size f)) ∙ h c (omega (arith, cells-size f)))

-- ---- clues

power-digit : (d : ℕ) → d < 9 → digit_in (2 ^ d) ≡ suc d
unfolding first_place
power-digit d h = eqb→eq (digit_in (2 ^ d)) (suc d) (below 9 (λ d. eqb (digit_in (2 ^ d)) (suc d)) tt d h)

module _ (g : List ℕ) (ok : Givens g) where
  clue-in : (j : ℕ) → in_sets (digit_sets g) j ≡ true → (j / 9 < 81) × (given g (j / 9) ≡ suc (j % 9))
  unfolding digit_sets
  clue-in j t = let w = in_map (given_mask g) j t in (w.0, (held-given g ok (j / 9) (j % 9)).0 w.1)

  -- of free sets that have every digit in a given cell
  pub digits-hold : (free : List ℕ) → ((c : ℕ) → c < 81 → is_open g c ≡ false → at free c ≡ 511) → Holds section.Digits free (digit_sets g)
  unfolding digit_sets
  digits-hold free all =
      record {
        size = cells-size (given_mask g);
        small = map-small (given_mask g) (given_mask-small g ok);
        fits = λ a b t u h. apart a b (clue-in a t).1 (clue-in b u).1 h (dec_lt b (9 * (a / 9 + 1)));
        within = λ j t. ap (λ (x : ℕ). has x (j % 9)) (all (j / 9) (clue-in j t).0 (ne_eqb (given g (j / 9)) 0 (λ e. absurd (omega (arith, (clue-in j t).1))))) ∙ held_all (j % 9) (omega arith);
      }
    where
      apart : (a b : ℕ) → given g (a / 9) ≡ suc (a % 9) → given g (b / 9) ≡ suc (b % 9) → a < b → Dec (b < 9 * (a / 9 + 1)) → 9 * (a / 9 + 1) ≤ b
      apart a b p q h (yes l) =
          let c : a / 9 ≡ b / 9 = omega arith in
          absurd (omega (arith, p, q, ap (given g) c))
      apart a b p q h (no l) = omega arith

  pub clues-hold : Holds section.Digits all_sets (digit_sets g)
  clues-hold = digits-hold all_sets (λ c h o. get_or-replicate 81 c 511 0 h)

  pub digits-again : digits_in (digit_sets g) ≡ g
  unfolding digits_in digit_sets
  digits-again = map-ext (λ c. digit_in (at (map (given_mask g) cells) c)) g ok.size (λ c h. ap digit_in (at_cells 0 (given_mask g) c h) ∙ one c (is_open g c) refl)
    where
      one : (c : ℕ) (b : Bool) → is_open g c ≡ b → digit_in (given_mask g c) ≡ given g c
      one c true o = ap digit_in (cond-true (is_open g c) 0 (place_mask (given g c - 1)) o) ∙ sym (eqb-true (given g c) 0 o)
      one c false o =
          let n : given g c - 1 < 9 = omega (arith, ok.small c) in
          ap digit_in (cond-false (is_open g c) 0 (place_mask (given g c - 1)) o ∙ place-single (given g c - 1) (omega arith))
          ∙ power-digit (given g c - 1) n ∙ omega (arith, eqb-false (given g c) 0 o)

  pub givens-again : givens_of (clues_from g) ≡ g
  unfolding givens_of cells
  givens-again =
      map-ext (λ c. digit_of (get_or (clues_from g) c (pos 0))) g ok.size
      (λ c h. ap digit_of (at_cells (pos 0) (λ c. pos (given g c)) c h) ∙ cond-true (leb (given g c) 9) (given g c) 0 (le-leb (given g c) 9 (ok.small c)))

pub clues-good : (g : List ℕ) → Givens g → Clues (clues_from g)
unfolding cells
clues-good g ok =
    record {
      size = refl;
      good = λ c h. ap bad_clue (at_cells (pos 0) (λ c. pos (given g c)) c h) ∙ ap not (le-leb (given g c) 9 (ok.small c));
    }

pub clues-again : (clues : List ℤ) → Clues clues → clues_from (givens_of clues) ≡ clues
unfolding cells
clues-again clues ok =
    ext_get_or (pos 0) (clues_from (givens_of clues)) clues (sym ok.size)
    (λ c h. at_cells (pos 0) (λ c. pos (given (givens_of clues) c)) c h
    ∙ ap pos (given-clue clues c h) ∙ good-digit (get_or clues c (pos 0)) (ok.good c h))

-- ---- entries

-- any digit is free where there is no clue
free-at : (clues : List ℤ) (c : ℕ) → c < 81 → is_open (givens_of clues) c ≡ true → at (open_sets (givens_of clues) all_sets) c ≡ 511
unfolding open_sets
free-at clues c h o =
    at_cells 0 (λ c. cond (is_open (givens_of clues) c) (at all_sets c) 0) c h ∙ cond-true (is_open (givens_of clues) c) (at all_sets c) 0 o ∙ get_or-replicate 81 c 511 0 h

pub entries-hold : (clues entries : List ℤ) → Entries clues entries → Holds section.Digits (open_sets (givens_of clues) all_sets) (digit_sets (givens_of entries))
entries-hold clues entries en = digits-hold (givens_of entries) (clues-givens entries) (open_sets (givens_of clues) all_sets) (λ c h o. free-at clues c h (unclued c h o))
  where
    unclued : (c : ℕ) → c < 81 → is_open (givens_of entries) c ≡ false → is_open (givens_of clues) c ≡ true
    unclued c h o =
        ap (λ (d : ℕ). eqb d 0) (given-clue clues c h)
        ∙ entry-alone (get_or clues c (pos 0)) (get_or entries c (pos 0)) (en.good c h)
        (λ z. eqb-false (given (givens_of entries) c) 0 o (given-clue entries c h ∙ ap digit_of z))

-- entries are clues but for the clues beside them
pub entries-clues : (clues entries : List ℤ) → Entries clues entries → Clues entries
entries-clues clues entries en = record { size = en.size; good = λ c h. entry-fits (get_or clues c (pos 0)) (get_or entries c (pos 0)) (en.good c h) }

-- the sets of a clue section that was read
module _ (free s : List ℕ) (h : Holds section.Digits free s) where
  own : (c : ℕ) → (at s c ≡ 0 → ⊥) → Held (at s c) (lowest (at s c))
  own c n = lowest-in (at s c) (omega arith) (omega (arith, h.small c))

  -- the only digit of a cell
  alone : (c d : ℕ) → (at s c ≡ 0 → ⊥) → Held (at s c) d → d ≡ lowest (at s c)
  alone c d n t = go (ℕ_discrete d (lowest (at s c)))
    where
      two : (a b : ℕ) → a < 9 → b < 9 → Held (at s c) a → Held (at s c) b → a < b → ⊥
      two a b la lb ta tb l = omega (arith, h.fits (9 * c + a) (9 * c + b) (in_cell s c a la ∙ ta) (in_cell s c b lb ∙ tb) (omega arith))

      go : Dec (d ≡ lowest (at s c)) → d ≡ lowest (at s c)
      go (yes q) = q
      go (no q) =
          let u = own c n in
          let ld : d < 9 = held_below (at s c) 9 d (h.small c) t in
          let lp : lowest (at s c) < 9 = held_below (at s c) 9 (lowest (at s c)) (h.small c) u in
          order (dec_lt d (lowest (at s c))) ld lp u
        where
          order : Dec (d < lowest (at s c)) → d < 9 → lowest (at s c) < 9 → Held (at s c) (lowest (at s c)) → d ≡ lowest (at s c)
          order (yes l) ld lp u = absurd (two d (lowest (at s c)) ld lp t u l)
          order (no l) ld lp u = absurd (two (lowest (at s c)) d lp ld u t (omega arith))

  digit_at : (c : ℕ) → c < 81 → given (digits_in s) c ≡ digit_in (at s c)
  unfolding digits_in
  digit_at c l = at_cells 0 (λ c. digit_in (at s c)) c l

  digit-most : (c : ℕ) → digit_in (at s c) ≤ 9
  digit-most c =
      by-test (λ (n : ℕ). n ≤ 9) (eqb (at s c) 0) 0 (lowest (at s c) + 1) (λ t. zero-le)
      (λ t. omega (arith, held_below (at s c) 9 (lowest (at s c)) (h.small c) (own c (eqb-false (at s c) 0 t))))

  pub digits-good : Givens (digits_in s)
  unfolding digits_in
  digits-good = record { size = cells-size (λ c. digit_in (at s c)); small = λ c. go c (dec_lt c 81) }
    where
      go : (c : ℕ) → Dec (c < 81) → given (map (λ c. digit_in (at s c)) cells) c ≤ 9
      go c (yes l) = rw (at_cells 0 (λ c. digit_in (at s c)) c l) (digit-most c)
      go c (no l) = rw (past-cells 0 (λ c. digit_in (at s c)) c (omega arith)) zero-le

  pub digit-sets-again : digit_sets (digits_in s) ≡ s
  unfolding digit_sets
  digit-sets-again = map-ext (given_mask (digits_in s)) s h.size (λ c l. mask c (given (digits_in s) c) (digit_at c l) (ℕ_discrete (at s c) 0))
    where
      mask : (c n : ℕ) → n ≡ digit_in (at s c) → Dec (at s c ≡ 0) → cond (eqb n 0) 0 (place_mask (n - 1)) ≡ at s c
      mask c n e (yes q) =
          let z : n ≡ 0 = e ∙ cond-true (eqb (at s c) 0) 0 (lowest (at s c) + 1) (eq-eqb (at s c) 0 q) in
          cond-true (eqb n 0) 0 (place_mask (n - 1)) (eq-eqb n 0 z) ∙ sym q
      mask c n e (no q) =
          let p = lowest (at s c) in
          let u : Held (at s c) p = own c q in
          let l : p < 9 = held_below (at s c) 9 p (h.small c) u in
          let m : n ≡ p + 1 = e ∙ cond-false (eqb (at s c) 0) 0 (p + 1) (ne_eqb (at s c) 0 q) in
          let o : n - 1 ≡ p = omega arith in
          cond-false (eqb n 0) 0 (place_mask (n - 1)) (ne_eqb n 0 (λ z. absurd (omega arith))) ∙ ap place_mask o ∙ place-single p (omega arith)
          ∙ held-ext (2 ^ p) (at s c) (λ d. (λ t. subst (λ (x : ℕ). Held (at s c) x) (sym ((held-power p d).0 t)) u, λ t. (held-power p d).1 (alone c d q t)))

-- the sets of an entry section that was read: no entry stands on a clue
pub entries-good : (clues : List ℤ) (s : List ℕ) → Holds section.Digits (open_sets (givens_of clues) all_sets) s → Entries clues (clues_from (digits_in s))
unfolding open_sets cells
entries-good clues s h =
    let free = open_sets (givens_of clues) all_sets in
    record { size = refl; good = λ c l. ap (bad_entry (get_or clues c (pos 0))) (number c l) ∙ good c l (digit_in (at s c)) (digit-most free s h c) refl (ℕ_discrete (at s c) 0) }
  where
    number : (c : ℕ) → c < 81 → get_or (clues_from (digits_in s)) c (pos 0) ≡ pos (digit_in (at s c))
    number c l = at_cells (pos 0) (λ c. pos (given (digits_in s) c)) c l ∙ ap pos (digit_at (open_sets (givens_of clues) all_sets) s h c l)

    -- its digit is free, so that the cell has no clue
    unclued : (c : ℕ) → c < 81 → (at s c ≡ 0 → ⊥) → no_digit (get_or clues c (pos 0)) ≡ true
    unclued c l n = sym (ap (λ (d : ℕ). eqb d 0) (given-clue clues c l)) ∙ go (is_open (givens_of clues) c) refl
      where
        held : Held (at s c) (lowest (at s c))
        held = own (open_sets (givens_of clues) all_sets) s h c n

        low : lowest (at s c) < 9
        low = held_below (at s c) 9 (lowest (at s c)) (h.small c) held

        is_free : Held (cond (is_open (givens_of clues) c) (at all_sets c) 0) (lowest (at s c))
        is_free =
            sym (ap (λ (x : ℕ). has x (lowest (at s c))) (at_cells 0 (λ c. cond (is_open (givens_of clues) c) (at all_sets c) 0) c l))
            ∙ sym (in_cell (map (λ c. cond (is_open (givens_of clues) c) (at all_sets c) 0) cells) c (lowest (at s c)) low)
            ∙ h.within (9 * c + lowest (at s c)) (in_cell s c (lowest (at s c)) low ∙ held)

        go : (b : Bool) → is_open (givens_of clues) c ≡ b → is_open (givens_of clues) c ≡ true
        go true o = o
        go false o = absurd (none-held (lowest (at s c)) (ap (λ (x : ℕ). has x (lowest (at s c))) (sym (cond-false (is_open (givens_of clues) c) (at all_sets c) 0 o)) ∙ is_free))

    good : (c : ℕ) → c < 81 → (n : ℕ) → n ≤ 9 → n ≡ digit_in (at s c) → Dec (at s c ≡ 0) → bad_entry (get_or clues c (pos 0)) (pos n) ≡ false
    good c l n m e (yes q) = ap (λ (n : ℕ). bad_entry (get_or clues c (pos 0)) (pos n)) (e ∙ cond-true (eqb (at s c) 0) 0 (lowest (at s c) + 1) (eq-eqb (at s c) 0 q))
    good c l n m e (no q) = rw (le-leb n 9 m, unclued c l q, or-true (eqb n 0))

-- ---- removals

-- what is lacking of what is lacking
pub lacking-twice : (f s : List ℕ) → length s ≡ 81 → ((c : ℕ) → c < 81 → Sub (at s c) (at f c)) → lacking f (lacking f s) ≡ s
unfolding lacking
lacking-twice f s l h =
    map-ext (λ c. minus (at f c) (at (map (λ c. minus (at f c) (at s c)) cells) c)) s l
    (λ c k. ap (minus (at f c)) (at_cells 0 (λ c. minus (at f c) (at s c)) c k) ∙ twice (at f c) (at s c) (h c k))
  where
    twice : (x y : ℕ) → Sub y x → minus x (minus x y) ≡ y
    twice x y p = ext (minus x (minus x y)) y (λ d. omega (arith, bit-minus x (minus x y) d, bit-minus x y d, p.at d))

module _ (g : List ℕ) (ok : Givens g) where
  module _ (m : List ℕ) (a : Admissible g m) where
    pub removals-hold : Holds section.Removed (open_sets g (fresh g)) (lacking (fresh g) m)
    unfolding lacking open_sets
    removals-hold =
        record {
          size = cells-size (λ c. minus (at (fresh g) c) (at m c));
          small = map-small (λ c. minus (at (fresh g) c) (at m c)) (λ c. omega (arith, sub-le (minus-sub (at (fresh g) c) (at m c)), fresh-small g ok c));
          fits = λ x y t u h. omega arith;
          within = λ j t. let w = in_map (λ c. minus (at (fresh g) c) (at m c)) j t in
              map-in (λ c. cond (is_open g c) (at (fresh g) c) 0) j w.0 (still_open (j / 9) (j % 9) ((held-minus (at (fresh g) (j / 9)) (at m (j / 9)) (j % 9)).0 w.1) (is_open g (j / 9)) refl);
        }
      where
        still_open : (c d : ℕ) → Held (at (fresh g) c) d × ¬ (Held (at m c) d) → (b : Bool) → is_open g c ≡ b → Held (cond (is_open g c) (at (fresh g) c) 0) d
        still_open c d w true o = ap (λ (x : ℕ). has x d) (cond-true (is_open g c) (at (fresh g) c) 0 o) ∙ w.0
        still_open c d w false o = absurd (w.1 (ap (λ (x : ℕ). has x d) (a.clues c o) ∙ w.0))

  -- the sets of a removed section that was read
  module _ (s : List ℕ) (h : Holds section.Removed (open_sets g (fresh g)) s) where
    removable : (c d : ℕ) → Held (at s c) d → Held (cond (is_open g c) (at (fresh g) c) 0) d
    unfolding open_sets
    removable c d t =
        let l : d < 9 = held_below (at s c) 9 d (h.small c) t in
        let q : (9 * c + d) / 9 ≡ c = omega arith in
        let r : (9 * c + d) % 9 ≡ d = omega arith in
        let w = (in_map (λ c. cond (is_open g c) (at (fresh g) c) 0) (9 * c + d) (h.within (9 * c + d) (in_cell s c d l ∙ t))).1 in
        subst (λ (x : ℕ). Held (cond (is_open g c) (at (fresh g) c) 0) x) r (subst (λ (x : ℕ). Held (cond (is_open g x) (at (fresh g) x) 0) ((9 * c + d) % 9)) q w)

    pub removals-fresh : (c : ℕ) → Sub (at s c) (at (fresh g) c)
    removals-fresh c = sub_held (at s c) (at (fresh g) c) (λ d t. go d (is_open g c) refl (removable c d t))
      where
        go : (d : ℕ) (b : Bool) → is_open g c ≡ b → Held (cond (is_open g c) (at (fresh g) c) 0) d → Held (at (fresh g) c) d
        go d true o u = ap (λ (x : ℕ). has x d) (sym (cond-true (is_open g c) (at (fresh g) c) 0 o)) ∙ u
        go d false o u = absurd (none-held d (ap (λ (x : ℕ). has x d) (sym (cond-false (is_open g c) (at (fresh g) c) 0 o)) ∙ u))

    pub read-admissible : Admissible g (lacking (fresh g) s)
    unfolding lacking
    read-admissible =
        record {
          size = cells-size (λ c. minus (at (fresh g) c) (at s c));
          under = record { at = λ c. under c (dec_lt c 81) };
          clues = λ c o. clue c o (dec_lt c 81);
        }
      where
        under : (c : ℕ) → Dec (c < 81) → Sub (at (map (λ c. minus (at (fresh g) c) (at s c)) cells) c) (at (fresh g) c)
        under c (yes l) = rw (at_cells 0 (λ c. minus (at (fresh g) c) (at s c)) c l) (minus-sub (at (fresh g) c) (at s c))
        under c (no l) = rw (past-cells 0 (λ c. minus (at (fresh g) c) (at s c)) c (omega arith)) (sub-none (at (fresh g) c))

        -- a clue cell loses nothing
        empty : (c : ℕ) → is_open g c ≡ false → at s c ≡ 0
        empty c o =
            held-ext (at s c) 0
            (λ d. (λ t. absurd (none-held d (ap (λ (x : ℕ). has x d) (sym (cond-false (is_open g c) (at (fresh g) c) 0 o)) ∙ removable c d t)), λ t. absurd (none-held d t)))

        clue : (c : ℕ) → is_open g c ≡ false → Dec (c < 81) → at (map (λ c. minus (at (fresh g) c) (at s c)) cells) c ≡ at (fresh g) c
        clue c o (yes l) = at_cells 0 (λ c. minus (at (fresh g) c) (at s c)) c l ∙ ap (minus (at (fresh g) c)) (empty c o) ∙ minus-none (at (fresh g) c) 0 (and_zero_r (at (fresh g) c))
        clue c o (no l) = past-cells 0 (λ c. minus (at (fresh g) c) (at s c)) c (omega arith) ∙ sym (fresh-out g c (omega arith))
