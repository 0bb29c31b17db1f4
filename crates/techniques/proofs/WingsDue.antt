-- X-wing over the lines and digits that need a look: a line that holds the digit at other than two places may stand in the list with none, and a
-- digit that no two lines hold at just two places does nothing. Which these are is asked once, since the X-wings of a digit change no other. Assumes nothing.
use mathlib.Core.Path.{◌≡◌, refl, sym, ap, ◌∙◌, subst}
use mathlib.Core.Logic.{◌≢◌, ◌⊎◌, inl, inr, ⊎_elim}
use mathlib.Core.Bool.{Bool, true, false, cond, ◌&&◌, true≢false}
use mathlib.Core.List.{List, [], ◌∷◌}
use Prim.Native.Nat.{ℕ, ◌+◌, ◌<◌}
use native.Mathlib.Omega.{arith}
use borrow.Author.Tests.{eq-eqb, ne_eqb, eqb-true, eqb-false}
use lib.Dec.{eqb, ltb}
use Rattle.candidates.specs.Masks.{has, count, place_mask, lowest, tail}
use Rattle.candidates.proofs.Counts.{count_none}
use Rattle.candidates.proofs.Held.{Held, held-power}
use Rattle.candidates.proofs.Tests.{by-test, bool_iff, cond-true, cond-false}
use Rattle.grid.specs.Units.{unit_cell}
use Rattle.grid.proofs.Lists.{at-up_to, each_same}
use Rattle.steps.specs.Boards.{at, is_open}
use Rattle.steps.specs.Loops.{each, up_to, above}
use Rattle.steps.specs.Steps.{lose_at}
use Rattle.steps.proofs.Loops.{in-up_to, in-above, each-idle, each_keeps}
use Rattle.steps.proofs.Losses.{lost-digits}
use Rattle.cells.specs.code.Places.{lose_in, lose_places, unit_masks, spots_in, line_spots, all_but}
use Rattle.cells.specs.code.Unions.{shared_of}
use Rattle.cells.proofs.NineBits.{place_is}
use Rattle.cells.proofs.Places.{unit-mask, gather-same}
use Rattle.cells.proofs.Shared.{twice-shared}
use Rattle.techniques.specs.declared.x_wings.Lines.{Lines}
use Rattle.techniques.specs.code.XWings.{lines_from, across_from, wing_at, wings_from, wings_in, wing_digit, twice_of, twice_sets, spots_where, two_spots}
use Rattle.techniques.proofs.HeldTwice.{twice-is}
use Rattle.techniques.proofs.XWings.{wing-kept, from-two, from-none}

-- ---- lists of places

module _ (g : List ℕ) (lines : Lines) (d : ℕ) where
  -- the same list, but for lines without just two places, which may have none
  module _ (few list : List ℕ) (alike : (i : ℕ) → i < 9 → (at few i ≡ at list i) ⊎ ((at few i ≡ 0) × (count (at list i) ≢ 2))) where
    second : (i j : ℕ) → j < 9 → count (at list i) ≡ 2 → (m : List ℕ) → wing_at g lines d i j (at list i) (at few j) m ≡ wing_at g lines d i j (at list i) (at list j) m
    second i j k two m =
        ⊎_elim (λ e. ap (λ (t : ℕ). wing_at g lines d i j (at list i) t m) e)
        (λ w.
        sym (wing-kept g lines d i j (at list i) (at few j) m (λ e. none two (ap count (e ∙ w.0) ∙ count_none)))
        ∙ wing-kept g lines d i j (at list i) (at list j) m (λ e. w.1 (sym (ap count e) ∙ two)))
        (alike j k)
      where
        none : {n : ℕ} → n ≡ 2 → n ≡ 0 → ⊥
        none p q = omega (arith, p, q)

    first : (i : ℕ) → i < 9 → (m : List ℕ) → wings_from g lines d few i m ≡ wings_from g lines d list i m
    first i h m = ⊎_elim there none (alike i h)
      where
        there : at few i ≡ at list i → wings_from g lines d few i m ≡ wings_from g lines d list i m
        there e = go (eqb (count (at list i)) 2) refl
          where
            go : (t : Bool) → eqb (count (at list i)) 2 ≡ t → wings_from g lines d few i m ≡ wings_from g lines d list i m
            go true t =
                sym (from-two g lines d few i m (ap (λ (x : ℕ). eqb (count x) 2) e ∙ t))
                ∙ each_same (λ j. wing_at g lines d i j (at few i) (at few j)) (λ j. wing_at g lines d i j (at list i) (at list j)) (above i 9)
                (λ j l n. ap (λ (x : ℕ). wing_at g lines d i j x (at few j) n) e ∙ second i j (in-above i 9 j l).1 (eqb-true (count (at list i)) 2 t) n) m
                ∙ from-two g lines d list i m t
            go false t = sym (from-none g lines d few i m (ap (λ (x : ℕ). eqb (count x) 2) e ∙ t)) ∙ from-none g lines d list i m t

        none : (at few i ≡ 0) × (count (at list i) ≢ 2) → wings_from g lines d few i m ≡ wings_from g lines d list i m
        none w =
            sym (from-none g lines d few i m (ap (λ (x : ℕ). eqb (count x) 2) w.0 ∙ ap (λ (n : ℕ). eqb n 2) count_none))
            ∙ from-none g lines d list i m (ne_eqb (count (at list i)) 2 w.1)

    wings-alike : (m : List ℕ) → wings_in g lines d few m ≡ wings_in g lines d list m
    unfolding wings_in
    wings-alike m = each_same (wings_from g lines d few) (wings_from g lines d list) (up_to 9) (λ i l. first i (in-up_to 9 i l)) m

  -- no two lines with the same two places
  wings-idle : (list m : List ℕ) → ((i j : ℕ) → i < j → j < 9 → count (at list i) ≡ 2 → at list i ≡ at list j → ⊥) → wings_in g lines d list m ≡ m
  unfolding wings_in
  wings-idle list m apart = each-idle (wings_from g lines d list) (up_to 9) m (λ i l. go i (eqb (count (at list i)) 2) refl)
    where
      go : (i : ℕ) (t : Bool) → eqb (count (at list i)) 2 ≡ t → wings_from g lines d list i m ≡ m
      go i true t =
          sym (from-two g lines d list i m t)
          ∙ each-idle (λ j. wing_at g lines d i j (at list i) (at list j)) (above i 9) m
          (λ j l. let w = in-above i 9 j l in sym (wing-kept g lines d i j (at list i) (at list j) m (apart i j w.0 w.1 (eqb-true (count (at list i)) 2 t))))
      go i false t = sym (from-none g lines d list i m t)

-- ---- masks that hold the same of a digit, in every cell

abbrev pub Alike : ℕ → List ℕ → List ℕ → Type 0
Alike e m n = (c : ℕ) → has (at m c) e ≡ has (at n c) e

spots-alike : (g m n : List ℕ) (d u : ℕ) → Alike d m n → spots_in (unit_masks g m u) d ≡ spots_in (unit_masks g n u) d
unfolding spots_in
spots-alike g m n d u same =
    gather-same (λ i. has (at (unit_masks g m u) i) d) (λ i. has (at (unit_masks g n u) i) d) 9
    (λ i h. ap (λ (x : ℕ). has x d) (unit-mask g m u i h) ∙ go (ltb (unit_cell u i) 81) (is_open g (unit_cell u i)) (at m (unit_cell u i)) (at n (unit_cell u i)) (same (unit_cell u i)) ∙ sym (ap (λ (x : ℕ). has x d) (unit-mask g n u i h)))
  where
    go : (s t : Bool) (x y : ℕ) → has x d ≡ has y d → has (cond (s && t) (cond s x 0) 0) d ≡ has (cond (s && t) (cond s y 0) 0) d
    go true true x y e = e
    go true false x y e = refl
    go false t x y e = refl

module _ (g : List ℕ) (d e : ℕ) (hd : d < 9) (other : e ≢ d) where
  abbrev Kept : List ℕ → ℕ → List ℕ → Type 0
  Kept m c n = has (at n c) e ≡ has (at m c) e

  cell-alike : (x c : ℕ) (m : List ℕ) → Kept m c (lose_at (is_open g) x (place_mask d) m)
  unfolding each
  cell-alike x c m =
      let w = lost-digits (is_open g) (λ _. place_mask d) (x ∷ []) m c e in
      bool_iff (has (at (lose_at (is_open g) x (place_mask d) m) c) e) (has (at m c) e) (λ t. (w.0 t).0)
      (λ t. w.1 (t, λ l. other ((held-power d e).0 (subst (λ (k : ℕ). Held k e) (place_is d hd) l.digit))))

  lose-alike : (u ps c : ℕ) (m : List ℕ) → Kept m c (lose_places (is_open g) u ps (place_mask d) m)
  unfolding lose_places
  lose-alike u ps c m =
      each_keeps (λ i n. cond (has ps i) (lose_in (is_open g) (unit_cell u i) (place_mask d) n) n) (Kept m c) (up_to 9)
      (λ i l n p. by-test (Kept m c) (has ps i) (lose_in (is_open g) (unit_cell u i) (place_mask d) n) n
      (λ s. by-test (Kept m c) (ltb (unit_cell u i) 81) (lose_at (is_open g) (unit_cell u i) (place_mask d) n) n (λ t. cell-alike (unit_cell u i) c n ∙ p) (λ t. p)) (λ s. p)) m refl

  wing-alike : (lines : Lines) (i j s t c : ℕ) (m : List ℕ) → Kept m c (wing_at g lines d i j s t m)
  unfolding wing_at
  wing-alike lines i j s t c m =
      by-test (Kept m c) (eqb s t)
      (lose_places (is_open g) (across_from lines + lowest (tail s)) (all_but i j) (place_mask d) (lose_places (is_open g) (across_from lines + lowest s) (all_but i j) (place_mask d) m)) m
      (λ q. lose-alike (across_from lines + lowest (tail s)) (all_but i j) c (lose_places (is_open g) (across_from lines + lowest s) (all_but i j) (place_mask d) m)
      ∙ lose-alike (across_from lines + lowest s) (all_but i j) c m) (λ q. refl)

  from-alike : (lines : Lines) (list : List ℕ) (i c : ℕ) (m : List ℕ) → Kept m c (wings_from g lines d list i m)
  unfolding wings_from
  from-alike lines list i c m =
      by-test (Kept m c) (eqb (count (at list i)) 2) (each (λ j. wing_at g lines d i j (at list i) (at list j)) (above i 9) m) m
      (λ q. each_keeps (λ j. wing_at g lines d i j (at list i) (at list j)) (Kept m c) (above i 9) (λ j l n p. wing-alike lines i j (at list i) (at list j) c n ∙ p) m refl) (λ q. refl)

  -- the X-wings of another digit
  pub digit-alike : (lines : Lines) (m : List ℕ) → Alike e (wing_digit g lines d m) m
  unfolding wing_digit
  digit-alike lines m c =
      each_keeps (wings_from g lines d (line_spots g m (lines_from lines) d)) (Kept m c) (up_to 9) (λ i l n p. from-alike lines (line_spots g m (lines_from lines) d) i c n ∙ p) m refl

-- ---- a digit's turn, where m₀ are the masks when the sets were made

module _ (g m m₀ : List ℕ) (lines : Lines) (d : ℕ) (same : Alike d m m₀) {sets : List ℕ} (made : sets ≡ twice_sets g m₀ lines) where
  abbrev spots : ℕ → ℕ
  spots i = spots_in (unit_masks g m (lines_from lines + i)) d

  listed : (i : ℕ) → i < 9 → at (line_spots g m (lines_from lines) d) i ≡ spots i
  unfolding line_spots
  listed i h = at-up_to spots 0 9 i h

  in-set : (i : ℕ) → i < 9 → has (at sets i) d ≡ eqb (count (spots i)) 2
  unfolding twice_sets
  in-set i h =
      ap (λ (l : List ℕ). has (at l i) d) made
      ∙ ap (λ (x : ℕ). has x d) (at-up_to (λ i. twice_of (unit_masks g m₀ (lines_from lines + i))) 0 9 i h)
      ∙ twice-is (unit_masks g m₀ (lines_from lines + i)) d
      ∙ ap (λ (s : ℕ). eqb (count s) 2) (sym (spots-alike g m m₀ d (lines_from lines + i) same))

  pub digit-due : wings_in g lines d (two_spots g m lines d sets) m ≡ wing_digit g lines d m
  unfolding wings_in wing_digit two_spots
  digit-due = wings-alike g lines d (two_spots g m lines d sets) (line_spots g m (lines_from lines) d) (λ i h. go i h (has (at sets i) d) refl) m
    where
      few : (i : ℕ) → i < 9 → at (two_spots g m lines d sets) i ≡ cond (has (at sets i) d) (spots i) 0
      few i h = at-up_to (λ i. spots_where g m (lines_from lines + i) d (at sets i)) 0 9 i h

      go : (i : ℕ) → i < 9 → (t : Bool) → has (at sets i) d ≡ t
          → (at (two_spots g m lines d sets) i ≡ at (line_spots g m (lines_from lines) d) i) ⊎ ((at (two_spots g m lines d sets) i ≡ 0) × (count (at (line_spots g m (lines_from lines) d) i) ≢ 2))
      go i h true t = inl (few i h ∙ cond-true (has (at sets i) d) (spots i) 0 t ∙ sym (listed i h))
      go i h false t =
          inr (few i h ∙ cond-false (has (at sets i) d) (spots i) 0 t, λ e. eqb-false (count (spots i)) 2 (sym (in-set i h) ∙ t) (sym (ap count (listed i h)) ∙ e))

  pub digit-idle : {due : ℕ} → due ≡ shared_of sets → has due d ≡ false → m ≡ wing_digit g lines d m
  unfolding wings_in wing_digit
  digit-idle {due} is none = sym (wings-idle g lines d (line_spots g m (lines_from lines) d) m apart)
    where
      held : (i : ℕ) → i < 9 → count (at (line_spots g m (lines_from lines) d) i) ≡ 2 → Held (at sets i) d
      held i h e = in-set i h ∙ eq-eqb (count (spots i)) 2 (sym (ap count (listed i h)) ∙ e)

      apart : (i j : ℕ) → i < j → j < 9 → count (at (line_spots g m (lines_from lines) d) i) ≡ 2 → at (line_spots g m (lines_from lines) d) i ≡ at (line_spots g m (lines_from lines) d) j → ⊥
      apart i j r h two e =
          let l : i < 9 = omega arith in
          true≢false (sym (twice-shared sets d i j l h (λ q. omega arith) (held i l two) (held j h (sym (ap count e) ∙ two))) ∙ ap (λ (x : ℕ). has x d) (sym is) ∙ none)
