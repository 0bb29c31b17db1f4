-- The places of a frame's lines on the board: a cell and a digit for each, which a step of two lines takes if the line is another and the place one of its two. Assumes nothing.
use mathlib.Core.Path.{◌≡◌, refl, sym, ap, ◌∙◌, subst}
use mathlib.Core.Logic.{◌≢◌, ◌↔◌, ⊎_elim}
use mathlib.Core.Bool.{Bool, true, false, cond, ◌||◌}
use mathlib.Core.List.Memᴰ
use mathlib.Core.List.{List, Memᴰ}
use Prim.Native.Nat.{ℕ, ◌+◌, ◌-◌, ◌<◌}
use native.Mathlib.Omega.{arith}
use borrow.Author.Tests.{eqb-true, eqb-false, ne_eqb}
use lib.Dec.{eqb}
use Rattle.candidates.specs.Masks.{has, single}
use Rattle.candidates.proofs.Held.{Held, none-held, held_all, held-power, held_both, held_below}
use Rattle.candidates.proofs.Order.{sub-le}
use Rattle.candidates.proofs.Tests.{neither}
use Rattle.grid.specs.Units.{unit, unit_cell, in_unit, Member}
use Rattle.grid.proofs.Lists.{at-up_to}
use Rattle.grid.proofs.Units.{cell_below, cells-differ, at_place, member-in, member-mem, mem-member}
use Rattle.steps.specs.Boards.{at, is_open}
use Rattle.steps.specs.Instances.{both}
use Rattle.steps.proofs.Losses.{held-unless}
use Rattle.cells.proofs.Crossings.{Crossing}
use Rattle.cells.proofs.HeldPlaces.{has-held}
use Rattle.cells.proofs.NineBits.{both-sub}
use Rattle.lanes.specs.code.Lanes.{doors_of}
use Rattle.pair_cross.specs.code.Twos.{Framed, line_held}
use Rattle.pair_cross.specs.declared.twos.Frame.{Frame}
use Rattle.pair_cross.specs.declared.twos.Frame.TheVariants.{Unit, Lines}
use Rattle.pair_cross.proofs.Frames.{crossing, crossed}
use Rattle.pair_cross.proofs.TwoTurns.{Gone, held-left, held-right}

-- the cell of place c of line k, and the digit it stands for
abbrev pub cell_of : Frame → ℕ → ℕ → ℕ
cell_of (Unit u) k c = unit_cell u k
cell_of (Lines f d) k c = unit_cell (f + k) c

abbrev pub digit_of : Frame → ℕ → ℕ
digit_of (Unit u) c = c
digit_of (Lines f d) c = d

-- an open cell of a line other than two, at one of two places
pub record Taking (g : List ℕ) (F : Frame) (i j : ℕ) (places k c : ℕ) : Type 0 where
  pub free : is_open g (cell_of F k c) ≡ true
  pub not_first : k ≢ i
  pub not-second : k ≢ j
  pub place : Held places c

-- a place of a line
pub record Placed (F : Frame) (e v : ℕ) : Type 0 where
  pub line : ℕ
  pub place : ℕ
  pub line-below : line < 9
  pub place-below : place < 9
  pub cell : e ≡ cell_of F line place
  pub digit : v ≡ digit_of F place

pub line-has : (m : List ℕ) (F : Frame) → Framed F → (k c : ℕ) → k < 9 → c < 9 → has (line_held m F k) c ≡ has (at m (cell_of F k c)) (digit_of F c)
line-has m (Unit u) h k c hk hc = refl
line-has m (Lines f d) h k c hk hc = has-held m (f + k) d ((crossing f h.0).below k hk) c hc

-- ---- doors

spot-below : (F : Frame) → Framed F → (k c : ℕ) → k < 9 → c < 9 → cell_of F k c < 81
spot-below (Unit u) h k c hk hc = cell_below u k h hk
spot-below (Lines f d) h k c hk hc = cell_below (f + k) c ((crossing f h.0).below k hk) hc

digit-below : (F : Frame) → Framed F → (c : ℕ) → c < 9 → digit_of F c < 9
digit-below (Unit u) h c hc = hc
digit-below (Lines f d) h c hc = h.1

-- a door is open where its cell is
pub door-open : (g : List ℕ) (F : Frame) → Framed F → (k c : ℕ) → k < 9 → c < 9 → has (line_held (doors_of g) F k) c ≡ is_open g (cell_of F k c)
unfolding doors_of
door-open g F h k c hk hc =
    line-has (doors_of g) F h k c hk hc
    ∙ ap (λ (x : ℕ). has x (digit_of F c)) (at-up_to (λ c. cond (is_open g c) 511 0) 0 81 (cell_of F k c) (spot-below F h k c hk hc))
    ∙ door (is_open g (cell_of F k c))
  where
    none : (t : Bool) → has 0 (digit_of F c) ≡ t → t ≡ false
    none true s = absurd (none-held (digit_of F c) s)
    none false s = refl

    door : (t : Bool) → has (cond t 511 0) (digit_of F c) ≡ t
    door true = held_all (digit_of F c) (digit-below F h c hc)
    door false = none (has 0 (digit_of F c)) refl

-- ---- what a step of two lines takes

module _ (g : List ℕ) (i j a b : ℕ) (hi : i < 9) (hj : j < 9) (ha : a < 9) (hb : b < 9) where
  unit-gone : (u : ℕ) → u < 27 → (k c : ℕ) → k < 9 → Gone g (Unit u) i j a b (unit_cell u k) c ↔ Taking g (Unit u) i j (both a b) k c
  unit-gone u h k c hk = (to, from)
    where
      to : Gone g (Unit u) i j a b (unit_cell u k) c → Taking g (Unit u) i j (both a b) k c
      to w =
          let v = (held-unless (eqb (unit_cell u k) (unit_cell u i) || eqb (unit_cell u k) (unit_cell u j)) (both a b) c).0 w.digit in
          let o = (neither (eqb (unit_cell u k) (unit_cell u i)) (eqb (unit_cell u k) (unit_cell u j))).0 v.0 in
          record {
            free = w.free;
            not_first = λ p. eqb-false (unit_cell u k) (unit_cell u i) o.0 (ap (unit_cell u) p);
            not-second = λ p. eqb-false (unit_cell u k) (unit_cell u j) o.1 (ap (unit_cell u) p);
            place = v.1;
          }

      from : Taking g (Unit u) i j (both a b) k c → Gone g (Unit u) i j a b (unit_cell u k) c
      from t =
          record {
            listed = member-mem h (at_place u k hk);
            free = t.free;
            digit = (held-unless (eqb (unit_cell u k) (unit_cell u i) || eqb (unit_cell u k) (unit_cell u j)) (both a b) c).1 (
              (neither (eqb (unit_cell u k) (unit_cell u i)) (eqb (unit_cell u k) (unit_cell u j))).1
                  (ne_eqb (unit_cell u k) (unit_cell u i) (cells-differ u k i h hk hi t.not_first), ne_eqb (unit_cell u k) (unit_cell u j) (cells-differ u k j h hk hj t.not-second)),
              t.place,
            );
          }

  module _ (f d : ℕ) (framed : Framed (Lines f d)) (k c : ℕ) (hk : k < 9) (hc : c < 9) where
    over : Crossing f (9 - f)
    over = crossing f framed.0

    back : Crossing (9 - f) f
    back = crossed f framed.0

    in-line : (r : ℕ) → r < 9 → in_unit (f + r) (unit_cell (f + k) c) ≡ eqb k r
    in-line r hr = ap (in_unit (f + r)) (sym (over.cell k c hk hc)) ∙ back.inside c r k hc hr hk

    crossing-place : (p : ℕ) → p < 9 → Memᴰ (unit_cell (f + k) c) (unit (9 - f + p)) → c ≡ p
    crossing-place p hp w = eqb-true c p (sym (over.inside k p c hk hp hc) ∙ member-in (back.below p hp) (mem-member (back.below p hp) w))

    crossing-listed : (p : ℕ) → c ≡ p → Memᴰ (unit_cell (f + k) c) (unit (9 - f + p))
    crossing-listed p e =
        subst (λ (x : ℕ). Memᴰ (unit_cell (f + k) c) (unit (9 - f + x))) e
        (member-mem (back.below c hc) (record { place = k; within = hk; is = over.cell k c hk hc }))

    lines-gone : Gone g (Lines f d) i j a b (unit_cell (f + k) c) d ↔ Taking g (Lines f d) i j (both a b) k c
    lines-gone = (to, from)
      where
        to : Gone g (Lines f d) i j a b (unit_cell (f + k) c) d → Taking g (Lines f d) i j (both a b) k c
        to w =
            let v = (held-unless (in_unit (f + i) (unit_cell (f + k) c) || in_unit (f + j) (unit_cell (f + k) c)) (single d) d).0 w.digit in
            let o = (neither (in_unit (f + i) (unit_cell (f + k) c)) (in_unit (f + j) (unit_cell (f + k) c))).0 v.0 in
            record {
              free = w.free;
              not_first = eqb-false k i (sym (in-line i hi) ∙ o.0);
              not-second = eqb-false k j (sym (in-line j hj) ∙ o.1);
              place = ⊎_elim (λ q. subst (Held (both a b)) (sym (crossing-place a ha q)) (held-left a b)) (λ q. subst (Held (both a b)) (sym (crossing-place b hb q)) (held-right a b)) (Memᴰ.append_cases (unit (9 - f + a)) w.listed);
            }

        from : Taking g (Lines f d) i j (both a b) k c → Gone g (Lines f d) i j a b (unit_cell (f + k) c) d
        from t =
            record {
              listed = ⊎_elim (λ q. Memᴰ.append_left (unit (9 - f + b)) (crossing-listed a q)) (λ q. Memᴰ.append_right (unit (9 - f + a)) (crossing-listed b q)) (held_both a b c t.place);
              free = t.free;
              digit = (held-unless (in_unit (f + i) (unit_cell (f + k) c) || in_unit (f + j) (unit_cell (f + k) c)) (single d) d).1 (
                (neither (in_unit (f + i) (unit_cell (f + k) c)) (in_unit (f + j) (unit_cell (f + k) c))).1
                    (in-line i hi ∙ ne_eqb k i t.not_first, in-line j hj ∙ ne_eqb k j t.not-second),
                (held-power d d).1 refl,
              );
            }

  pub gone-here : (F : Frame) → Framed F → (k c : ℕ) → k < 9 → c < 9 → Gone g F i j a b (cell_of F k c) (digit_of F c) ↔ Taking g F i j (both a b) k c
  gone-here (Unit u) h k c hk hc = unit-gone u h k c hk
  gone-here (Lines f d) h k c hk hc = lines-gone f d h k c hk hc

  -- nothing else is taken
  pub gone-placed : (F : Frame) → Framed F → (e v : ℕ) → Gone g F i j a b e v → Placed F e v
  gone-placed (Unit u) h e v w =
      let m = mem-member h w.listed in
      let t = (held-unless (eqb e (unit_cell u i) || eqb e (unit_cell u j)) (both a b) v).0 w.digit in
      record { line = m.place; place = v; line-below = m.within; place-below = held_below (both a b) 9 v (omega (arith, sub-le (both-sub a b ha hb))) t.1; cell = sym m.is; digit = refl }
  gone-placed (Lines f d) h e v w = ⊎_elim (λ q. at-column a ha (mem-member ((crossed f h.0).below a ha) q)) (λ q. at-column b hb (mem-member ((crossed f h.0).below b hb) q)) (Memᴰ.append_cases (unit (9 - f + a)) w.listed)
    where
      at-column : (p : ℕ) → p < 9 → Member (9 - f + p) e → Placed (Lines f d) e v
      at-column p hp m =
          record {
            line = m.place;
            place = p;
            line-below = m.within;
            place-below = hp;
            cell = sym m.is ∙ (crossing f h.0).cell m.place p m.within hp;
            digit = (held-power d v).0 ((held-unless (in_unit (f + i) e || in_unit (f + j) e) (single d) v).0 w.digit).1;
          }
