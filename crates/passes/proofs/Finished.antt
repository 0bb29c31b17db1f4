-- Masks that hold at most one digit a cell are settled where the open cells hold none, or where every unit has all nine digits: then they are a filling. Assumes nothing.
use mathlib.Core.Path.{◌≡◌, refl, sym, ap, ◌∙◌, subst}
use mathlib.Core.Logic.{◌≢◌, ⊎_elim}
use mathlib.Core.Bool.{Bool, true, false, ◌&&◌, ◌||◌, true≢false}
use mathlib.Core.List.{List}
use Prim.Native.Nat.{ℕ, ◌<◌}
use native.Mathlib.Decide.{ℕ_discrete, dec_lt}
use native.Mathlib.Omega.{arith}
use borrow.Author.Tests.{eqb-true}
use lib.Bits.{bit_and}
use lib.Dec.{eqb, leb}
use Rattle.candidates.specs.Masks.{has, minus, lowest, tail}
use Rattle.candidates.proofs.Held.{Held, none-held, held_all, held-minus}
use Rattle.candidates.proofs.FewDigits.{count-without, held-tail}
use Rattle.candidates.proofs.Tests.{both_left, both_right, either}
use Rattle.grid.specs.Cells.{row}
use Rattle.grid.specs.Units.{unit_cell, Member}
use Rattle.grid.proofs.Cells.{row_below, row_in}
use Rattle.grid.proofs.Pigeonhole.{Injects, onto}
use Rattle.grid.proofs.Units.{at_place, cell_below, in-member, member_below}
use Rattle.steps.specs.Boards.{at, is_open}
use Rattle.steps.specs.Passes.{Settled}
use Rattle.steps.proofs.Fillings.{Filling, Holds, filling-settled}
use Rattle.steps.proofs.Wide.{module8}
use Rattle.cells.specs.code.Places.{loose_digits}
use Rattle.cells.specs.code.Unions.{joined}
use Rattle.cells.proofs.NineBits.{held-meet, nine-lt}
use Rattle.cells.proofs.Shared.{union-none, joined-held, loose_none}
use Rattle.lanes.specs.code.Lanes.{laid, lane_at, lane_masks, lane_of}
use Rattle.lanes.proofs.LaneUnits.{lane-holds, lane-reads}
use Rattle.passes.specs.code.Over.{beside_one, lacked_in, is_over}

-- ---- no open cell holds anything

dead-settled : (g m : List ℕ) → loose_digits g m ≡ 0 → Settled g m
dead-settled g m e = (module8.settled g m).1 (record {
  on_lone = λ c d hc hd s r. let x = r.lost.peer in none r.cell r.digit x.within x.second (omega (arith, r.lost.digit)) r.lost.free r.held;
  on_place = λ u d c hu hd k s r. none r.cell r.digit hu (subst (Member u) (sym r.lost.cell) k) r.lost.digit r.lost.free r.held;
  on_pair = λ u c x a b hu k l n ha hb ab s r. none r.cell r.digit hu r.lost.member (⊎_elim (λ y. omega (arith, y)) (λ y. omega (arith, y)) r.lost.digit) r.lost.free r.held;
  on_pointing = λ u v d k hd s r. none r.cell r.digit (omega (arith, k.line)) r.lost.member (omega (arith, r.lost.digit)) r.lost.free r.held;
  on_claiming = λ u v d k hd s r. none r.cell r.digit k.box.1 r.lost.member (omega (arith, r.lost.digit)) r.lost.free r.held;
  on_cross = λ u v x y d k hd s r.
      let n : (x < 27) × (y < 27) = ⊎_elim (λ p. omega arith) (λ p. omega arith) k.lines in
      ⊎_elim (λ l. none r.cell r.digit n.0 l (omega (arith, r.lost.digit)) r.lost.free r.held) (λ l. none r.cell r.digit n.1 l (omega (arith, r.lost.digit)) r.lost.free r.held) r.lost.member;
})
  where
    none : (c d : ℕ) {u : ℕ} → u < 27 → Member u c → d < 9 → is_open g c ≡ true → Held (at m c) d → ⊥
    none c d hu k h f t = loose_none g m e c d (member_below hu k) h f t

-- ---- every unit has all nine digits

-- the digits of a cell that count
abbrev nine : List ℕ → ℕ → ℕ
nine m c = bit_and (at m c) 511

-- a cell's only digit
only : List ℕ → ℕ → ℕ
only m c = lowest (nine m c)

module _ (m : List ℕ) (few : beside_one m ≡ 0) where
  -- a cell holds its lowest digit at most
  alone : (c d : ℕ) → c < 81 → d < 9 → Held (at m c) d → d ≡ only m c
  unfolding beside_one only
  alone c d h l t = go (ℕ_discrete d (lowest x))
    where
      x : ℕ
      x = bit_and (at m c) 511

      held : Held x d
      held = (held-meet (at m c) 511 d).1 (t, held_all d l)

      go : Dec (d ≡ lowest x) → d ≡ lowest x
      go (yes e) = e
      go (no n) =
          absurd (none-held d (subst (λ (k : ℕ). Held k d) (union-none (λ c. tail (bit_and (at m c) 511)) 81 few c h) ((held-tail x (nine-lt (at m c)) (omega (arith, count-without x d held)) d).1 (held, n))))

  module _ (p : List ℕ) (lanes : p ≡ laid m) (all : lacked_in p ≡ 0) where
    -- each digit stands in each unit
    stands : (u d : ℕ) → u < 27 → d < 9 → (i : ℕ) × (i < 9) × Held (at m (unit_cell u i)) d
    unfolding lacked_in
    stands u d hu hd = (at-u.0, at-u.1, ((held-meet (at m (unit_cell u at-u.0)) 511 d).0 here).0)
      where
        full : Held (joined (lane_masks p (lane_of u))) d
        full = go (has (joined (lane_masks p (lane_of u))) d) refl
          where
            go : (b : Bool) → has (joined (lane_masks p (lane_of u))) d ≡ b → Held (joined (lane_masks p (lane_of u))) d
            go true e = e
            go false e =
                absurd (none-held d (subst (λ (k : ℕ). Held k d) (union-none (λ u. minus 511 (joined (lane_masks p (lane_of u)))) 27 all u hu)
                ((held-minus 511 (joined (lane_masks p (lane_of u))) d).1 (held_all d hd, λ t. true≢false (sym t ∙ e)))))

        at-u : (i : ℕ) × (i < 9) × Held (at (lane_masks p (lane_of u)) i) d
        at-u = joined-held (lane_masks p (lane_of u)) d full

        here : Held (bit_and (at m (unit_cell u at-u.0)) 511) d
        here =
            subst (λ (x : ℕ). Held x d)
            (lane-reads p (lane_of u) at-u.0 at-u.1 ∙ ap (λ (z : List ℕ). lane_at z (lane_of u) at-u.0) lanes ∙ lane-holds u at-u.0 hu at-u.1 m)
            at-u.2

    -- the place of a digit in a unit
    spot : (u : ℕ) → u < 27 → (d : ℕ) → Dec (d < 9) → ℕ
    spot u hu d (yes h) = (stands u d hu h).0
    spot u hu d (no h) = 0

    own : (u d : ℕ) (hu : u < 27) (hd : d < 9) → d ≡ only m (unit_cell u (stands u d hu hd).0)
    own u d hu hd = let s = stands u d hu hd in alone (unit_cell u s.0) d (cell_below u s.0 hu s.1) hd s.2

    spots-apart : (u : ℕ) (hu : u < 27) → Injects 9 9 (λ d. spot u hu d (dec_lt d 9))
    unfolding spot
    spots-apart u hu = record {
      into = λ d h. into d h (dec_lt d 9);
      apart = λ d e h k s. apart d e h k (dec_lt d 9) (dec_lt e 9) s;
    }
      where
        into : (d : ℕ) → d < 9 → (t : Dec (d < 9)) → spot u hu d t < 9
        into d h (yes k) = (stands u d hu k).1
        into d h (no k) = absurd (k h)

        apart : (d e : ℕ) → d < 9 → e < 9 → (s : Dec (d < 9)) (t : Dec (e < 9)) → spot u hu d s ≡ spot u hu e t → d ≡ e
        apart d e h k (yes x) (yes y) s = own u d hu x ∙ ap (λ (i : ℕ). only m (unit_cell u i)) s ∙ sym (own u e hu y)
        apart d e h k (yes x) (no y) s = absurd (y k)
        apart d e h k (no x) t s = absurd (x h)

    -- each place of a unit has a digit, whose place it is
    placed : (u i : ℕ) (hu : u < 27) → i < 9 → (d : ℕ) × (d < 9) × Held (at m (unit_cell u i)) d × (spot u hu d (dec_lt d 9) ≡ i)
    unfolding spot
    placed u i hu hi = let w = onto 9 (λ d. spot u hu d (dec_lt d 9)) (spots-apart u hu) i hi in (w.0, w.1, go w.0 w.1 (dec_lt w.0 9) w.2, w.2)
      where
        go : (d : ℕ) → d < 9 → (t : Dec (d < 9)) → spot u hu d t ≡ i → Held (at m (unit_cell u i)) d
        go d h (yes k) e = subst (λ (j : ℕ). Held (at m (unit_cell u j)) d) e (stands u d hu k).2
        go d h (no k) e = absurd (k h)

    -- a cell's digit
    digit-held : (c : ℕ) → c < 81 → (only m c < 9) × Held (at m c) (only m c)
    digit-held c h = rw (sym (alone c w.0 h w.1 held)) (w.1, held)
      where
        k : Member (row c) c
        k = in-member (row c) c (omega (arith, row_below c h)) h (row_in c h)

        w : (d : ℕ) × (d < 9) × Held (at m (unit_cell (row c) k.place)) d × (spot (row c) (omega (arith, row_below c h)) d (dec_lt d 9) ≡ k.place)
        w = placed (row c) k.place (omega (arith, row_below c h)) k.within

        held : Held (at m c) w.0
        held = subst (λ (x : ℕ). Held (at m x) w.0) k.is w.2

    full-filling : Filling (only m)
    full-filling = record { small = λ c h. (digit-held c h).0; once = once; every = every }
      where
        once : (u c e : ℕ) → u < 27 → Member u c → Member u e → c ≢ e → only m c ≢ only m e
        once u c e hu k l n same =
            let a = placed u k.place hu k.within in
            let b = placed u l.place hu l.within in
            let x = alone (unit_cell u k.place) a.0 (cell_below u k.place hu k.within) a.1 a.2 ∙ ap (only m) k.is in
            let y = alone (unit_cell u l.place) b.0 (cell_below u l.place hu l.within) b.1 b.2 ∙ ap (only m) l.is in
            n (sym k.is ∙ ap (unit_cell u) (sym a.3 ∙ ap (λ (d : ℕ). spot u hu d (dec_lt d 9)) (x ∙ same ∙ sym y) ∙ b.3) ∙ l.is)

        every : (u d : ℕ) → u < 27 → d < 9 → (c : ℕ) × Member u c × (only m c ≡ d)
        every u d hu hd = let s = stands u d hu hd in (unit_cell u s.0, at_place u s.0 s.1, sym (own u d hu hd))

    full-holds : Holds (only m) m
    full-holds = record { only = λ c a h l. (alone c a h l, λ e. subst (Held (at m c)) (sym e) (digit-held c h).1) }

-- ---- the test

pub over-settled : (g m : List ℕ) {p : List ℕ} (left : ℕ) → p ≡ laid m → is_over left g m p ≡ true → Settled g m
unfolding is_over
over-settled g m {p} left lanes t = ⊎_elim (λ e. dead-settled g m (eqb-true (loose_digits g m) 0 e)) (λ e. full (eqb-true (lacked_in p) 0 e)) ((either _ _).0 (both_right (eqb (beside_one m) 0) _ rest))
  where
    rest : (eqb (beside_one m) 0 && (eqb (loose_digits g m) 0 || eqb (lacked_in p) 0)) ≡ true
    rest = both_right (leb left 81) _ t

    few : beside_one m ≡ 0
    few = eqb-true (beside_one m) 0 (both_left (eqb (beside_one m) 0) _ rest)

    full : lacked_in p ≡ 0 → Settled g m
    full all = filling-settled g (only m) (full-filling m few p lanes all) m (full-holds m few p lanes all)
