-- Box-line by the lines of a box is that of module 4. A box keeps its masks, so they are read once; and a loss is known by what it takes, so what the
-- digits' turns take from a line one after the other is lost there at once. Assumes nothing.
use mathlib.Core.Path.{◌≡◌, refl, sym, ap, ◌∙◌, subst}
use mathlib.Core.Logic.{◌⊎◌, ◌↔◌, inl, inr, ⊎_elim}
use mathlib.Core.Bool.{Bool, true, false, cond, not, ◌&&◌, ◌||◌, true≢false}
use mathlib.Core.List.Memᴰ
use mathlib.Core.List.{List, [], ◌∷◌, Memᴰ}
use Prim.Native.Nat.{ℕ, ◌+◌, ◌≤◌, ◌<◌}
use native.Mathlib.Omega.{arith}
use borrow.Author.Tests.{eq-eqb, eqb-true, leb-true, le-leb, not-true}
use lib.Bits.{bit_and, and_zero_r}
use lib.Dec.{eqb, leb, ltb, ltb→lt}
use Rattle.candidates.specs.Masks.{has, minus, count, single}
use Rattle.candidates.proofs.FewDigits.{more-count, count-more}
use Rattle.candidates.proofs.Held.{Held, has-minus, held_all, held_below, held-minus, held-power, held-sub, sub_held}
use Rattle.candidates.proofs.Order.{sub-of-minus, minus-of-sub}
use Rattle.candidates.proofs.Tests.{by-test, bool_iff, cond-true}
use Rattle.grid.specs.Units.{unit, unit_cell, in_unit}
use Rattle.grid.proofs.Units.{cell_in}
use Rattle.grid.proofs.Lists.{each_same}
use Rattle.steps.specs.Boards.{at, is_open}
use Rattle.steps.specs.Instances.{line_of}
use Rattle.steps.specs.Loops.{each, up_to}
use Rattle.steps.specs.Ported.{holds, spots, is_box_line, box_line_at, box_lines}
use Rattle.steps.specs.Published.{Without}
use Rattle.steps.specs.Steps.{lose_at, lose_all}
use Rattle.steps.proofs.Loops.{in-up_to, up_to-in, each-idle}
use Rattle.steps.proofs.Losses.{Lost, held-unless, lost-digits, without-same, without-again}
use Rattle.steps.proofs.Steps.{lose-none, all-length}
use Rattle.cells.specs.code.Places.{lose_in, lose_places, unit_masks, spots_in}
use Rattle.cells.specs.code.Meets.{meetings, met_places, outside, met_unit}
use Rattle.cells.specs.code.Unions.{joined_at, shared_of}
use Rattle.cells.proofs.Places.{all-kept, unit-masks-same, spots-are}
use Rattle.cells.proofs.HeldPlaces.{within}
use Rattle.cells.proofs.Meetings.{six-lines, met-line, met-below, on-met, off-met}
use Rattle.cells.proofs.NineBits.{held-meet}
use Rattle.cells.proofs.Shared.{shared-twice, twice-shared, joined_at_lem, at_joined}
use Rattle.cells.proofs.UnitPlaces.{spared-lose}
use Rattle.techniques.specs.code.BoxLines.{on_line, line_turn, block_lines, block_turn}
use Rattle.techniques.proofs.HeldOnce.{spots-lt, spot, is-spot}

-- no digits to lose
pub lose-nothing : (free : ℕ → Bool) (u ps : ℕ) (m : List ℕ) → lose_places free u ps 0 m ≡ m
unfolding lose_places
lose-nothing free u ps m =
    each-idle (λ i n. cond (has ps i) (lose_in free (unit_cell u i) 0 n) n) (up_to 9) m
    (λ i l. by-test Same (has ps i) (lose_in free (unit_cell u i) 0 m) m
    (λ t. by-test Same (ltb (unit_cell u i) 81) (lose_at free (unit_cell u i) 0 m) m (λ t. lose-none free (unit_cell u i) 0 m (λ _. and_zero_r (at m (unit_cell u i)))) (λ t. refl)) (λ t. refl))
  where
    Same : List ℕ → Type 0
    Same n = n ≡ m

-- ---- what a loop takes

-- two losses, one after the other
both-taken : {m n o : List ℕ} {lost gone every : ℕ → ℕ → Type 0} → Without m lost n → Without n gone o → ((c e : ℕ) → every c e ↔ (lost c e ⊎ gone c e)) → Without m every o
both-taken p q same =
    record {
      size = q.size ∙ p.size;
      left = λ c e. (
        λ t.
            let v = (q.left c e).0 t in
            let w = (p.left c e).0 v.0 in
            (w.0, λ z. ⊎_elim w.1 v.1 ((same c e).0 z)),
        λ w. (q.left c e).1 ((p.left c e).1 (w.0, λ l. w.1 ((same c e).1 (inl l))), λ l. w.1 ((same c e).1 (inr l))),
      );
    }

-- the loss of any turn, where something is known that the turns keep
taken : {A : Type 0} (f : A → List ℕ → List ℕ) (R : A → ℕ → ℕ → Type 0) (P : List ℕ → Type 0) (xs : List A)
    → ((x : A) → Memᴰ x xs → (m : List ℕ) → P m → Without m (R x) (f x m) × P (f x m))
    → (m : List ℕ) → P m → Without m (λ c e. (x : A) × Memᴰ x xs × R x c e) (each f xs m) × P (each f xs m)
unfolding each
taken f R P [] h m p = (record { size = refl; left = λ c e. (λ t. (t, λ w. Memᴰ.not-nil w.1), λ w. w.0) }, p)
taken {A} f R P (x ∷ xs) h m p =
    let now = h x (Memᴰ.head refl) m p in
    let later = taken f R P xs (λ y k. h y (Memᴰ.tail k)) (f x m) now.1 in (
      both-taken now.0 later.0 (λ c e. (
        λ w. ⊎_elim (λ q. inl (subst (λ (y : A). R y c e) q w.2)) (λ k. inr (w.0, k, w.2)) (Memᴰ.cases_cons w.1),
        ⊎_elim (λ r. (x, Memᴰ.head refl, r)) (λ w. (w.0, Memᴰ.tail w.1, w.2)),
      )),
      later.1,
    )

-- ---- the lines of a box

module _ (g : List ℕ) (b k : ℕ) (hb : b < 9) (hk : k < 6) where
  abbrev u : ℕ
  u = 18 + b

  abbrev v : ℕ
  v = line_of b k

  abbrev loss : ℕ → ℕ → ℕ
  loss x c = cond (in_unit u c) 0 x

  u-below : u < 27
  u-below = omega arith

  is-met : met_unit u k ≡ v
  is-met = met-line hb hk

  meets : k < meetings u
  meets = omega (arith, six-lines {u = u} (omega arith))

  -- what the line loses of the digits x
  line-takes : (x : ℕ) (m : List ℕ) → Without m (Lost (is_open g) (loss x) (unit v)) (lose_places (is_open g) (met_unit u k) (outside u k) x m)
  line-takes x m =
      subst (λ (n : List ℕ). Without m (Lost (is_open g) (loss x) (unit v)) n)
      (sym (spared-lose (met_unit u k) (met-below u k u-below meets) (is_open g) (outside u k) x (in_unit u) (off-met u k u-below meets) m
      ∙ ap (λ (w : ℕ). lose_all (is_open g) (unit w) (loss x) m) is-met))
      (record { size = all-length (is_open g) (unit v) (loss x) m; left = lost-digits (is_open g) (loss x) (unit v) m })

  -- ---- a box-line, by what the box holds

  module _ (m : List ℕ) (d : ℕ) (hd : d < 9) where
    abbrev nine : List ℕ
    nine = unit_masks g m u

    abbrev off : ℕ
    off = joined_at nine (minus 511 (met_places k))

    abbrev passes : ℕ → Bool
    passes e = not (holds g m d e) || in_unit v e

    -- at two places or more
    several : (2 ≤ count (spots_in nine d)) ↔ Held (shared_of nine) d
    several = (
      λ h.
          let w = count-more (spots_in nine d) (omega (arith, spots-lt nine d)) h in
          let i = spot nine d _ w.held₁ in
          let j = spot nine d _ w.held₂ in
          twice-shared nine d _ _ i.0 j.0 w.apart i.1 j.1,
      λ t.
          let w = shared-twice nine d t in
          more-count {a = w.first} {b = w.second}
          (record { apart = λ q. omega (arith, q, w.rise); held₁ = is-spot nine d w.first (omega (arith, w.rise, w.below)) w.held₁; held₂ = is-spot nine d w.second w.below w.held₂ }),
    )

    -- and none of them off the line
    on_line_lem : eqb (minus (spots_in nine d) (met_places k)) 0 ≡ not (has off d)
    on_line_lem =
        bool_iff (eqb (minus (spots_in nine d) (met_places k)) 0) (not (has off d)) (λ t. go (has off d) refl (apart (eqb-true (minus (spots_in nine d) (met_places k)) 0 t))) up
      where
        apart : minus (spots_in nine d) (met_places k) ≡ 0 → Held off d → ⊥
        apart e t =
            let w = at_joined nine (minus 511 (met_places k)) d t in
            ((held-minus 511 (met_places k) w.0).0 w.2).1 (held-sub w.0 (sub-of-minus (spots_in nine d) (met_places k) e) (is-spot nine d w.0 w.1 w.3))

        go : (s : Bool) → has off d ≡ s → (Held off d → ⊥) → not s ≡ true
        go true s n = absurd (n s)
        go false s n = refl

        up : not (has off d) ≡ true → eqb (minus (spots_in nine d) (met_places k)) 0 ≡ true
        up t = eq-eqb (minus (spots_in nine d) (met_places k)) 0 (minus-of-sub (sub_held (spots_in nine d) (met_places k) (λ i h. one i (spot nine d i h) (has (met_places k) i) refl)))
          where
            one : (i : ℕ) → (i < 9) × Held (at nine i) d → (s : Bool) → has (met_places k) i ≡ s → Held (met_places k) i
            one i w true s = s
            one i w false s =
                absurd (true≢false (sym (joined_at_lem nine (minus 511 (met_places k)) d i w.0 ((held-minus 511 (met_places k) i).1 (held_all i w.0, λ h. true≢false (sym h ∙ s))) w.1) ∙ not-true (has off d) t))

    test : is_box_line g m u v d ≡ has (on_line nine k) d
    unfolding spots on_line
    test =
        ap (λ (t : Bool). leb 2 (count (spots g m u d)) && t)
        (within u (met_places k) u-below (holds g m d) (in_unit v) (λ i h. on-met u k u-below meets i h ∙ ap (λ (w : ℕ). in_unit w (unit_cell u i)) is-met))
        ∙ ap (λ (s : ℕ). leb 2 (count s) && eqb (minus s (met_places k)) 0) (sym (spots-are g m u d u-below))
        ∙ ap (λ (t : Bool). leb 2 (count (spots_in nine d)) && t) on_line_lem
        ∙ ap (λ (t : Bool). t && not (has off d)) two
        ∙ sym (has-minus (bit_and (shared_of nine) 511) off d)
      where
        two : leb 2 (count (spots_in nine d)) ≡ has (bit_and (shared_of nine) 511) d
        two =
            bool_iff (leb 2 (count (spots_in nine d))) (has (bit_and (shared_of nine) 511) d)
            (λ t. (held-meet (shared_of nine) 511 d).1 (several.0 (leb-true 2 (count (spots_in nine d)) t), held_all d hd))
            (λ t. le-leb 2 (count (spots_in nine d)) (several.1 ((held-meet (shared_of nine) 511 d).0 t).0))

    pub box-kept : unit_masks g (box_line_at g u v d m) u ≡ unit_masks g m u
    unfolding box_line_at
    box-kept =
        unit-masks-same g (cond (is_box_line g m u v d) (lose_all (is_open g) (unit v) (loss (single d)) m) m) m u
        (λ i h. by-test (λ (n : List ℕ). at n (unit_cell u i) ≡ at m (unit_cell u i)) (is_box_line g m u v d) (lose_all (is_open g) (unit v) (loss (single d)) m) m
        (λ t. all-kept (is_open g) (loss (single d)) (unit_cell u i) (cond-true (in_unit u (unit_cell u i)) 0 (single d) (cell_in u i u-below h)) (unit v) m) (λ t. refl))

-- ---- the digits' turns, and the lines'

module _ (g nine : List ℕ) (b : ℕ) (hb : b < 9) where
  -- the box holds what it held
  abbrev Kept : List ℕ → Type 0
  Kept m = unit_masks g m (18 + b) ≡ nine

  abbrev Off : ℕ → ℕ → ℕ → ℕ → Type 0
  Off x k c e = Lost (is_open g) (λ c. cond (in_unit (18 + b) c) 0 x) (unit (line_of b k)) c e

  abbrev digit-turn : ℕ → ℕ → List ℕ → List ℕ
  digit-turn d k = box_line_at g (18 + b) (line_of b k) d

  digit-takes : (d k : ℕ) → d < 9 → k < 6 → (m : List ℕ) → Kept m → Without m (λ c e. Held (on_line nine k) d × Off (single d) k c e) (digit-turn d k m) × Kept (digit-turn d k m)
  unfolding box_line_at
  digit-takes d k hd hk m p = (
    by-test (λ (n : List ℕ). Without m (λ c e. Held (on_line nine k) d × Off (single d) k c e) n) (is_box_line g m (18 + b) (line_of b k) d) (lose_all (is_open g) (unit (line_of b k)) lost m) m
        (λ t. without-again (λ c e. (λ w. w.1, λ l. (sym is ∙ t, l))) (record { size = all-length (is_open g) (unit (line_of b k)) lost m; left = lost-digits (is_open g) lost (unit (line_of b k)) m }))
        (λ t. record { size = refl; left = λ c e. (λ h. (h, λ w. true≢false (sym w.0 ∙ sym is ∙ t)), λ w. w.0) }),
    box-kept g b k hb hk m d hd ∙ p,
  )
    where
      lost : ℕ → ℕ
      lost c = cond (in_unit (18 + b) c) 0 (single d)

      is : is_box_line g m (18 + b) (line_of b k) d ≡ has (on_line nine k) d
      is = test g b k hb hk m d hd ∙ ap (λ (l : List ℕ). has (on_line l k) d) p

  digits-take : (m : List ℕ) → Kept m
      → Without m (λ c e. (d : ℕ) × Memᴰ d (up_to 9) × ((k : ℕ) × Memᴰ k (up_to 6) × (Held (on_line nine k) d × Off (single d) k c e))) (each (λ d. each (digit-turn d) (up_to 6)) (up_to 9) m)
  digits-take m p =
      (taken (λ d. each (digit-turn d) (up_to 6)) (λ d c e. (k : ℕ) × Memᴰ k (up_to 6) × (Held (on_line nine k) d × Off (single d) k c e)) Kept (up_to 9)
      (λ d l n q. taken (digit-turn d) (λ k c e. Held (on_line nine k) d × Off (single d) k c e) Kept (up_to 6) (λ k o. digit-takes d k (in-up_to 9 d l) (in-up_to 6 k o)) n q) m p).0

  lines-take : (m : List ℕ) → Without m (λ c e. (k : ℕ) × Memᴰ k (up_to 6) × Off (on_line nine k) k c e) (block_lines g (18 + b) nine m)
  unfolding block_lines line_turn
  lines-take m =
      (taken (line_turn g (18 + b) nine) (λ k. Off (on_line nine k) k) (λ n. n ≡ n) (up_to 6) (λ k o n q. (line-takes g b k hb (in-up_to 6 k o) (on_line nine k) n, refl)) m refl).0

  -- a digit of the line's
  nine-digits : (k e : ℕ) → Held (on_line nine k) e → e < 9
  unfolding on_line
  nine-digits k e t =
      held_below 511 9 e (ltb→lt 511 512 tt) ((held-meet (shared_of nine) 511 e).0 ((held-minus (bit_and (shared_of nine) 511) (joined_at nine (minus 511 (met_places k))) e).0 t).0).1

  block-is : (m : List ℕ) → Kept m → block_lines g (18 + b) nine m ≡ each (λ d. each (digit-turn d) (up_to 6)) (up_to 9) m
  block-is m p =
      without-same (lines-take m)
      (without-again (λ c e. (
        λ w.
            let k = w.0 in
            let l = w.2 in
            let h = (held-unless (in_unit (18 + b) c) (on_line nine k) e).0 l.digit in
            (e, up_to-in 9 e (nine-digits k e h.1), (k, w.1, (h.1, record { listed = l.listed; free = l.free; digit = (held-unless (in_unit (18 + b) c) (single e) e).1 (h.0, (held-power e e).1 refl) }))),
        λ w.
            let d = w.0 in
            let k = w.2.0 in
            let l = w.2.2.1 in
            let h = (held-unless (in_unit (18 + b) c) (single d) e).0 l.digit in
            (k, w.2.1, record { listed = l.listed; free = l.free; digit = (held-unless (in_unit (18 + b) c) (on_line nine k) e).1 (h.0, subst (λ (x : ℕ). Held (on_line nine k) x) (sym ((held-power d e).0 h.1)) w.2.2.0) }),
      )) (digits-take m p))

pub boxes-are : (g m : List ℕ) → each (block_turn g) (up_to 9) m ≡ box_lines g m
unfolding box_lines block_turn
boxes-are g m =
    each_same (λ b m. block_lines g (18 + b) (unit_masks g m (18 + b)) m) (λ b. each (λ d. each (λ k. box_line_at g (18 + b) (line_of b k) d) (up_to 6)) (up_to 9)) (up_to 9)
    (λ b l n. block-is g (unit_masks g n (18 + b)) b (in-up_to 9 b l) n refl) m
