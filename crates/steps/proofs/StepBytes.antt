-- Steps as bytes: the six bytes of an instance name it and no other, and taking them apart by their kind finds it. Assumes nothing.
use mathlib.Core.Path.{◌≡◌, refl, sym, ap, ◌∙◌, subst}
use mathlib.Core.Logic.{◌↔◌, ⊎_elim}
use mathlib.Core.Bool.{Bool, true, false, cond, ◌&&◌, true≢false}
use mathlib.Core.List.Memᴰ
use mathlib.Core.List.{List, [], ◌∷◌, Memᴰ}
use mathlib.Core.Option.{Option, none, some, none-ne-some, some-ne-none, some-injective}
use Prim.Native.Nat.{ℕ, zero, suc, ◌+◌, ◌-◌, ◌/◌, ◌%◌, ◌≤◌, ◌<◌}
use native.Mathlib.Decide.{dec_lt, ℕ_discrete}
use native.Mathlib.Omega.{arith}
use borrow.Author.Tests.{lt-ltb, le-leb, eq-eqb, ltb-true, leb-true, eqb-true}
use lib.Dec.{eqb, leb, ltb, eqb→eq}
use lib.ListN.{length}
use Rattle.candidates.proofs.Tests.{below_both, both, both_left, both_right, cond-true}
use Rattle.grid.specs.Units.{unit_cell}
use Rattle.grid.proofs.Units.{cell_below, cell-place, place-below, cells-rise}
use Rattle.steps.specs.Boards.{same_masks}
use Rattle.steps.specs.Instances.{Instance, lone, place, pair, pointing, claiming, cross, exchanged, line_of, box_of}
use Rattle.steps.specs.Passes.{Lone, Place, Pair, Pointing, Claiming, Cross, kinds, instances}
use Rattle.steps.specs.StepLists.{step_bytes, sweep_instances, find_in, step_named}
use Rattle.steps.specs.StepPromises.{Listed}
use Rattle.steps.specs.code.Decoding.{when, is_digit, no_parts, place_in, is_cell_of, line_in, box_in, is_two, is_lone, is_place, is_pair, is_pointing, is_claiming, is_cross, named_by, named_at}
use Rattle.steps.proofs.Instances.{Within, listed, lone-listed, place-listed, pair-listed, pointing-listed, claiming-listed, cross-listed, exchanged-listed}
use Rattle.steps.proofs.Loops.{in-for, for-in}
use Rattle.steps.proofs.Masks.{same-eq, same_refl}
use Rattle.steps.proofs.Settling.{all_kinds}

-- ---- tests of parts

digit-is : (d : ℕ) → d < 9 → is_digit (d + 1) ≡ true
digit-is d h = both (lt-ltb 0 (d + 1) (omega arith)) (lt-ltb (d + 1) 10 (omega arith))

is_digit_lem : (d : ℕ) → is_digit d ≡ true → (0 < d) × (d < 10)
is_digit_lem d t = (ltb-true 0 d (both_left (ltb 0 d) (ltb d 10) t), ltb-true d 10 (both_right (ltb 0 d) (ltb d 10) t))

cell-is : (u i : ℕ) → u < 27 → i < 9 → is_cell_of u (unit_cell u i) ≡ true
cell-is u i h k = both (lt-ltb (unit_cell u i) 81 (cell_below u i h k)) (eq-eqb (unit_cell u (place_in u (unit_cell u i))) (unit_cell u i) (ap (unit_cell u) (cell-place u i h k)))

pub record CellOf (u c : ℕ) : Type 0 where
  pub below : c < 81
  pub place : place_in u c < 9
  pub is : unit_cell u (place_in u c) ≡ c

is-cell : (u c : ℕ) → u < 27 → is_cell_of u c ≡ true → CellOf u c
is-cell u c h t =
    let b = ltb-true c 81 (both_left (ltb c 81) (eqb (unit_cell u (place_in u c)) c) t) in
    record { below = b; place = place-below u c h b; is = eqb-true (unit_cell u (place_in u c)) c (both_right (ltb c 81) (eqb (unit_cell u (place_in u c)) c) t) }

no-parts : (x y : ℕ) → no_parts x y ≡ true → (x ≡ 0) × (y ≡ 0)
no-parts x y t = (eqb-true x 0 (both_left (eqb x 0) (eqb y 0) t), eqb-true y 0 (both_right (eqb x 0) (eqb y 0) t))

line-in : (b k : ℕ) → b < 9 → k < 6 → line_in (line_of b k) ≡ k
line-in b k h l = eqb→eq (line_in (line_of b k)) k (below_both 9 6 (λ b k. eqb (line_in (line_of b k)) k) tt b k h l)

box_in_lem : (l k : ℕ) → l < 18 → k < 3 → box_in l (box_of l k) ≡ k
box_in_lem l k h n = eqb→eq (box_in l (box_of l k)) k (below_both 18 3 (λ l k. eqb (box_in l (box_of l k)) k) tt l k h n)

pub line-few : (l : ℕ) → line_in l < 6
line-few l = go (ltb l 9)
  where
    go : (t : Bool) → cond t (l % 3) (3 + l % 3) < 6
    go true = omega arith
    go false = omega arith

pub box-few : (l u : ℕ) → box_in l u < 3
box-few l u = go (ltb l 9)
  where
    go : (t : Bool) → cond t (u % 3) (u / 3 % 3) < 3
    go true = omega arith
    go false = omega arith

two_is : (f u v : ℕ) → f ≤ u → u < v → v < f + 9 → is_two f u v ≡ true
two_is f u v h l n = both (le-leb f u h) (both (lt-ltb u v l) (lt-ltb v (f + 9) n))

is-two : (f u v : ℕ) → is_two f u v ≡ true → (f ≤ u) × (u < v) × (v < f + 9)
is-two f u v t =
    let r = both_right (leb f u) (ltb u v && ltb v (f + 9)) t in (
      leb-true f u (both_left (leb f u) (ltb u v && ltb v (f + 9)) t),
      ltb-true u v (both_left (ltb u v) (ltb v (f + 9)) r),
      ltb-true v (f + 9) (both_right (ltb u v) (ltb v (f + 9)) r),
    )

-- ---- an instance's bytes name it

back : (f d : ℕ) → f + d - f ≡ d
back f d = omega arith

whole : (t : Bool) {x w : Instance} → t ≡ true → x ≡ w → when t x ≡ some w
whole t {x} {w} e p = cond-true t (some x) none e ∙ ap some p

abbrev Decodes : Instance → Type 0
Decodes x = named_at (step_bytes x) 0 ≡ some x

decodes : Within Decodes
unfolding named_at named_by step_bytes
decodes = record {
  on_lone = λ c d hc hd. whole (is_lone c (d + 1) 0 0 0) (both (lt-ltb c 81 hc) (both (digit-is d hd) refl)) (ap (lone c) (omega arith));
  on_place = λ u d i hu hd hi. whole (is_place u (d + 1) (unit_cell u i) 0 0) (both (lt-ltb u 27 hu) (both (digit-is d hd) (both (cell-is u i hu hi) refl)))
      (ap (λ (e : ℕ). place u e (place_in u (unit_cell u i))) (omega arith) ∙ ap (place u d) (cell-place u i hu hi));
  on_pair = λ u i j a b hu ij hj ab hb.
      whole (is_pair u (unit_cell u i) (unit_cell u j) (a + 1) (b + 1))
      (both (lt-ltb u 27 hu) (both (cell-is u i hu (omega arith)) (both (cell-is u j hu hj) (both (lt-ltb (unit_cell u i) (unit_cell u j) (cells-rise u i j hu ij hj))
      (both (digit-is a (omega arith)) (both (digit-is b hb) (lt-ltb (a + 1) (b + 1) (omega arith))))))))
      (paired u i j a b (cell-place u i hu (omega arith)) (cell-place u j hu hj) (omega arith) (omega arith));
  on_pointing = λ b d k hb hd hk.
      whole (is_pointing (18 + b) (d + 1) (line_of b k) 0 0)
      (both (le-leb 18 (18 + b) (omega arith)) (both (lt-ltb (18 + b) 27 (omega arith)) (both (digit-is d hd)
      (both (eq-eqb (line_of (18 + b - 18) (line_in (line_of b k))) (line_of b k) (ap (λ (e : ℕ). line_of e (line_in (line_of b k))) (back 18 b) ∙ ap (line_of b) (line-in b k hb hk))) refl))))
      (pointed b d k (back 18 b) (omega arith) (line-in b k hb hk));
  on_claiming = λ l d k hl hd hk.
      whole (is_claiming l (d + 1) (box_of l k) 0 0)
      (both (lt-ltb l 18 hl) (both (digit-is d hd) (both (eq-eqb (box_of l (box_in l (box_of l k))) (box_of l k) (ap (box_of l) (box_in_lem l k hl hk))) refl)))
      (ap (λ (e : ℕ). claiming l e (box_in l (box_of l k))) (omega arith) ∙ ap (claiming l d) (box_in_lem l k hl hk));
  on_cross = λ d r s a b hd rs hs ab hb. whole (is_cross 0 9 (d + 1) r s (9 + a) (9 + b)) (both (digit-is d hd) (both (two_is 0 r s (omega arith) rs (omega arith)) (two_is 9 (9 + a) (9 + b) (omega arith) (omega arith) (omega arith))))
      (crossed (λ d a b. cross d r s a b) (omega arith) (back 9 a) (back 9 b));
  on_exchanged = λ d a b r s hd ab hb rs hs. whole (is_cross 9 0 (d + 1) (9 + a) (9 + b) r s) (both (digit-is d hd) (both (two_is 9 (9 + a) (9 + b) (omega arith) (omega arith) (omega arith)) (two_is 0 r s (omega arith) rs (omega arith))))
      (crossed (λ d a b. exchanged d a b r s) (omega arith) (back 9 a) (back 9 b));
}
  where
    paired : (u i j a b : ℕ) {i' j' a' b' : ℕ} → i' ≡ i → j' ≡ j → a' ≡ a → b' ≡ b → pair u i' j' a' b' ≡ pair u i j a b
    paired u i j a b p q r s = λ t. pair u (p t) (q t) (r t) (s t)

    pointed : (b d k : ℕ) {b' d' k' : ℕ} → b' ≡ b → d' ≡ d → k' ≡ k → pointing b' d' k' ≡ pointing b d k
    pointed b d k p q r = λ t. pointing (p t) (q t) (r t)

    crossed : (make : ℕ → ℕ → ℕ → Instance) {d a b d' a' b' : ℕ} → d' ≡ d → a' ≡ a → b' ≡ b → make d' a' b' ≡ make d a b
    crossed make p q r = λ t. make (p t) (q t) (r t)

pub bytes-decode : (x : Instance) → Listed x → named_at (step_bytes x) 0 ≡ some x
bytes-decode x l = listed Decodes decodes l.kind x l.listed

-- ---- bytes that are taken apart are those of the instance that is found

when-some : (t : Bool) (x w : Instance) → when t x ≡ some w → (t ≡ true) × (x ≡ w)
when-some true x w e = (refl, some-injective x w e)
when-some false x w e = absurd (none-ne-some w e)

six : {a b c d e f a' b' c' d' e' f' : ℕ} → a ≡ a' → b ≡ b' → c ≡ c' → d ≡ d' → e ≡ e' → f ≡ f' → a ∷ b ∷ c ∷ d ∷ e ∷ f ∷ [] ≡ a' ∷ b' ∷ c' ∷ d' ∷ e' ∷ f' ∷ []
six p q r s t u = λ i. p i ∷ q i ∷ r i ∷ s i ∷ t i ∷ u i ∷ []

-- what the bytes of a step say of the instance w that they name
abbrev Is : Instance → List ℕ → Type 0
Is w bs = Listed w × (step_bytes w ≡ bs)

-- where the test passes, x is the instance and those are its bytes
by_kind : {bs : List ℕ} (t : Bool) (x w : Instance) → (t ≡ true → Is x bs) → when t x ≡ some w → Is w bs
by_kind {bs} t x w h e = let p = when-some t x w e in subst (λ (y : Instance). Is y bs) p.1 (h p.0)

-- what the test of each kind says of the parts
pub record LoneParts (c d x y z : ℕ) : Type 0 where
  pub cell : c < 81
  pub digit : (0 < d) × (d < 10)
  pub none : x ≡ 0
  pub rest : (y ≡ 0) × (z ≡ 0)

pub lone_parts : (c d x y z : ℕ) → is_lone c d x y z ≡ true → LoneParts c d x y z
lone_parts c d x y z t =
    let n₂ = eqb x 0 && no_parts y z in
    let n₁ = is_digit d && n₂ in
    let t₁ = both_right (ltb c 81) n₁ t in
    let t₂ = both_right (is_digit d) n₂ t₁ in
    record {
      cell = ltb-true c 81 (both_left (ltb c 81) n₁ t);
      digit = is_digit_lem d (both_left (is_digit d) n₂ t₁);
      none = eqb-true x 0 (both_left (eqb x 0) (no_parts y z) t₂);
      rest = no-parts y z (both_right (eqb x 0) (no_parts y z) t₂);
    }

lone_is : (c d x y z : ℕ) → is_lone c d x y z ≡ true → Is (lone c (d - 1)) (0 ∷ c ∷ d ∷ x ∷ y ∷ z ∷ [])
unfolding step_bytes
lone_is c d x y z t =
    let w = lone_parts c d x y z t in
    let hd = w.digit in (
      record { kind = Lone; listed = lone-listed c (d - 1) w.cell (omega arith) },
      six refl refl (omega arith) (sym w.none) (sym w.rest.0) (sym w.rest.1),
    )

pub record PlaceParts (u d c y z : ℕ) : Type 0 where
  pub unit : u < 27
  pub digit : (0 < d) × (d < 10)
  pub cell : CellOf u c
  pub rest : (y ≡ 0) × (z ≡ 0)

pub place-parts : (u d c y z : ℕ) → is_place u d c y z ≡ true → PlaceParts u d c y z
place-parts u d c y z t =
    let n₂ = is_cell_of u c && no_parts y z in
    let n₁ = is_digit d && n₂ in
    let hu = ltb-true u 27 (both_left (ltb u 27) n₁ t) in
    let t₁ = both_right (ltb u 27) n₁ t in
    let t₂ = both_right (is_digit d) n₂ t₁ in
    record {
      unit = hu;
      digit = is_digit_lem d (both_left (is_digit d) n₂ t₁);
      cell = is-cell u c hu (both_left (is_cell_of u c) (no_parts y z) t₂);
      rest = no-parts y z (both_right (is_cell_of u c) (no_parts y z) t₂);
    }

place_is : (u d c y z : ℕ) → is_place u d c y z ≡ true → Is (place u (d - 1) (place_in u c)) (1 ∷ u ∷ d ∷ c ∷ y ∷ z ∷ [])
unfolding step_bytes
place_is u d c y z t =
    let w = place-parts u d c y z t in
    let hd = w.digit in (
      record { kind = Place; listed = place-listed u (d - 1) (place_in u c) w.unit (omega arith) w.cell.place },
      six refl refl (omega arith) w.cell.is (sym w.rest.0) (sym w.rest.1),
    )

pub record PairParts (u c e a b : ℕ) : Type 0 where
  pub unit : u < 27
  pub first : CellOf u c
  pub second : CellOf u e
  pub rise : c < e
  pub one : (0 < a) × (a < 10)
  pub two : (0 < b) × (b < 10)
  pub above : a < b

pub pair_parts : (u c e a b : ℕ) → is_pair u c e a b ≡ true → PairParts u c e a b
pair_parts u c e a b t =
    let n₅ = is_digit b && ltb a b in
    let n₄ = is_digit a && n₅ in
    let n₃ = ltb c e && n₄ in
    let n₂ = is_cell_of u e && n₃ in
    let n₁ = is_cell_of u c && n₂ in
    let hu = ltb-true u 27 (both_left (ltb u 27) n₁ t) in
    let t₁ = both_right (ltb u 27) n₁ t in
    let t₂ = both_right (is_cell_of u c) n₂ t₁ in
    let t₃ = both_right (is_cell_of u e) n₃ t₂ in
    let t₄ = both_right (ltb c e) n₄ t₃ in
    let t₅ = both_right (is_digit a) n₅ t₄ in
    record {
      unit = hu;
      first = is-cell u c hu (both_left (is_cell_of u c) n₂ t₁);
      second = is-cell u e hu (both_left (is_cell_of u e) n₃ t₂);
      rise = ltb-true c e (both_left (ltb c e) n₄ t₃);
      one = is_digit_lem a (both_left (is_digit a) n₅ t₄);
      two = is_digit_lem b (both_left (is_digit b) (ltb a b) t₅);
      above = ltb-true a b (both_right (is_digit b) (ltb a b) t₅);
    }

-- cells that rise stand at places that rise
places-rise : (u c e : ℕ) → u < 27 → CellOf u c → CellOf u e → c < e → place_in u c < place_in u e
places-rise u c e hu p q r = go (dec_lt (place_in u c) (place_in u e))
  where
    go : Dec (place_in u c < place_in u e) → place_in u c < place_in u e
    go (yes h) = h
    go (no h) = absurd (not-below (ℕ_discrete (place_in u e) (place_in u c)))
      where
        not-below : Dec (place_in u e ≡ place_in u c) → ⊥
        not-below (yes n) = omega (arith, r, p.is, q.is, ap (unit_cell u) n)
        not-below (no n) = omega (arith, r, p.is, q.is, cells-rise u (place_in u e) (place_in u c) hu (omega arith) p.place)

pair_is : (u c e a b : ℕ) → is_pair u c e a b ≡ true → Is (pair u (place_in u c) (place_in u e) (a - 1) (b - 1)) (2 ∷ u ∷ c ∷ e ∷ a ∷ b ∷ [])
unfolding step_bytes
pair_is u c e a b t =
    let w = pair_parts u c e a b t in
    let one = w.one in
    let two = w.two in
    let r = w.above in (
      record { kind = Pair; listed = pair-listed u (place_in u c) (place_in u e) (a - 1) (b - 1) w.unit (places-rise u c e w.unit w.first w.second w.rise) w.second.place (omega arith) (omega arith) },
      six refl refl w.first.is w.second.is (omega arith) (omega arith),
    )

pub record PointingParts (u d l y z : ℕ) : Type 0 where
  pub low : 18 ≤ u
  pub high : u < 27
  pub digit : (0 < d) × (d < 10)
  pub meets : line_of (u - 18) (line_in l) ≡ l
  pub rest : (y ≡ 0) × (z ≡ 0)

pub pointing-parts : (u d l y z : ℕ) → is_pointing u d l y z ≡ true → PointingParts u d l y z
pointing-parts u d l y z t =
    let n₃ = eqb (line_of (u - 18) (line_in l)) l && no_parts y z in
    let n₂ = is_digit d && n₃ in
    let n₁ = ltb u 27 && n₂ in
    let t₁ = both_right (leb 18 u) n₁ t in
    let t₂ = both_right (ltb u 27) n₂ t₁ in
    let t₃ = both_right (is_digit d) n₃ t₂ in
    record {
      low = leb-true 18 u (both_left (leb 18 u) n₁ t);
      high = ltb-true u 27 (both_left (ltb u 27) n₂ t₁);
      digit = is_digit_lem d (both_left (is_digit d) n₃ t₂);
      meets = eqb-true (line_of (u - 18) (line_in l)) l (both_left (eqb (line_of (u - 18) (line_in l)) l) (no_parts y z) t₃);
      rest = no-parts y z (both_right (eqb (line_of (u - 18) (line_in l)) l) (no_parts y z) t₃);
    }

pointing-is : (u d l y z : ℕ) → is_pointing u d l y z ≡ true → Is (pointing (u - 18) (d - 1) (line_in l)) (3 ∷ u ∷ d ∷ l ∷ y ∷ z ∷ [])
unfolding step_bytes
pointing-is u d l y z t =
    let w = pointing-parts u d l y z t in
    let low = w.low in
    let high = w.high in
    let hd = w.digit in (
      record { kind = Pointing; listed = pointing-listed (u - 18) (d - 1) (line_in l) (omega arith) (omega arith) (line-few l) },
      six refl (omega arith) (omega arith) w.meets (sym w.rest.0) (sym w.rest.1),
    )

pub record ClaimingParts (l d u y z : ℕ) : Type 0 where
  pub line : l < 18
  pub digit : (0 < d) × (d < 10)
  pub meets : box_of l (box_in l u) ≡ u
  pub rest : (y ≡ 0) × (z ≡ 0)

pub claiming-parts : (l d u y z : ℕ) → is_claiming l d u y z ≡ true → ClaimingParts l d u y z
claiming-parts l d u y z t =
    let n₂ = eqb (box_of l (box_in l u)) u && no_parts y z in
    let n₁ = is_digit d && n₂ in
    let t₁ = both_right (ltb l 18) n₁ t in
    let t₂ = both_right (is_digit d) n₂ t₁ in
    record {
      line = ltb-true l 18 (both_left (ltb l 18) n₁ t);
      digit = is_digit_lem d (both_left (is_digit d) n₂ t₁);
      meets = eqb-true (box_of l (box_in l u)) u (both_left (eqb (box_of l (box_in l u)) u) (no_parts y z) t₂);
      rest = no-parts y z (both_right (eqb (box_of l (box_in l u)) u) (no_parts y z) t₂);
    }

claiming-is : (l d u y z : ℕ) → is_claiming l d u y z ≡ true → Is (claiming l (d - 1) (box_in l u)) (4 ∷ l ∷ d ∷ u ∷ y ∷ z ∷ [])
unfolding step_bytes
claiming-is l d u y z t =
    let w = claiming-parts l d u y z t in
    let hd = w.digit in (
      record { kind = Claiming; listed = claiming-listed l (d - 1) (box_in l u) w.line (omega arith) (box-few l u) },
      six refl refl (omega arith) w.meets (sym w.rest.0) (sym w.rest.1),
    )

pub record CrossParts (f h d u v x y : ℕ) : Type 0 where
  pub digit : (0 < d) × (d < 10)
  pub lines : (f ≤ u) × (u < v) × (v < f + 9)
  pub across : (h ≤ x) × (x < y) × (y < h + 9)

pub cross-parts : (f h d u v x y : ℕ) → is_cross f h d u v x y ≡ true → CrossParts f h d u v x y
cross-parts f h d u v x y t =
    let t₁ = both_right (is_digit d) (is_two f u v && is_two h x y) t in
    record {
      digit = is_digit_lem d (both_left (is_digit d) (is_two f u v && is_two h x y) t);
      lines = is-two f u v (both_left (is_two f u v) (is_two h x y) t₁);
      across = is-two h x y (both_right (is_two f u v) (is_two h x y) t₁);
    }

cross-is : (d u v x y : ℕ) → is_cross 0 9 d u v x y ≡ true → Is (cross (d - 1) u v (x - 9) (y - 9)) (5 ∷ d ∷ u ∷ v ∷ x ∷ y ∷ [])
unfolding step_bytes
cross-is d u v x y t =
    let w = cross-parts 0 9 d u v x y t in
    let hd = w.digit in
    let l = w.lines in
    let a = w.across in (
      record { kind = Cross; listed = cross-listed (d - 1) u v (x - 9) (y - 9) (omega arith) (omega arith) (omega arith) (omega arith) (omega arith) },
      six refl (omega arith) refl refl (omega arith) (omega arith),
    )

exchanged-is : (d u v x y : ℕ) → is_cross 9 0 d u v x y ≡ true → Is (exchanged (d - 1) (u - 9) (v - 9) x y) (6 ∷ d ∷ u ∷ v ∷ x ∷ y ∷ [])
unfolding step_bytes
exchanged-is d u v x y t =
    let w = cross-parts 9 0 d u v x y t in
    let hd = w.digit in
    let l = w.lines in
    let a = w.across in (
      record { kind = Cross; listed = exchanged-listed (d - 1) (u - 9) (v - 9) x y (omega arith) (omega arith) (omega arith) (omega arith) (omega arith) },
      six refl (omega arith) (omega arith) (omega arith) refl refl,
    )

pub named-is : (k p q r s t : ℕ) (w : Instance) → named_by k p q r s t ≡ some w → Is w (k ∷ p ∷ q ∷ r ∷ s ∷ t ∷ [])
unfolding named_by
named-is zero p q r s t w e = by_kind (is_lone p q r s t) (lone p (q - 1)) w (lone_is p q r s t) e
named-is (suc zero) p q r s t w e = by_kind (is_place p q r s t) (place p (q - 1) (place_in p r)) w (place_is p q r s t) e
named-is (suc (suc zero)) p q r s t w e = by_kind (is_pair p q r s t) (pair p (place_in p q) (place_in p r) (s - 1) (t - 1)) w (pair_is p q r s t) e
named-is (suc (suc (suc zero))) p q r s t w e = by_kind (is_pointing p q r s t) (pointing (p - 18) (q - 1) (line_in r)) w (pointing-is p q r s t) e
named-is (suc (suc (suc (suc zero)))) p q r s t w e = by_kind (is_claiming p q r s t) (claiming p (q - 1) (box_in p r)) w (claiming-is p q r s t) e
named-is (suc (suc (suc (suc (suc zero))))) p q r s t w e = by_kind (is_cross 0 9 p q r s t) (cross (p - 1) q r (s - 9) (t - 9)) w (cross-is p q r s t) e
named-is (suc (suc (suc (suc (suc (suc zero)))))) p q r s t w e = by_kind (is_cross 9 0 p q r s t) (exchanged (p - 1) (q - 9) (r - 9) s t) w (exchanged-is p q r s t) e
named-is (suc (suc (suc (suc (suc (suc (suc k))))))) p q r s t w e = absurd (none-ne-some w e)

-- ---- the instance whose bytes they are

find-some : (f : Instance → Bool) (xs : List Instance) (x : Instance) → find_in f xs ≡ some x → Memᴰ x xs × (f x ≡ true)
unfolding find_in
find-some f [] x e = absurd (none-ne-some x e)
find-some f (y ∷ ys) x e = go (f y) refl e (find-some f ys x)
  where
    go : (t : Bool) → f y ≡ t → cond t (some y) (find_in f ys) ≡ some x → (find_in f ys ≡ some x → Memᴰ x ys × (f x ≡ true)) → Memᴰ x (y ∷ ys) × (f x ≡ true)
    go true t e ih = let p = some-injective y x e in (Memᴰ.head (sym p), ap f (sym p) ∙ t)
    go false t e ih = let w = ih e in (Memᴰ.tail w.0, w.1)

find_none : (f : Instance → Bool) (xs : List Instance) (x : Instance) → find_in f xs ≡ none → Memᴰ x xs → f x ≡ false
unfolding find_in
find_none f [] x e k = absurd (Memᴰ.not-nil k)
find_none f (y ∷ ys) x e k = go (f y) refl e (find_none f ys x)
  where
    go : (t : Bool) → f y ≡ t → cond t (some y) (find_in f ys) ≡ none → (find_in f ys ≡ none → Memᴰ x ys → f x ≡ false) → f x ≡ false
    go true t e ih = absurd (some-ne-none y e)
    go false t e ih = ⊎_elim (λ (q : x ≡ y). ap f q ∙ t) (λ r. ih e r) (Memᴰ.cases_cons k)

in-sweep : (x : Instance) → Listed x → Memᴰ x sweep_instances
unfolding sweep_instances
in-sweep x l = for-in kinds instances l.kind x (all_kinds [] l.kind) l.listed

pub sweep-in : (x : Instance) → Memᴰ x sweep_instances → Listed x
unfolding sweep_instances
sweep-in x k = let w = in-for kinds instances x k in record { kind = w.0; listed = w.2 }

abbrev has_bytes : List ℕ → Instance → Bool
has_bytes bs x = same_masks (step_bytes x) bs

pub names : (bs : List ℕ) (x : Instance) → (step_named bs ≡ some x) ↔ (Listed x × (step_bytes x ≡ bs))
unfolding step_named
names bs x = (down, λ w. up w (find_in (has_bytes bs) sweep_instances) refl)
  where
    down : find_in (has_bytes bs) sweep_instances ≡ some x → Listed x × (step_bytes x ≡ bs)
    down e = let w = find-some (has_bytes bs) sweep_instances x e in (sweep-in x w.0, same-eq (step_bytes x) bs w.1)

    up : Listed x × (step_bytes x ≡ bs) → (r : Option Instance) → find_in (has_bytes bs) sweep_instances ≡ r → find_in (has_bytes bs) sweep_instances ≡ some x
    up w none e =
        absurd (true≢false (sym (subst (λ (l : List ℕ). same_masks (step_bytes x) l ≡ true) w.1 (same_refl (step_bytes x)))
        ∙ find_none (has_bytes bs) sweep_instances x e (in-sweep x w.0)))
    up w (some y) e =
        let v = find-some (has_bytes bs) sweep_instances y e in
        e ∙ sym (bytes-decode y (sweep-in y v.0)) ∙ ap (λ (l : List ℕ). named_at l 0) (same-eq (step_bytes y) bs v.1 ∙ sym w.1) ∙ bytes-decode x w.0

pub six-bytes : (x : Instance) → length (step_bytes x) ≡ 6
unfolding step_bytes
six-bytes (lone c d) = refl
six-bytes (place u d i) = refl
six-bytes (pair u i j a b) = refl
six-bytes (pointing b d k) = refl
six-bytes (claiming l d k) = refl
six-bytes (cross d r s a b) = refl
six-bytes (exchanged d a b r s) = refl
