-- The table of rests, read after it is written: each store is at a place of its own. Assumes nothing.
use mathlib.Core.Path.{◌≡◌, refl, sym, ◌∙◌, subst}
use mathlib.Core.Logic.{◌≢◌, ⊎_elim}
use mathlib.Core.Bool.{Bool, not}
use mathlib.Core.List.Memᴰ
use mathlib.Core.List.{List, [], ◌∷◌, Memᴰ}
use Prim.Native.Nat.{ℕ, ◌+◌, ◌*◌, ◌-◌, ◌≤◌, ◌<◌}
use native.Mathlib.Decide.{ℕ_discrete}
use native.Mathlib.Omega.{arith}
use lib.Dec.{ltb}
use lib.ListN.{length, length-set}
use lib.Seq.{get_or-set_same, get_or-set_other}
use Rattle.candidates.proofs.Tests.{by-test}
use Rattle.grid.proofs.Lists.{range-mem, mem-range}
use Rattle.steps.specs.Boards.{at}
use Rattle.steps.specs.Loops.{each, range, up_to}
use Rattle.steps.proofs.Loops.{up_to-in, each_keeps}
use Rattle.cells.specs.code.Meets.{meetings}
use Rattle.lanes.specs.code.Lanes.{lane_of}
use Rattle.locked.specs.code.Rests.{nine_of, rest_of, put_rest, put_lane, put_turn, put_lanes, put_rests, Rests, renewed}

-- what one member brings about and all keep
reached : {A S : Type 0} (f : A → S → S) (P : S → Type 0) (xs : List A) (x : A) → Memᴰ x xs → ((s : S) → P (f x s)) → ((y : A) → Memᴰ y xs → (s : S) → P s → P (f y s)) → (s : S) → P (each f xs s)
unfolding each
reached f P [] x i made kept s = absurd (Memᴰ.not-nil i)
reached f P (y ∷ ys) x i made kept s =
    ⊎_elim (λ e. each_keeps f P ys (λ z o. kept z (Memᴰ.tail o)) (f y s) (subst (λ (z : _). P (f z s)) e (made s)))
    (λ o. reached f P ys x o made (λ z q. kept z (Memᴰ.tail q)) (f y s)) (Memᴰ.cases_cons i)

-- a table holds x for the n-th rest of lane l
abbrev Reads : ℕ → ℕ → ℕ → List ℕ → Type 0
Reads n l x r = length r ≡ 288 → at r (48 * n + l) ≡ x

module _ (n l x : ℕ) (low : l < 48) where
  store_kept : (nine : List ℕ) (k j : ℕ) → 48 * n + l ≢ 48 * j + k → (r : List ℕ) → Reads n l x r → Reads n l x (put_rest nine k j r)
  store_kept nine k j other r w size = get_or-set_other r (48 * j + k) (48 * n + l) (rest_of nine j) 0 other ∙ w (sym (length-set r (48 * j + k) (rest_of nine j)) ∙ size)

  store-made : (nine : List ℕ) → n < 6 → rest_of nine n ≡ x → (r : List ℕ) → Reads n l x (put_rest nine l n r)
  store-made nine h e r size = get_or-set_same r (48 * n + l) (rest_of nine n) 0 (omega (arith, sym (length-set r (48 * n + l) (rest_of nine n)) ∙ size)) ∙ e

  -- another lane
  lane-kept : (nine : List ℕ) (count k : ℕ) → k < 48 → l ≢ k → (r : List ℕ) → Reads n l x r → Reads n l x (put_lane nine count k r)
  unfolding put_lane
  lane-kept nine count k h other r w = each_keeps (put_rest nine k) (Reads n l x) (up_to count) (λ j o s p. store_kept nine k j (λ e. other (omega arith)) s p) r w

  lane_made : (nine : List ℕ) (count : ℕ) → n < count → count ≤ 6 → rest_of nine n ≡ x → (r : List ℕ) → Reads n l x (put_lane nine count l r)
  unfolding put_lane
  lane_made nine count h c e r =
      reached (put_rest nine l) (Reads n l x) (up_to count) n (up_to-in count n h) (λ s. store-made nine (omega arith) e s) (λ j o s p. one j (ℕ_discrete n j) s p) r
    where
      one : (j : ℕ) → Dec (n ≡ j) → (s : List ℕ) → Reads n l x s → Reads n l x (put_rest nine l j s)
      one j (yes q) s p = subst (λ (i : ℕ). Reads n l x (put_rest nine l i s)) q (store-made nine (omega arith) e s)
      one j (no q) s p = store_kept nine l j (λ b. q (omega arith)) s p

lane-size : (nine : List ℕ) (count l : ℕ) (r : List ℕ) → length r ≡ 288 → length (put_lane nine count l r) ≡ 288
unfolding put_lane
lane-size nine count l r size = each_keeps (put_rest nine l) (λ (s : List ℕ). length s ≡ 288) (up_to count) (λ j i t d. length-set t (48 * j + l) (rest_of nine j) ∙ d) r size

module _ (p q : List ℕ) (loose : Bool) (count first end : ℕ) (rise : first ≤ end) (most : end ≤ 48) where
  lanes-size : (r : List ℕ) → length r ≡ 288 → length (put_lanes p q loose count first end r) ≡ 288
  unfolding put_lanes
  lanes-size r size = each_keeps (put_turn p q loose count) (λ (s : List ℕ). length s ≡ 288) (range (end - first) first) (λ k o. lane-size (nine_of p q loose k) count k) r size

  -- lanes before the first
  lanes-kept : (n l x : ℕ) → l < first → (r : List ℕ) → Reads n l x r → Reads n l x (put_lanes p q loose count first end r)
  unfolding put_lanes
  lanes-kept n l x h r w =
      each_keeps (put_turn p q loose count) (Reads n l x) (range (end - first) first)
      (λ k o s v. let b = mem-range (end - first) first k o in
      lane-kept n l x (omega arith) (nine_of p q loose k) count k (omega (arith, b.0, b.1)) (λ e. absurd (omega (arith, e, b.0))) s v) r w

  lanes-made : (n l : ℕ) → n < count → count ≤ 6 → first ≤ l → l < end → (r : List ℕ) → Reads n l (rest_of (nine_of p q loose l) n) (put_lanes p q loose count first end r)
  unfolding put_lanes
  lanes-made n l h c from to r =
      reached (put_turn p q loose count) (Reads n l (rest_of (nine_of p q loose l) n)) (range (end - first) first) l (range-mem (end - first) first l from (omega arith))
      (λ s. lane_made n l (rest_of (nine_of p q loose l) n) (omega arith) (nine_of p q loose l) count h c refl s)
      (λ k o s v. one k (mem-range (end - first) first k o) (ℕ_discrete l k) s v) r
    where
      one : (k : ℕ) → (first ≤ k) × (k < first + (end - first)) → Dec (l ≡ k) → (s : List ℕ) → Reads n l (rest_of (nine_of p q loose l) n) s → Reads n l (rest_of (nine_of p q loose l) n) (put_turn p q loose count k s)
      one k b (yes e) s v = subst (λ (i : ℕ). Reads n l (rest_of (nine_of p q loose l) n) (put_turn p q loose count i s)) e (lane_made n l (rest_of (nine_of p q loose l) n) (omega arith) (nine_of p q loose l) count h c refl s)
      one k b (no e) s v = lane-kept n l (rest_of (nine_of p q loose l) n) (omega arith) (nine_of p q loose k) count k (omega (arith, b.0, b.1)) e s v

module _ (p q : List ℕ) (boxes : Bool) (r : List ℕ) (size : length r ≡ 288) where
  abbrev some : List ℕ
  some = put_lanes p q boxes 3 0 32 r

  some_size : length some ≡ 288
  some_size = lanes-size p q boxes 3 0 32 (omega arith) (omega arith) r size

  all-size : length (put_lanes p q (not boxes) 6 32 48 some) ≡ 288
  all-size = lanes-size p q (not boxes) 6 32 48 (omega arith) (omega arith) some some_size

  read : Rests p q boxes (put_rests p q boxes r)
  unfolding put_rests
  read = record {
    size = all-size;
    lines = λ n l h to. lanes-kept p q (not boxes) 6 32 48 (omega arith) (omega arith) n l (rest_of (nine_of p q boxes l) n) to some (lanes-made p q boxes 3 0 32 (omega arith) (omega arith) n l h (omega arith) (omega arith) to r) all-size;
    blocks = λ n l h from to. lanes-made p q (not boxes) 6 32 48 (omega arith) (omega arith) n l h (omega arith) from to some all-size;
  }

pub rests-read : (p q : List ℕ) (boxes : Bool) (r : List ℕ) {s : List ℕ} → length r ≡ 288 → s ≡ put_rests p q boxes r → Rests p q boxes s
rests-read p q boxes r size is = subst (Rests p q boxes) (sym is) (read p q boxes r size)

-- ---- a unit's own rests taken anew

module _ (nine : List ℕ) (u : ℕ) (hu : u < 27) (r : List ℕ) (size : length r ≡ 288) where
  pub renewed-size : length (renewed nine u r) ≡ 288
  unfolding renewed
  renewed-size = lane-size nine (meetings u) (lane_of u) r size

  pub renewed-own : (k : ℕ) → k < meetings u → at (renewed nine u r) (48 * k + lane_of u) ≡ rest_of nine k
  unfolding renewed
  renewed-own k h = lane_made k (lane_of u) (rest_of nine k) (omega arith) nine (meetings u) h most refl r renewed-size
    where
      most : meetings u ≤ 6
      most = unfold meetings in by-test (λ (n : ℕ). n ≤ 6) (ltb u 18) 3 6 (λ t. omega arith) (λ t. omega arith)

  -- the other lanes stay
  pub renewed-other : (n l : ℕ) → l < 48 → l ≢ lane_of u → at (renewed nine u r) (48 * n + l) ≡ at r (48 * n + l)
  unfolding renewed
  renewed-other n l low other = lane-kept n l (at r (48 * n + l)) low nine (meetings u) (lane_of u) (omega arith) other r (λ _. refl) renewed-size
