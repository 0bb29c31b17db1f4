-- The lines that the search of a frame keeps: two of them that need not be asked, and what all lose to two. Assumes nothing.
use mathlib.Core.Path.{◌≡◌, refl, sym, ap, ◌∙◌, subst}
use mathlib.Core.Logic.{◌≢◌}
use mathlib.Core.Bool.{Bool, true, false, ◌&&◌, ◌||◌, not}
use mathlib.Core.List.{List, map}
use Prim.Native.Nat.{ℕ, ◌<◌}
use native.Mathlib.Decide.{ℕ_discrete}
use native.Mathlib.Omega.{arith}
use borrow.Author.Tests.{eqb-true, eqb-false}
use lib.Bits.{bit_and}
use lib.Dec.{eqb}
use lib.ListN.{set}
use lib.Seq.{get_or-set_other}
use Rattle.candidates.specs.Masks.{minus, union}
use Rattle.candidates.proofs.Held.{Held, none-held, held-ext, held-sub, held_all, held-minus, held_below}
use Rattle.candidates.proofs.Order.{sub-all, sub-le, sub-of-minus, minus-of-sub, union-sub}
use Rattle.candidates.proofs.Tests.{neither}
use Rattle.grid.proofs.Lists.{at-up_to, map_same}
use Rattle.steps.specs.Boards.{at, is_open, same_masks}
use Rattle.steps.specs.Instances.{both}
use Rattle.steps.specs.Loops.{up_to, above, each}
use Rattle.steps.proofs.Loops.{in-up_to, up_to-in}
use Rattle.steps.proofs.Masks.{same-eq}
use Rattle.cells.proofs.NineBits.{held-meet}
use Rattle.cells.proofs.Shared.{union-at, union-held}
use Rattle.lanes.specs.code.Lanes.{doors_of, nines}
use Rattle.pair_cross.specs.code.Twos.{first_of, second_of, Framed, line_held, two_held, line_masks, reach_of, lines_turned, lines_taken, frame_taken}
use Rattle.pair_cross.specs.code.Lively.{tally_of, lost_of, small, lone, any_hot}
use Rattle.pair_cross.specs.code.Search.{heat_of, open_held, lines_left, Seen}
use Rattle.pair_cross.specs.declared.twos.Frame.{Frame}
use Rattle.pair_cross.proofs.FrameSpots.{cell_of, digit_of, Taking, door-open, gone-here}
use Rattle.pair_cross.proofs.Frames.{lines-taken}
use Rattle.pair_cross.proofs.Holders.{set-none}
use Rattle.pair_cross.proofs.LivelyFrames.{lines-still}
use Rattle.pair_cross.proofs.LivelyLines.{none-hot, many-none, cool-none}
use Rattle.pair_cross.proofs.Lossless.{lone-few}
use Rattle.pair_cross.proofs.Passed.{line_at, line_low, line-held, held-line, held-is, passed_over_lem}
use Rattle.pair_cross.proofs.Reach.{reach-covers}
use Rattle.pair_cross.proofs.TwoNumbers.{first_below, second_below, rise, pair_at, Paired, paired, each_two}
use Rattle.pair_cross.proofs.TwoTurns.{Gone, Taken, Reached, reached, turns}

not-not : (t : Bool) → not t ≡ false → t ≡ true
not-not true e = refl
not-not false e = sym e

pub frame-lines : (g : List ℕ) (F : Frame) (m : List ℕ) → frame_taken g F m ≡ each (λ i. each (lines_taken g F i) (above i 9)) (up_to 9) m
unfolding frame_taken
frame-lines g F m = sym (each_two (lines_taken g F) m)

-- the doors of the lines other than two
module _ (doors : List ℕ) (i j k c : ℕ) where
  other-door : k ≢ i → k ≢ j → at (set (set doors i 0) j 0) k ≡ at doors k
  other-door p q = get_or-set_other (set doors i 0) j k 0 0 q ∙ get_or-set_other doors i k 0 0 p

  door-other : Held (at (set (set doors i 0) j 0) k) c → (k ≢ i) × (k ≢ j) × Held (at doors k) c
  door-other t = go (ℕ_discrete k i) (ℕ_discrete k j)
    where
      go : Dec (k ≡ i) → Dec (k ≡ j) → (k ≢ i) × (k ≢ j) × Held (at doors k) c
      go p (yes q) = absurd (none-held c (subst (λ (x : ℕ). Held x c) (ap (at (set (set doors i 0) j 0)) q ∙ set-none (set doors i 0) j) t))
      go (yes p) (no q) = absurd (none-held c (subst (λ (x : ℕ). Held x c) (get_or-set_other (set doors i 0) j k 0 0 q ∙ ap (at (set doors i 0)) p ∙ set-none doors i) t))
      go (no p) (no q) = (p, q, subst (λ (x : ℕ). Held x c) (other-door p q) t)

-- lines that lose nothing hold nothing that can be lost
left-none : (held doors : List ℕ) (lost : ℕ) → lines_left held doors lost ≡ held → bit_and (open_held held doors) lost ≡ 0
unfolding lines_left open_held
left-none held doors lost e = held-ext _ 0 (λ c. (λ t. absurd (clash c ((held-meet (open_held held doors) lost c).0 t)), λ t. absurd (none-held c t)))
  where
    clash : (c : ℕ) → Held (open_held held doors) c × Held lost c → ⊥
    clash c t =
        let w = union-held (λ l. bit_and (at held l) (at doors l)) 9 c t.0 in
        let k = w.0 in
        let p = (held-meet (at held k) (at doors k) c).0 w.2 in
        let left = sym (at-up_to (λ l. minus (at held l) (bit_and (at doors l) lost)) 0 9 k w.1) ∙ ap (λ (z : List ℕ). at z k) e in
        ((held-minus (at held k) (bit_and (at doors k) lost) c).0 (subst (λ (x : ℕ). Held x c) (sym left) p.0)).1 ((held-meet (at doors k) lost c).1 (p.1, t.1))

module _ (g m : List ℕ) (F : Frame) (framed : Framed F) where
  abbrev N : List ℕ
  N = nines (line_masks m F)

  abbrev D : List ℕ
  D = nines (line_masks (doors_of g) F)

  open-door : (k c : ℕ) → k < 9 → c < 9 → is_open g (cell_of F k c) ≡ true → Held (at (nines (line_masks (doors_of g) F)) k) c
  open-door k c hk hc t =
      subst (λ (x : ℕ). Held x c) (sym (line_at (doors_of g) F framed k hk))
      ((held-meet (line_held (doors_of g) F k) 511 c).1 (door-open g F framed k c hk hc ∙ t, held_all c hc))

  door-is : (k c : ℕ) → k < 9 → c < 9 → Held (at (nines (line_masks (doors_of g) F)) k) c → is_open g (cell_of F k c) ≡ true
  door-is k c hk hc t =
      sym (door-open g F framed k c hk hc)
      ∙ ((held-meet (line_held (doors_of g) F k) 511 c).0 (subst (λ (x : ℕ). Held x c) (line_at (doors_of g) F framed k hk) t)).0

  module _ (i j : ℕ) (up : i < j) (hj : j < 9) where
    hi : i < 9
    hi = omega arith

    differ : i ≢ j
    differ e = absurd (omega arith)

    nothing : lost_of (tally_of (at (nines (line_masks m F)))) (at (nines (line_masks m F)) i) (at (nines (line_masks m F)) j) 511 ≡ 0 → lines_taken g F i j m ≡ m
    nothing = lines-still g m F framed 511 (λ k c hk hc op t. held_all c hc) i j differ hi hj

    -- by what their open cells hold
    pub open-still : bit_and (open_held (nines (line_masks m F)) (set (set (nines (line_masks (doors_of g) F)) i 0) j 0)) (reach_of (union (at (nines (line_masks m F)) i) (at (nines (line_masks m F)) j))) ≡ 0 → lines_taken g F i j m ≡ m
    unfolding open_held
    open-still e = passed_over_lem g m F framed i j hi hj (λ k c hk hc w t.
        let R = set (set D i 0) j 0 in
        let p = subst (λ (x : ℕ). Held x c) (sym (other-door D i j k c w.not_first w.not-second)) (open-door k c hk hc w.free) in
        let q = held-sub c (union-at (λ l. bit_and (at N l) (at R l)) 9 k hk) ((held-meet (at N k) (at R k) c).1 (line-held m F framed k c hk hc t, p)) in
        let r = subst (λ (x : ℕ). Held (reach_of x) c) (held-is m F framed i j hi hj) w.place in
        none-held c (subst (λ (x : ℕ). Held x c) e ((held-meet (open_held N R) (reach_of (union (at N i) (at N j))) c).1 (q, r))))

    -- two that differ, while none is hot
    pub cold-still : any_hot (at (nines (line_masks m F))) (tally_of (at (nines (line_masks m F)))).twice ≡ 0 → at (nines (line_masks m F)) i ≢ at (nines (line_masks m F)) j → lines_taken g F i j m ≡ m
    cold-still e n = nothing (cool-none (at N) 511 (line_low m F framed) i j up hj (λ s. absurd (n s)) (none-hot (at N) i hi e) (none-hot (at N) j hj e))

    -- a line of more than two places, or of one while none is hot
    pub many-still : small (at (nines (line_masks m F)) i) ≡ false → lines_taken g F i j m ≡ m
    many-still t = nothing (many-none (at N) 511 (line_low m F framed) i j up hj t)

    pub lone-still : any_hot (at (nines (line_masks m F))) (tally_of (at (nines (line_masks m F)))).twice ≡ 0 → lone (at (nines (line_masks m F)) i) ≡ true → lines_taken g F i j m ≡ m
    lone-still e t =
        nothing (cool-none (at N) 511 (line_low m F framed) i j up hj
        (λ s c r. absurd (omega (arith, lone-few (at N i) (omega (arith, line_low m F framed i hi)) t))) (none-hot (at N) i hi e) (none-hot (at N) j hj e))

    two-low : union (at (nines (line_masks m F)) i) (at (nines (line_masks m F)) j) < 512
    two-low = omega (arith, sub-le (union-sub (sub-all (at N i) (line_low m F framed i hi)) (sub-all (at N j) (line_low m F framed j hj))))

    pub turned_taken : lines_turned g F i j (union (at (nines (line_masks m F)) i) (at (nines (line_masks m F)) j)) m ≡ lines_taken g F i j m
    turned_taken = sym (lines-taken g i j hi hj F framed m ∙ ap (λ (x : ℕ). lines_turned g F i j x m) (held-is m F framed i j hi hj))

    -- ---- what the lines lose

    module _ (held : ℕ) (low : held < 512) where
      abbrev lost : ℕ
      lost = reach_of held

      taken_in : (k c : ℕ) → k < 9 → c < 9 → Taken g F i j held (up_to 36) (cell_of F k c) (digit_of F c) → Taking g F i j (reach_of held) k c
      taken_in k c hk hc w =
          let q = in-up_to 36 w.0 w.1 in
          let a = first_of w.0 in
          let b = second_of w.0 in
          let t = (gone-here g i j a b hi hj (first_below w.0 q) (second_below w.0 q) F framed k c hk hc).0 w.3 in
          record {
            free = t.free;
            not_first = t.not_first;
            not-second = t.not-second;
            place = held-sub c (reach-covers held a b (omega arith) (rise w.0 q) (second_below w.0 q) (sub-of-minus held (both a b) w.2)) t.place;
          }

      taken-by : (k c : ℕ) → k < 9 → c < 9 → Taking g F i j (reach_of held) k c → Taken g F i j held (up_to 36) (cell_of F k c) (digit_of F c)
      taken-by k c hk hc t =
          let r = reached held c low hc t.place in
          let p = paired r.a r.b r.up r.below in
          (pair_at r.a r.b, up_to-in 36 (pair_at r.a r.b) p.listed, (same r p).0, (same r p).1)
        where
          same : (r : Reached held c) → Paired r.a r.b → (minus held (both (first_of (pair_at r.a r.b)) (second_of (pair_at r.a r.b))) ≡ 0) × Gone g F i j (first_of (pair_at r.a r.b)) (second_of (pair_at r.a r.b)) (cell_of F k c) (digit_of F c)
          same r p =
              let h = r.up in
              let l = r.below in
              rw (p.first, p.second) (
                minus-of-sub r.covers,
                (gone-here g i j r.a r.b hi hj (omega arith) l F framed k c hk hc).1 (record { free = t.free; not_first = t.not_first; not-second = t.not-second; place = r.has-it }),
              )

      pub lines-turned : nines (line_masks (lines_turned g F i j held m) F) ≡ lines_left (nines (line_masks m F)) (set (set (nines (line_masks (doors_of g) F)) i 0) j 0) (reach_of held)
      unfolding lines_left
      lines-turned = lines_same (lines_turned g F i j held m) (λ k hk. held-ext _ _ (λ c. (down k c hk, up-again k c hk)))
        where
          R : List ℕ
          R = set (set (nines (line_masks (doors_of g) F)) i 0) j 0

          lines_same : (n : List ℕ) → ((k : ℕ) → k < 9 → at (nines (line_masks n F)) k ≡ minus (at (nines (line_masks m F)) k) (bit_and (at R k) (reach_of held))) → nines (line_masks n F) ≡ map (λ k. minus (at (nines (line_masks m F)) k) (bit_and (at R k) (reach_of held))) (up_to 9)
          lines_same n same =
              unfold nines in
              map_same (λ k. bit_and (at (line_masks n F) k) 511) (λ k. minus (at (nines (line_masks m F)) k) (bit_and (at R k) (reach_of held))) (up_to 9) (λ k h. let hk = in-up_to 9 k h in sym (at-up_to (λ l. bit_and (at (line_masks n F) l) 511) 0 9 k hk) ∙ same k hk)

          down : (k c : ℕ) → k < 9 → Held (at (nines (line_masks (lines_turned g F i j held m) F)) k) c → Held (minus (at (nines (line_masks m F)) k) (bit_and (at R k) (reach_of held))) c
          down k c hk t =
              unfold lines_turned in
              let hc = held_below (at (nines (line_masks (lines_turned g F i j held m) F)) k) 9 c (line_low (lines_turned g F i j held m) F framed k hk) t in
              let p = (turns g F i j held (up_to 36) m (cell_of F k c) (digit_of F c)).0 (held-line (lines_turned g F i j held m) F framed k c hk hc t) in
              (held-minus (at N k) (bit_and (at R k) (reach_of held)) c).1 (
                line-held m F framed k c hk hc p.0,
                λ s. let q = (held-meet (at R k) (reach_of held) c).0 s in let o = door-other D i j k c q.0 in
                    p.1 (taken-by k c hk hc (record { free = door-is k c hk hc o.2; not_first = o.0; not-second = o.1; place = q.1 })),
              )

          up-again : (k c : ℕ) → k < 9 → Held (minus (at (nines (line_masks m F)) k) (bit_and (at R k) (reach_of held))) c → Held (at (nines (line_masks (lines_turned g F i j held m) F)) k) c
          up-again k c hk t =
              unfold lines_turned in
              let p = (held-minus (at N k) (bit_and (at R k) (reach_of held)) c).0 t in
              let hc = held_below (at N k) 9 c (line_low m F framed k hk) p.0 in
              line-held (lines_turned g F i j held m) F framed k c hk hc
              ((turns g F i j held (up_to 36) m (cell_of F k c) (digit_of F c)).1 (
                held-line m F framed k c hk hc p.0,
                λ s. let w = taken_in k c hk hc s in
                    p.1 ((held-meet (at R k) (reach_of held) c).1 (subst (λ (x : ℕ). Held x c) (sym (other-door D i j k c w.not_first w.not-second)) (open-door k c hk hc w.free), w.place)),
              ))

-- ---- as code finds them

pub seen_same : {g m o : List ℕ} {F : Frame} {q n l : List ℕ} {s r : ℕ} → Seen g m F q n s → o ≡ m → l ≡ n → r ≡ s → Seen g o F q l r
seen_same {g} {m} {o} {F} w a b c = record { framed = w.framed; doors = w.doors; held = b ∙ w.held ∙ ap (λ (z : List ℕ). nines (line_masks z F)) (sym a); heat = c ∙ w.heat ∙ ap (λ (z : List ℕ). heat_of z) (sym b) }

module _ {g m : List ℕ} {F : Frame} {q n : List ℕ} {h : ℕ} (w : Seen g m F q n h) where
  -- what holds of the lines and doors as they are held
  by_lines : (P : List ℕ → List ℕ → ℕ → Type 0) → P (nines (line_masks (doors_of g) F)) (nines (line_masks m F)) (heat_of (nines (line_masks m F))) → P q n h
  by_lines P p =
      subst (λ (z : List ℕ). P z n h) (sym w.doors)
      (subst (λ (z : List ℕ). P (nines (line_masks (doors_of g) F)) z h) (sym w.held)
      (subst (λ (z : ℕ). P (nines (line_masks (doors_of g) F)) (nines (line_masks m F)) z) (sym (w.heat ∙ ap (λ (z : List ℕ). heat_of z) w.held)) p))

  module _ (i j : ℕ) (up : i < j) (hj : j < 9) where
    pub open-seen : bit_and (open_held n (set (set q i 0) j 0)) (reach_of (union (at n i) (at n j))) ≡ 0 → lines_taken g F i j m ≡ m
    open-seen = by_lines (λ q n h. bit_and (open_held n (set (set q i 0) j 0)) (reach_of (union (at n i) (at n j))) ≡ 0 → lines_taken g F i j m ≡ m) (open-still g m F w.framed i j up hj)

    pub cold-seen : (not (eqb (h) 0) || eqb (at n i) (at n j)) ≡ false → lines_taken g F i j m ≡ m
    cold-seen = by_lines (λ q n h. (not (eqb (h) 0) || eqb (at n i) (at n j)) ≡ false → lines_taken g F i j m ≡ m) cold
      where
        N : List ℕ
        N = nines (line_masks m F)

        cold : (not (eqb (heat_of N) 0) || eqb (at N i) (at N j)) ≡ false → lines_taken g F i j m ≡ m
        cold t =
            let o = (neither (not (eqb (heat_of N) 0)) (eqb (at N i) (at N j))).0 t in
            cold-still g m F w.framed i j up hj (eqb-true (heat_of N) 0 (not-not (eqb (heat_of N) 0) o.0)) (eqb-false (at N i) (at N j) o.1)

    pub lead-seen : (small (at n i) && (not (eqb (h) 0) || not (lone (at n i)))) ≡ false → lines_taken g F i j m ≡ m
    lead-seen = by_lines (λ q n h. (small (at n i) && (not (eqb (h) 0) || not (lone (at n i)))) ≡ false → lines_taken g F i j m ≡ m) lead
      where
        N : List ℕ
        N = nines (line_masks m F)

        lead : (small (at N i) && (not (eqb (heat_of N) 0) || not (lone (at N i)))) ≡ false → lines_taken g F i j m ≡ m
        lead t = go (small (at N i)) refl t
          where
            go : (b : Bool) → small (at N i) ≡ b → (b && (not (eqb (heat_of N) 0) || not (lone (at N i)))) ≡ false → lines_taken g F i j m ≡ m
            go false e t = many-still g m F w.framed i j up hj e
            go true e t =
                let o = (neither (not (eqb (heat_of N) 0)) (not (lone (at N i)))).0 t in
                lone-still g m F w.framed i j up hj (eqb-true (heat_of N) 0 (not-not (eqb (heat_of N) 0) o.0)) (not-not (lone (at N i)) o.1)

    pub turned-seen : lines_turned g F i j (union (at n i) (at n j)) m ≡ lines_taken g F i j m
    turned-seen = by_lines (λ q n h. lines_turned g F i j (union (at n i) (at n j)) m ≡ lines_taken g F i j m) (turned_taken g m F w.framed i j up hj)

    pub held-seen : union (at n i) (at n j) ≡ two_held m F i j
    held-seen = by_lines (λ q n h. union (at n i) (at n j) ≡ two_held m F i j) (sym (held-is m F w.framed i j (omega arith) hj))

    pub left-seen : lines_left n (set (set q i 0) j 0) (reach_of (union (at n i) (at n j))) ≡ nines (line_masks (lines_turned g F i j (union (at n i) (at n j)) m) F)
    left-seen =
        by_lines (λ q n h. lines_left n (set (set q i 0) j 0) (reach_of (union (at n i) (at n j))) ≡ nines (line_masks (lines_turned g F i j (union (at n i) (at n j)) m) F))
        (sym (lines-turned g m F w.framed i j up hj (union (at (nines (line_masks m F)) i) (at (nines (line_masks m F)) j)) (two-low g m F w.framed i j up hj)))

    -- something is lost, if an open cell of another line holds what can be lost
    pub lost-seen : bit_and (open_held n (set (set q i 0) j 0)) (reach_of (union (at n i) (at n j))) ≢ 0 → same_masks m (lines_turned g F i j (union (at n i) (at n j)) m) ≡ false
    lost-seen some = go (same_masks m (lines_turned g F i j (union (at n i) (at n j)) m)) refl
      where
        go : (t : Bool) → same_masks m (lines_turned g F i j (union (at n i) (at n j)) m) ≡ t → t ≡ false
        go false e = refl
        go true e =
            absurd (some (left-none n (set (set q i 0) j 0) (reach_of (union (at n i) (at n j)))
            (left-seen ∙ sym (ap (λ (o : List ℕ). nines (line_masks o F)) (same-eq m (lines_turned g F i j (union (at n i) (at n j)) m) e)) ∙ sym w.held)))
