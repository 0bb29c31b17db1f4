-- The peers of a cell are the other cells of its row, its column and its box: where these lose digits while the cell holds nothing, and it gets back what it held, the peers have lost them. Assumes nothing.
use mathlib.Core.Path.{◌≡◌, sym, ap, ◌∙◌, subst}
use mathlib.Core.Logic.{◌≢◌, ◌↔◌, ⊎_elim}
use mathlib.Core.Bool.{Bool, true, not, ◌||◌, true≢false}
use mathlib.Core.List.Memᴰ
use mathlib.Core.List.{List, ◌++◌, Memᴰ}
use Prim.Native.Nat.{ℕ, ◌+◌, ◌≤◌, ◌<◌}
use native.Mathlib.Decide.{ℕ_discrete, dec_lt}
use native.Mathlib.Omega.{arith}
use lib.ListN.{length, set, length-set, get_or-eq_default}
use lib.Seq.{get_or-set_same, get_or-set_other, set_out, set-get_or, set-set}
use Rattle.candidates.specs.Masks.{has, union, Sub}
use Rattle.candidates.proofs.Held.{held_all}
use Rattle.candidates.proofs.Order.{sub-antisym, sub-none, sub_trans, union_left, union_right}
use Rattle.candidates.proofs.Tests.{bool_iff, cond-true}
use Rattle.grid.specs.Cells.{row, col, box, peers}
use Rattle.grid.specs.Units.{unit, in_unit}
use Rattle.grid.proofs.Cells.{row_below, col-below, box-below, row_in, col-in, box_in_lem, share-sees, sees-irrefl, sees-shared, peer-sees, sees-peer}
use Rattle.grid.proofs.Units.{kind, by-unit, member_below, member-in, member-mem, mem-member}
use Rattle.steps.specs.Boards.{at, is_open, same_masks}
use Rattle.steps.specs.Passes.{changed}
use Rattle.steps.specs.Published.{Candidate, Without}
use Rattle.steps.specs.Steps.{lose_at, lose_all}
use Rattle.steps.proofs.Loops.{each_append}
use Rattle.steps.proofs.Losses.{Lost, lost-digits, without-same}
use Rattle.steps.proofs.Masks.{same-eq, same_refl}
use Rattle.steps.proofs.Steps.{all-length}
use Rattle.cells.specs.code.Places.{lose_places}
use Rattle.cells.proofs.Losses.{Went, went_on, went-places}
use Rattle.cells.proofs.Places.{places-lose}
use Rattle.lone_place.specs.code.Turns.{peers_lose}
use Rattle.lone_place.specs.code.Due.{around}

pub not_own : (c : ℕ) → Memᴰ c (peers c) → ⊥
not_own c k = true≢false (sym (peer-sees c c k).1 ∙ sees-irrefl c)

-- a mask that is put back
put_back : (m n : List ℕ) (c : ℕ) → length n ≡ length m → at (set n c (at m c)) c ≡ at m c
put_back m n c e = go (dec_lt c (length n))
  where
    go : Dec (c < length n) → at (set n c (at m c)) c ≡ at m c
    go (yes h) = get_or-set_same n c (at m c) 0 h
    go (no h) =
        let out : length n ≤ c = omega arith in
        let past : length m ≤ c = omega arith in
        ap (λ (l : List ℕ). at l c) (set_out n c (at m c) out) ∙ get_or-eq_default n 0 out ∙ sym (get_or-eq_default m 0 past)

-- a cell that holds nothing while the others lose, and gets back what it held
module _ (m : List ℕ) (c : ℕ) where
  emptied : at (set m c 0) c ≡ 0
  emptied = go (dec_lt c (length m))
    where
      go : Dec (c < length m) → at (set m c 0) c ≡ 0
      go (yes h) = get_or-set_same m c 0 0 h
      go (no h) =
          let out : length m ≤ c = omega arith in
          ap (λ (l : List ℕ). at l c) (set_out m c 0 out) ∙ get_or-eq_default m 0 out

  told-apart : {x : Bool} {n : List ℕ} → Went x (set m c 0) n → x ≡ changed m (set n c (at m c))
  told-apart {x} {n} w =
      w.told
      ∙ ap not
      (bool_iff (same_masks (set m c 0) n) (same_masks m (set n c (at m c)))
      (λ e. ap (same_masks m) (ap (λ (o : List ℕ). set o c (at m c)) (sym (same-eq (set m c 0) n e)) ∙ set-set m c 0 (at m c) ∙ set-get_or m c 0) ∙ same_refl m)
      (λ e. ap (λ (o : List ℕ). same_masks o n) (ap (λ (o : List ℕ). set o c 0) (same-eq m (set n c (at m c)) e) ∙ set-set n c (at m c) 0 ∙ ap (set n c) (sym none) ∙ set-get_or n c 0) ∙ same_refl n))
    where
      none : at n c ≡ 0
      none = sub-antisym (subst (Sub (at n c)) emptied (w.under.at c)) (sub-none (at n c))

-- a unit of the cell is its row, its column or its box
pub in-around : (f : ℕ → ℕ) (c u : ℕ) → u < 27 → in_unit u c ≡ true → Sub (f u) (around f c)
in-around f c u l t =
    by-unit (λ (v : ℕ). Sub (f v) (around f c)) c (sub_trans (union_left (f (row c)) (f (9 + col c))) (union_left lines (f (18 + box c))))
    (sub_trans (union_right (f (row c)) (f (9 + col c))) (union_left lines (f (18 + box c)))) (union_right lines (f (18 + box c))) u (kind u l) t
  where
    lines : ℕ
    lines = union (f (row c)) (f (9 + col c))

module _ (g : List ℕ) (c k : ℕ) (h : c < 81) (m : List ℕ) where
  three : List ℕ
  three = unit (row c) ++ (unit (9 + col c) ++ unit (18 + box c))

  -- a cell of a unit of c, other than c
  near : (u e : ℕ) → u < 27 → in_unit u c ≡ true → e ≢ c → Memᴰ e (unit u) → Memᴰ e (peers c)
  near u e l t n w =
      let i = mem-member l w in
      sees-peer c e (member_below l i) (share-sees u c e l (λ q. n (sym q)) t (member-in l i))

  listed-peer : (e : ℕ) → e ≢ c → Memᴰ e three → Memᴰ e (peers c)
  unfolding three
  listed-peer e n w =
      ⊎_elim (near (row c) e (omega (arith, row_below c h)) (row_in c h) n)
      (λ v. ⊎_elim (near (9 + col c) e (omega (arith, col-below c)) (col-in c) n) (near (18 + box c) e (omega (arith, box-below c h)) (box_in_lem c h) n) (Memᴰ.append_cases (unit (9 + col c)) v))
      (Memᴰ.append_cases (unit (row c)) w)

  peer-listed : (e : ℕ) → Memᴰ e (peers c) → Memᴰ e three
  unfolding three
  peer-listed e w =
      let p = peer-sees c e w in
      let q = sees-shared c e h p.0 p.1 in
      by-unit (λ (u : ℕ). Memᴰ e (unit u) → Memᴰ e three) c (λ r. Memᴰ.append_left (unit (9 + col c) ++ unit (18 + box c)) r)
      (λ r. Memᴰ.append_right (unit (row c)) (Memᴰ.append_left (unit (18 + box c)) r))
      (λ r. Memᴰ.append_right (unit (row c)) (Memᴰ.append_right (unit (9 + col c)) r)) q.shared (kind q.shared q.within) (member-in q.within q.first) (member-mem q.within q.second)

  lost : List ℕ
  lost = lose_all (is_open g) three (λ _. k) (set m c 0)

  same_size : length lost ≡ length m
  unfolding lost
  same_size = all-length (is_open g) three (λ _. k) (set m c 0) ∙ length-set m c 0

  back : Without m (Lost (is_open g) (λ _. k) (peers c)) (set lost c (at m c))
  back = record { size = length-set lost c (at m c) ∙ same_size; left = λ e d. go e d (ℕ_discrete e c) }
    where
      by_mask : (e d : ℕ) {x : ℕ} → at (set lost c (at m c)) e ≡ x → (has x d ≡ true) ↔ (Candidate m e d × ¬ (Lost (is_open g) (λ _. k) (peers c) e d))
          → Candidate (set lost c (at m c)) e d ↔ (Candidate m e d × ¬ (Lost (is_open g) (λ _. k) (peers c) e d))
      by_mask e d q w = subst (λ (x : ℕ). (has x d ≡ true) ↔ (Candidate m e d × ¬ (Lost (is_open g) (λ _. k) (peers c) e d))) (sym q) w

      go : (e d : ℕ) → Dec (e ≡ c) → Candidate (set lost c (at m c)) e d ↔ (Candidate m e d × ¬ (Lost (is_open g) (λ _. k) (peers c) e d))
      go e d (yes q) =
          by_mask e d (ap (at (set lost c (at m c))) q ∙ put_back m lost c same_size ∙ ap (at m) (sym q))
          (λ t. (t, λ l. not_own c (subst (λ (x : ℕ). Memᴰ x (peers c)) q l.listed)), λ w. w.0)
      go e d (no n) =
          by_mask e d (get_or-set_other lost c e (at m c) 0 n)
          (unfold lost in
          let w = lost-digits (is_open g) (λ _. k) three (set m c 0) e d in
          let other = ap (λ (x : ℕ). has x d) (get_or-set_other m c e 0 0 n) in (
            λ t. (sym other ∙ (w.0 t).0, λ l. (w.0 t).1 (record { listed = peer-listed e l.listed; free = l.free; digit = l.digit })),
            λ v. w.1 (other ∙ v.0, λ l. v.1 (record { listed = listed-peer e n l.listed; free = l.free; digit = l.digit })),
          ))

  whole : (u : ℕ) → u < 27 → (n : List ℕ) → lose_places (is_open g) u 511 k n ≡ lose_all (is_open g) (unit u) (λ _. k) n
  whole u l n = places-lose (is_open g) u l 511 k (λ _. k) (λ i o. sym (cond-true (has 511 i) k 0 (held_all i o))) n

  -- as code goes about it
  module _ {r p b : ℕ} {first second third : List ℕ} (er : r ≡ row c) (ep : p ≡ col c) (eb : b ≡ box c)
      (e₁ : first ≡ lose_places (is_open g) r 511 k (set m c 0)) (e₂ : second ≡ lose_places (is_open g) (9 + p) 511 k first) (e₃ : third ≡ lose_places (is_open g) (18 + b) 511 k second) where
    in_row : r < 27
    in_row = omega (arith, row_below c h)

    in-col : 9 + p < 27
    in-col = omega (arith, col-below c)

    in-box : 18 + b < 27
    in-box = omega (arith, box-below c h)

    as_one : third ≡ lost
    unfolding lost three
    as_one =
        e₃ ∙ whole (18 + b) in-box second ∙ ap (lose_all (is_open g) (unit (18 + b)) (λ _. k)) (e₂ ∙ whole (9 + p) in-col first ∙ ap (lose_all (is_open g) (unit (9 + p)) (λ _. k)) (e₁ ∙ whole r in_row (set m c 0)))
        ∙ rw (er, ep, eb)
        (sym (each_append one (unit (9 + col c)) (unit (18 + box c)) (lose_all (is_open g) (unit (row c)) (λ _. k) (set m c 0))) ∙ sym (each_append one (unit (row c)) (unit (9 + col c) ++ unit (18 + box c)) (set m c 0)))
      where
        one : ℕ → List ℕ → List ℕ
        one e n = lose_at (is_open g) e k n

    pub units-lose : set third c (at m c) ≡ peers_lose g c k m
    unfolding peers_lose
    units-lose =
        ap (λ (n : List ℕ). set n c (at m c)) as_one
        ∙ without-same back (record { size = all-length (is_open g) (peers c) (λ _. k) m; left = lost-digits (is_open g) (λ _. k) (peers c) m })

    -- what the three tell
    pub units-tell : {x y z : Bool} → x ≡ changed (set m c 0) first → y ≡ changed first second → z ≡ changed second third → ((x || y) || z) ≡ changed m (set third c (at m c))
    units-tell t₁ t₂ t₃ = told-apart m c (went_on (went_on (went-places (is_open g) r 511 k e₁ t₁) (went-places (is_open g) (9 + p) 511 k e₂ t₂)) (went-places (is_open g) (18 + b) 511 k e₃ t₃))
