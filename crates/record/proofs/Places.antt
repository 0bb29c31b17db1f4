-- The candidates of 81 sets, cell by cell and in each by its lowest digit. Assumes nothing.
use mathlib.Core.Path.{◌≡◌, refl, sym, ap, ◌∙◌}
use mathlib.Core.Bool.{Bool, true, false, cond}
use mathlib.Core.List.{List, [], ◌∷◌, ◌++◌, map}
use Prim.Native.Nat.{ℕ, zero, suc, ◌+◌, ◌-◌, ◌*◌, ◌/◌, ◌%◌, ◌≤◌, ◌<◌}
use native.Mathlib.Omega.{arith}
use lib.Bits.{bit_and, and_le_r}
use lib.Dec.{eqb}
use lib.ListN.{length, set, length-append}
use lib.Seq.{sets}
use Rattle.candidates.specs.Masks.{bit, has, lowest, tail}
use Rattle.candidates.proofs.Membership.{bit-and, bit-all}
use Rattle.steps.specs.Boards.{at}
use Rattle.steps.specs.Loops.{range, select}
use Rattle.cells.specs.code.Places.{places_in}
use Rattle.cells.proofs.Rising.{places-on, lowest-place}
use Rattle.text.proofs.Gathering.{select-append}
use Rattle.record.specs.code.Places.{cell_candidates}
use Rattle.record.specs.Sections.{in_sets, entry_bytes, stored}
use Rattle.record.proofs.CandidateLists.{in_cell}
use Rattle.record.proofs.Stores.{stored-append}
use Rattle.record.proofs.Writing.{rest, entries-length, entries-append}

-- ---- one cell

pub cell-none : (c x : ℕ) → x ≡ 0 → cell_candidates c x ≡ []
cell-none c x e = ap (cell_candidates c) e

-- higher bits have no part in it
pub places-nine : (x : ℕ) → places_in (bit_and x 511) ≡ places_in x
places-nine x = go 9 0 (omega arith)
  where
    digit : (d : ℕ) → d < 9 → has (bit_and x 511) d ≡ has x d
    digit d h =
        let e : bit (bit_and x 511) d ≡ bit x d = omega (arith, bit-and x 511 d, bit-all d h) in
        ap (λ (n : ℕ). eqb n 1) e

    go : (n k : ℕ) → k + n ≤ 9 → select (has (bit_and x 511)) (range n k) ≡ select (has x) (range n k)
    go zero k h = refl
    go (suc n) k h =
        ap (λ (t : Bool). cond t (k ∷ select (has (bit_and x 511)) (range n (suc k))) (select (has (bit_and x 511)) (range n (suc k)))) (digit k (omega arith))
        ∙ ap (λ (l : List ℕ). cond (has x k) (k ∷ l) l) (go n (suc k) (omega arith))

pub nine-small : (x : ℕ) → bit_and x 511 < 512
nine-small x = omega (arith, and_le_r x 511)

module _ (c x : ℕ) (p : 0 < x) (h : x < 512) where
  split : cell_candidates c x ≡ (9 * c + lowest x) ∷ cell_candidates c (tail x)
  split = ap (map (λ d. 9 * c + d)) (places-on x p h)

  pub digit-less : length (cell_candidates c x) ≡ suc (length (cell_candidates c (tail x)))
  digit-less = ap length split

  -- one turn of the loop over a cell's digits, from the bytes l and the offset i to b and j
  pub digit-put : (l : List ℕ) (i : ℕ) {b w : List ℕ} {j : ℕ} → stored l i (entry_bytes (cell_candidates c x)) ≡ w → b ≡ set (set l i c) (i + 1) (lowest x + 1) → j ≡ i + 2 → stored b j (entry_bytes (cell_candidates c (tail x))) ≡ w
  digit-put l i {b} {j = j} left q r =
      let k = 9 * c + lowest x in
      let rest = entry_bytes (cell_candidates c (tail x)) in
      let n : j ≡ suc (suc i) = omega arith in
      let m : i + 1 ≡ suc i = omega arith in
      let cell : c ≡ k / 9 = omega (arith, lowest-place x p h) in
      let digit : lowest x + 1 ≡ k % 9 + 1 = omega (arith, lowest-place x p h) in
      ap (λ (a : ℕ). sets b a rest) n ∙ ap (λ (a : List ℕ). sets a (suc (suc i)) rest) q
      ∙ ap (λ (a : ℕ). sets (set (set l i c) a (lowest x + 1)) (suc (suc i)) rest) m
      ∙ ap (λ (a : ℕ). sets (set (set l i a) (suc i) (lowest x + 1)) (suc (suc i)) rest) cell
      ∙ ap (λ (a : ℕ). sets (set (set l i (k / 9)) (suc i) a) (suc (suc i)) rest) digit
      ∙ sym (ap (λ (ks : List ℕ). sets l i (entry_bytes ks)) split) ∙ left

-- ---- the cells

range_split : (n m k : ℕ) → range (n + m) k ≡ range n k ++ range m (k + n)
range_split zero m k =
    let z : k ≡ k + 0 = omega arith in
    let y : 0 + m ≡ m = omega arith in
    ap (λ (a : ℕ). range a k) y ∙ ap (range m) z
range_split (suc n) m k =
    let z : suc k + n ≡ k + suc n = omega arith in
    let y : suc n + m ≡ suc (n + m) = omega arith in
    ap (λ (a : ℕ). range a k) y ∙ ap (λ (l : List ℕ). k ∷ l) (range_split n m (suc k) ∙ ap (λ (a : ℕ). range n (suc k) ++ range m a) z)

module _ (s : List ℕ) (c : ℕ) where
  in-places : (n d k : ℕ) → k ≡ 9 * c + d → d + n ≤ 9 → select (in_sets s) (range n k) ≡ map (λ d. 9 * c + d) (select (has (at s c)) (range n d))
  in-places zero d k e h = refl
  in-places (suc n) d k e h =
      ap (λ (t : Bool). cond t (k ∷ select (in_sets s) (range n (suc k))) (select (in_sets s) (range n (suc k)))) (ap (in_sets s) e ∙ in_cell s c d (omega arith))
      ∙ go (has (at s c) d) (in-places n (suc d) (suc k) (omega arith) (omega arith))
    where
      go : (t : Bool) → select (in_sets s) (range n (suc k)) ≡ map (λ d. 9 * c + d) (select (has (at s c)) (range n (suc d)))
          → cond t (k ∷ select (in_sets s) (range n (suc k))) (select (in_sets s) (range n (suc k)))
          ≡ map (λ d. 9 * c + d) (cond t (d ∷ select (has (at s c)) (range n (suc d))) (select (has (at s c)) (range n (suc d))))
      go true q = ap (λ (a : ℕ). a ∷ select (in_sets s) (range n (suc k))) e ∙ ap (λ (l : List ℕ). (9 * c + d) ∷ l) q
      go false q = q

  cell-rest : c < 81 → rest s (9 * c) ≡ cell_candidates c (at s c) ++ rest s (9 * (c + 1))
  unfolding rest
  cell-rest h =
      let n : 729 - 9 * c ≡ 9 + (729 - 9 * (c + 1)) = omega arith in
      let m : 9 * c + 9 ≡ 9 * (c + 1) = omega arith in
      let z : 9 * c ≡ 9 * c + 0 = omega arith in
      ap (λ (a : ℕ). select (in_sets s) (range a (9 * c))) n
      ∙ ap (select (in_sets s)) (range_split 9 (729 - 9 * (c + 1)) (9 * c))
      ∙ select-append (in_sets s) (range 9 (9 * c)) (range (729 - 9 * (c + 1)) (9 * c + 9))
      ∙ ap (λ (l : List ℕ). l ++ select (in_sets s) (range (729 - 9 * (c + 1)) (9 * c + 9))) (in-places 9 0 (9 * c) z (omega arith))
      ∙ ap (λ (a : ℕ). cell_candidates c (at s c) ++ select (in_sets s) (range (729 - 9 * (c + 1)) a)) m

  pub cell-rest-length : c < 81 → length (rest s (9 * c)) ≡ length (cell_candidates c (at s c)) + length (rest s (9 * (c + 1)))
  cell-rest-length h = ap length (cell-rest h) ∙ length-append (cell_candidates c (at s c)) (rest s (9 * (c + 1)))

  -- one turn of the loop over cells, from the bytes l and the offset i to b and j
  pub cell-put : c < 81 → (l : List ℕ) (i : ℕ) {b w : List ℕ} {j : ℕ} → stored l i (entry_bytes (rest s (9 * c))) ≡ w
      → b ≡ stored l i (entry_bytes (cell_candidates c (at s c))) → j ≡ i + 2 * length (cell_candidates c (at s c)) → stored b j (entry_bytes (rest s (9 * (c + 1)))) ≡ w
  cell-put h l i {b} {j = j} left p q =
      let x = entry_bytes (cell_candidates c (at s c)) in
      let y = entry_bytes (rest s (9 * (c + 1))) in
      let n : j ≡ i + length x = omega (arith, entries-length (cell_candidates c (at s c))) in
      ap (λ (a : List ℕ). stored a j y) p ∙ ap (λ (a : ℕ). stored (stored l i x) a y) n ∙ sym (stored-append l i x y)
      ∙ ap (stored l i) (sym (ap entry_bytes (cell-rest h) ∙ entries-append (cell_candidates c (at s c)) (rest s (9 * (c + 1))))) ∙ left
