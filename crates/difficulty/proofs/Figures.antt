-- Cells counted, points of six counts, and that the figure is small. Assumes nothing.
use mathlib.Core.Path.{◌≡◌, refl, sym, ap, subst, ◌∙◌}
use mathlib.Core.Bool.{Bool, true, false, cond}
use mathlib.Core.List.{List, [], ◌∷◌}
use mathlib.Core.Logic.{◌≢◌}
use Prim.Native.Nat.{ℕ, zero, suc, ◌+◌, ◌*◌, ◌≤◌}
use native.Mathlib.Nat.{div-le_self, mod-le}
use native.Mathlib.Omega.{arith}
use borrow.Author.Tests.{eq-eqb, ne_eqb}
use lib.Dec.{eqb}
use lib.ListN.{length, get_or}
use Rattle.std.specs.List.{count_by}
use Rattle.std.proofs.lemmas.List.Recursion.{is_count_by}
use Rattle.stops.specs.Answer.{Answer, gives, stop, then}
use Rattle.stops.specs.declared.Stop.TheVariants.{NoOpenCell}
use Rattle.stops.proofs.Answers.{gives_same, stop-gives}
use Rattle.candidates.proofs.Tests.{by-test, cond-true, cond-false}
use Rattle.grid.specs.Cells.{cells}
use Rattle.grid.specs.Lists.{range, select}
use Rattle.steps.specs.Boards.{Board, Givens, givens, is_open, fresh}
use Rattle.steps.specs.Calls.{check_of}
use Rattle.steps.specs.Difficulty.{summed, pass_counts, weighed, worth, points_of, open_cells, Figure, figure_of, difficulty_of}
use Rattle.steps.specs.Passes.{settle}
use Rattle.steps.proofs.Difficulty.{six-counts, counts-sum}
use Rattle.steps.proofs.Fresh.{fresh-admissible, total-most}
use Rattle.steps.proofs.Lists.{board-givens}
use Rattle.difficulty.specs.code.Rates.{rating_by, rate_of}

-- ---- open cells

-- one more number, and each number one less
shifted : (f : ℕ → Bool) (n k : ℕ) → length (select f (range n (suc k))) ≡ length (select (λ c. f (suc c)) (range n k))
shifted f zero k = refl
shifted f (suc n) k = go (f (suc k)) (select f (range n (suc (suc k)))) (select (λ c. f (suc c)) (range n (suc k))) (shifted f n (suc k))
  where
    go : (t : Bool) (xs ys : List ℕ) → length xs ≡ length ys → length (cond t (suc k ∷ xs) xs) ≡ length (cond t (k ∷ ys) ys)
    go true xs ys e = ap suc e
    go false xs ys e = e

-- the elements that pass a test are as many as their places
module _ (p : ℕ → Bool) where
  abbrev places : List ℕ → ℕ
  places xs = length (select (λ c. p (get_or xs c 0)) (range (length xs) 0))

  counted : (xs : List ℕ) → places xs ≡ count_by p xs
  counted = is_count_by places p refl (λ x xs. go (p x) (select (λ c. p (get_or (x ∷ xs) c 0)) (range (length xs) 1)) (shifted (λ c. p (get_or (x ∷ xs) c 0)) (length xs) 0))
    where
      go : (t : Bool) {m : ℕ} (ys : List ℕ) → length ys ≡ m → length (cond t (0 ∷ ys) ys) ≡ cond t (1 + m) m
      go true ys e = omega (arith, e)
      go false ys e = e

module _ (g : List ℕ) where
  -- how many of these cells are open
  abbrev pub open_of : List ℕ → ℕ
  open_of cs = length (select (is_open g) cs)

  -- counted over the givens themselves
  pub open-counted : length g ≡ 81 → count_by (λ x. eqb x 0) g ≡ open_cells g
  unfolding open_cells cells
  open-counted e = sym (counted (λ x. eqb x 0) g) ∙ ap (λ (n : ℕ). open_of (range n 0)) e

  open-few : (cs : List ℕ) → open_of cs ≤ length cs
  open-few [] = omega arith
  open-few (c ∷ cs) = by-test (λ (l : List ℕ). length l ≤ suc (length cs)) (is_open g c) (c ∷ select (is_open g) cs) (select (is_open g) cs) (λ t. omega (arith, open-few cs)) (λ t. omega (arith, open-few cs))

  pub cells-few : open_cells g ≤ 81
  unfolding open_cells cells
  cells-few = open-few cells

-- ---- points

-- six counts by their places
pub record Six (l : List ℕ) : Type 0 where
  pub sum : summed l ≡ get_or l 0 0 + get_or l 1 0 + get_or l 2 0 + get_or l 3 0 + get_or l 4 0 + get_or l 5 0
  pub points : points_of l ≡ get_or l 0 0 + 2 * get_or l 1 0 + 4 * get_or l 2 0 + 3 * get_or l 3 0 + 3 * get_or l 4 0 + 6 * get_or l 5 0

pub six : (l : List ℕ) → length l ≡ 6 → Six l
unfolding summed points_of weighed worth
six [] e = absurd (omega (arith, e))
six (a ∷ []) e = absurd (omega (arith, e))
six (a ∷ b ∷ []) e = absurd (omega (arith, e))
six (a ∷ b ∷ c ∷ []) e = absurd (omega (arith, e))
six (a ∷ b ∷ c ∷ d ∷ []) e = absurd (omega (arith, e))
six (a ∷ b ∷ c ∷ d ∷ f ∷ []) e = absurd (omega (arith, e))
six (a ∷ b ∷ c ∷ d ∷ f ∷ h ∷ []) e = record { sum = omega arith; points = omega arith }
six (a ∷ b ∷ c ∷ d ∷ f ∷ h ∷ j ∷ l) e = absurd (omega (arith, e))

module _ (g : List ℕ) (ok : Givens g) where
  pub counts-few : summed (pass_counts g (fresh g)) ≤ 729
  counts-few = omega (arith, counts-sum g (fresh g), total-most g (fresh g) ok (fresh-admissible g))

  pub points-few : points_of (pass_counts g (fresh g)) ≤ 4374
  points-few =
      let l = pass_counts g (fresh g) in
      let s = six l (unfold pass_counts in six-counts g (settle g (fresh g)).sweeps (fresh g)) in
      omega (arith, s.sum, s.points, counts-few)

-- ---- the answer on a board that was checked

module _ (g counts : List ℕ) where
  pub none_open : open_cells g ≡ 0 → stop NoOpenCell ≡ rating_by g counts
  none_open e = sym (cond-true (eqb (open_cells g) 0) (stop NoOpenCell) (gives (figure_of (points_of counts) (open_cells g))) (eq-eqb (open_cells g) 0 e))

  pub some-open : open_cells g ≢ 0 → gives (figure_of (points_of counts) (open_cells g)) ≡ rating_by g counts
  some-open e = sym (cond-false (eqb (open_cells g) 0) (stop NoOpenCell) (gives (figure_of (points_of counts) (open_cells g))) (ne_eqb (open_cells g) 0 e))

-- the call's, by what the check answered
pub rated : (b : Board) {a : Answer (Unit {0})} → a ≡ check_of b → then a (λ _. rate_of (givens b)) ≡ difficulty_of b
unfolding difficulty_of
rated b e = ap (λ (a : Answer (Unit {0})). then a (λ _. rate_of (givens b))) e

-- ---- a figure's numbers are small

pub record Small (f : Figure) : Type 0 where
  pub points : f.points ≤ 4374
  pub cells : f.cells ≤ 81
  pub quotient : f.quotient ≤ 4374
  pub remainder : f.remainder ≤ 4374

pub small_of : (p n : ℕ) → p ≤ 4374 → n ≤ 81 → Small (figure_of p n)
unfolding figure_of
small_of p n few cells = record { points = few; cells = cells; quotient = omega (arith, div-le_self p n, few); remainder = omega (arith, mod-le p n, few) }

pub figure-small : (b : Board) (f : Figure) → difficulty_of b ≡ gives f → Small f
unfolding difficulty_of
figure-small b f = go (check_of b) (eqb n 0)
  where
    n : ℕ
    n = open_cells (givens b)

    p : ℕ
    p = points_of (pass_counts (givens b) (fresh (givens b)))

    go : (a : Answer (Unit {0})) (t : Bool) → then a (λ _. cond t (stop NoOpenCell) (gives (figure_of p n))) ≡ gives f → Small f
    go (stop s) t w = absurd (stop-gives w)
    go (gives u) true w = absurd (stop-gives w)
    go (gives u) false w = subst Small (gives_same w) (small_of p n (points-few (givens b) (board-givens b)) (cells-few (givens b)))
