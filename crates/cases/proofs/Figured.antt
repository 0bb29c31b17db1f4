-- Document 02, F-14: the difficulty figure of P10, and two boards that have none. Assumes nothing.
use mathlib.Core.Path.{◌≡◌, refl, ap, ap₂, ◌∙◌}
use mathlib.Core.Bool.{cond}
use mathlib.Core.List.{List, [], ◌∷◌}
use Prim.Native.Nat.{ℕ}
use lib.Count.{ones}
use lib.Dec.{eqb}
use lib.IntN.{pos}
use lib.ListN.{replicate}
use Rattle.stops.specs.Answer.{Answer, gives, stop, then}
use Rattle.stops.specs.declared.Stop.TheVariants.{NoOpenCell}
use Rattle.grid.specs.Cells.{cells}
use Rattle.steps.specs.Boards.{Board, givens_of, givens, fresh, together, total}
use Rattle.steps.specs.Calls.{Clues, check_of, opened, opened_with}
use Rattle.steps.specs.Difficulty.{added, removed_each, removed_in, pass_counts, worth, weighed, points_of, open_cells, Figure, figure_of, difficulty_of}
use Rattle.steps.specs.Loops.{for}
use Rattle.steps.specs.Passes.{Kind, Lone, Place, Pair, Pointing, Claiming, Cross, kinds, pass, Sweeps, removed_by}
use Rattle.steps.proofs.Check.{clues-by}
use Rattle.steps.proofs.Entries.{givens-none}
use Rattle.steps.proofs.Lists.{opened-taken}
use Rattle.cases.specs.Cases.{CaseDifficulty, fresh_masks, with_entry}
use Rattle.cases.specs.Grids.{grid_of, grid_a, p5, p10}
use Rattle.cases.proofs.Entered.{p10-clues, one-taken}
use Rattle.cases.proofs.Laws.{fresh-value}
use Rattle.cases.proofs.P10.{g, m, n, values, lone₁, place₁, pair₁, pointing₁, lone₂, place₂, pair₂, pointing₂, claiming, cross, sweep₁, settles}

-- ---- what the two sweeps of P10 remove

-- one pass, and those after it
next-pass : (k : Kind) (ks : List Kind) (a : List ℕ) {b l : List ℕ} → pass g k a ≡ b → removed_each g ks b ≡ l → removed_each g (k ∷ ks) a ≡ removed_by a b ∷ l
unfolding removed_each
next-pass k ks a {b = b} p e = ap (λ (c : List ℕ). removed_by a c ∷ removed_each g ks c) p ∙ ap (λ (l : List ℕ). removed_by a b ∷ l) e

-- a sweep from `a` in which Pointing leaves `b`
one-sweep : (a b : List ℕ) → pass g Lone a ≡ a → pass g Place a ≡ a → pass g Pair a ≡ a → pass g Pointing a ≡ b → pass g Claiming b ≡ b → pass g Cross b ≡ b
    → removed_each g kinds a ≡ removed_by a a ∷ removed_by a a ∷ removed_by a a ∷ removed_by a b ∷ removed_by b b ∷ removed_by b b ∷ []
one-sweep a b l p q r s t =
    next-pass Lone (Place ∷ Pair ∷ Pointing ∷ Claiming ∷ Cross ∷ []) a l
    (next-pass Place (Pair ∷ Pointing ∷ Claiming ∷ Cross ∷ []) a p
    (next-pass Pair (Pointing ∷ Claiming ∷ Cross ∷ []) a q
    (next-pass Pointing (Claiming ∷ Cross ∷ []) a r
    (next-pass Claiming (Cross ∷ []) b s (next-pass Cross [] b t (unfold removed_each in refl))))))

abbrev eighteen : List ℕ
eighteen = 0 ∷ 0 ∷ 0 ∷ 18 ∷ 0 ∷ 0 ∷ []

first-sweep : removed_each g kinds m ≡ eighteen
unfolding total ones m n
first-sweep = one-sweep m n lone₁ place₁ pair₁ pointing₁ claiming cross

second-sweep : removed_each g kinds n ≡ replicate 6 0
unfolding total ones n
second-sweep = one-sweep n n lone₂ place₂ pair₂ pointing₂ claiming cross

counted : pass_counts g m ≡ eighteen
unfolding pass_counts removed_in added
counted =
    ap (λ (s : Sweeps). removed_in g s.sweeps m) settles
    ∙ ap₂ added first-sweep (ap (λ (l : List ℕ). added (removed_each g kinds l) (replicate 6 0)) sweep₁ ∙ ap (λ (l : List ℕ). added l (replicate 6 0)) second-sweep)

-- ---- the call

-- on a board that the check takes
on-taken : (b : Board) {l : List ℕ} → check_of b ≡ gives tt → givens b ≡ l → difficulty_of b ≡ cond (eqb (open_cells l) 0) (stop NoOpenCell) (gives (figure_of (points_of (pass_counts l (fresh l))) (open_cells l)))
unfolding difficulty_of
on-taken b t e =
    ap (λ (a : Answer (Unit {0})). then a (λ _. answered (givens b))) t ∙ ap answered e
  where
    answered : List ℕ → Answer Figure
    answered l = cond (eqb (open_cells l) 0) (stop NoOpenCell) (gives (figure_of (points_of (pass_counts l (fresh l))) (open_cells l)))

-- one that has no open cell left
none_left : (b : Board) {l : List ℕ} → check_of b ≡ gives tt → givens b ≡ l → open_cells l ≡ 0 → difficulty_of b ≡ stop NoOpenCell
none_left b {l = l} t e none = on-taken b t e ∙ rw none

seventy-five : open_cells g ≡ 75
unfolding open_cells g cells
seventy-five = refl

worked-out : figure_of (points_of eighteen) 75 ≡ record { points = 54; cells = 75; quotient = 0; remainder = 54 }
unfolding figure_of points_of weighed worth
worked-out = refl

p10-figure : difficulty_of (opened p10) ≡ gives (record { points = 54; cells = 75; quotient = 0; remainder = 54 })
unfolding opened_with
p10-figure =
    on-taken (opened p10) (opened-taken p10 p10-clues) (givens-none p10 ∙ values.givens)
    ∙ rw (seventy-five, values.masks, counted) (ap gives worked-out)

full-clues : Clues grid_a
unfolding grid_a grid_of for
full-clues = clues-by grid_a refl tt

full-givens : open_cells (givens_of grid_a) ≡ 0
unfolding open_cells givens_of grid_a grid_of for cells
full-givens = refl

entered-givens : open_cells (givens_of (together p5 (with_entry p5 0 (pos 1)).entries)) ≡ 0
unfolding open_cells givens_of together opened_with p5 grid_a grid_of for cells
entered-givens = refl

pub difficulty-holds : CaseDifficulty
unfolding opened_with
difficulty-holds =
    record {
      counts = ap (λ (l : List ℕ). pass_counts l (fresh_masks p10)) values.givens ∙ ap (pass_counts g) (fresh-value values) ∙ counted;
      figure = p10-figure;
      full = none_left (opened grid_a) (opened-taken grid_a full-clues) (givens-none grid_a) full-givens;
      entered = none_left (with_entry p5 0 (pos 1)) one-taken refl entered-givens;
      row19 = refl;
    }
