-- One chain pass costs a correct filling on the grid of three clues: it removes 1 from cell 28. Assumes nothing.
use mathlib.Core.Path.{◌≡◌, refl, sym, ap, ap₂, ◌∙◌}
use mathlib.Core.Logic.{⊎_elim}
use mathlib.Core.Bool.{Bool, true, ◌||◌, true≢false}
use mathlib.Core.List.{List, [], ◌∷◌, map}
use mathlib.Core.Option.{Option, none, some}
use Prim.Native.Nat.{ℕ}
use native.Mathlib.Omega.{arith}
use borrow.Author.Tests.{ne_eqb}
use lib.Dec.{lit<}
use lib.IntN.{ℤ, pos}
use lib.ListN.{length, get_or}
use Rattle.candidates.specs.Masks.{bit, has, single}
use Rattle.candidates.proofs.Tests.{below, T_true, either}
use Rattle.grid.specs.Cells.{cells, peers}
use Rattle.grid.specs.Fillings.{number_at, same_number, verified}
use Rattle.grid.specs.Units.{units, unit}
use Rattle.grid.proofs.Lists.{same-eq}
use Rattle.steps.specs.Boards.{at, givens_of, givens, is_open, taken, fresh}
use Rattle.stops.specs.Answer.{Answer, gives, passing}
use Rattle.steps.specs.Calls.{check_of, outcome, answer, left, opened, opened_with, run, chain_call}
use Rattle.steps.specs.Chains.{first_some, weak_links, strong_links, elimination, enter, chain_end, lose_found, chain_digit, chains}
use Rattle.steps.specs.Calls.{Clues}
use Rattle.steps.specs.Fillings.{KeepsClues, InMasks}
use Rattle.steps.specs.Loops.{each, for, first, range}
use Rattle.steps.proofs.Check.{clues-by}
use Rattle.steps.proofs.Entries.{givens-none}
use Rattle.steps.proofs.Lists.{opened-taken, run-fillings}
use Rattle.steps.proofs.Loops.{each_keeps}
use Rattle.steps.proofs.Steps.{lose-under}
use Rattle.chains.specs.Costly.{Lost, three_clues}

-- the givens, the fresh masks, and a filling with 1 at cell 28
g : List ℕ
g =
    1 ∷ 0 ∷ 0 ∷ 0 ∷ 0 ∷ 0 ∷ 0 ∷ 0 ∷ 0 ∷
    0 ∷ 0 ∷ 0 ∷ 1 ∷ 0 ∷ 0 ∷ 0 ∷ 0 ∷ 0 ∷
    0 ∷ 0 ∷ 0 ∷ 0 ∷ 0 ∷ 0 ∷ 2 ∷ 0 ∷ 0 ∷
    0 ∷ 0 ∷ 0 ∷ 0 ∷ 0 ∷ 0 ∷ 0 ∷ 0 ∷ 0 ∷
    0 ∷ 0 ∷ 0 ∷ 0 ∷ 0 ∷ 0 ∷ 0 ∷ 0 ∷ 0 ∷
    0 ∷ 0 ∷ 0 ∷ 0 ∷ 0 ∷ 0 ∷ 0 ∷ 0 ∷ 0 ∷
    0 ∷ 0 ∷ 0 ∷ 0 ∷ 0 ∷ 0 ∷ 0 ∷ 0 ∷ 0 ∷
    0 ∷ 0 ∷ 0 ∷ 0 ∷ 0 ∷ 0 ∷ 0 ∷ 0 ∷ 0 ∷
    0 ∷ 0 ∷ 0 ∷ 0 ∷ 0 ∷ 0 ∷ 0 ∷ 0 ∷ 0 ∷ []

m : List ℕ
m =
    1 ∷ 510 ∷ 510 ∷ 510 ∷ 510 ∷ 510 ∷ 508 ∷ 508 ∷ 508 ∷
    510 ∷ 510 ∷ 510 ∷ 1 ∷ 510 ∷ 510 ∷ 508 ∷ 508 ∷ 508 ∷
    508 ∷ 508 ∷ 508 ∷ 508 ∷ 508 ∷ 508 ∷ 2 ∷ 509 ∷ 509 ∷
    510 ∷ 511 ∷ 511 ∷ 510 ∷ 511 ∷ 511 ∷ 509 ∷ 511 ∷ 511 ∷
    510 ∷ 511 ∷ 511 ∷ 510 ∷ 511 ∷ 511 ∷ 509 ∷ 511 ∷ 511 ∷
    510 ∷ 511 ∷ 511 ∷ 510 ∷ 511 ∷ 511 ∷ 509 ∷ 511 ∷ 511 ∷
    510 ∷ 511 ∷ 511 ∷ 510 ∷ 511 ∷ 511 ∷ 509 ∷ 511 ∷ 511 ∷
    510 ∷ 511 ∷ 511 ∷ 510 ∷ 511 ∷ 511 ∷ 509 ∷ 511 ∷ 511 ∷
    510 ∷ 511 ∷ 511 ∷ 510 ∷ 511 ∷ 511 ∷ 509 ∷ 511 ∷ 511 ∷ []

pub filling : List ℤ
filling = map pos (
    1 ∷ 2 ∷ 6 ∷ 7 ∷ 8 ∷ 9 ∷ 3 ∷ 4 ∷ 5 ∷
    3 ∷ 4 ∷ 9 ∷ 1 ∷ 2 ∷ 5 ∷ 6 ∷ 7 ∷ 8 ∷
    5 ∷ 7 ∷ 8 ∷ 3 ∷ 4 ∷ 6 ∷ 2 ∷ 1 ∷ 9 ∷
    6 ∷ 1 ∷ 2 ∷ 5 ∷ 7 ∷ 3 ∷ 8 ∷ 9 ∷ 4 ∷
    7 ∷ 8 ∷ 4 ∷ 9 ∷ 1 ∷ 2 ∷ 5 ∷ 3 ∷ 6 ∷
    9 ∷ 3 ∷ 5 ∷ 4 ∷ 6 ∷ 8 ∷ 1 ∷ 2 ∷ 7 ∷
    2 ∷ 5 ∷ 7 ∷ 6 ∷ 3 ∷ 4 ∷ 9 ∷ 8 ∷ 1 ∷
    4 ∷ 6 ∷ 3 ∷ 8 ∷ 9 ∷ 1 ∷ 7 ∷ 5 ∷ 2 ∷
    8 ∷ 9 ∷ 1 ∷ 2 ∷ 5 ∷ 7 ∷ 4 ∷ 6 ∷ 3 ∷ [])

givens-are : givens_of three_clues ≡ g
unfolding three_clues givens_of cells g
givens-are = refl

fresh-are : fresh g ≡ m
unfolding g m fresh taken each cells peers
fresh-are = refl

-- ---- digit 1: the chain 34, 25, 26, 35

found : chain_end g m 0 ≡ some 28
unfolding g m chain_end enter first_some weak_links strong_links elimination first for cells peers unit units
found = refl

first-digit : at (chain_digit g 0 m) 28 ≡ 510
unfolding chain_digit
first-digit = ap (λ (o : Option ℕ). at (lose_found g 0 m o) 28) found ∙ lost
  where
    lost : at (lose_found g 0 m (some 28)) 28 ≡ 510
    lost = unfold g m in refl

-- ---- the other digits give nothing back

keeps : (d : ℕ) (n : List ℕ) → bit (at n 28) 0 ≡ 0 → bit (at (chain_digit g d n) 28) 0 ≡ 0
unfolding chain_digit
keeps d n p = go (chain_end g n d)
  where
    go : (o : Option ℕ) → bit (at (lose_found g d n o) 28) 0 ≡ 0
    go none = p
    go (some e) = omega (arith, ((lose-under (is_open g) e (single d) n).at 28).at 0)

gone : bit (at (chains g m) 28) 0 ≡ 0
unfolding chains each
gone =
    each_keeps (chain_digit g) (λ n. bit (at n 28) 0 ≡ 0) (range 8 1) (λ d k n. keeps d n) (chain_digit g 0 m)
    (ap (λ (x : ℕ). bit x 0) first-digit)

-- ---- the filling

good : Clues three_clues
unfolding three_clues
good = clues-by three_clues refl tt

kept : KeepsClues three_clues filling
unfolding three_clues filling
kept = record { kept = λ c h n. same-eq (number_at filling c) (get_or three_clues c (pos 0)) (⊎_elim (λ p. absurd (n (same-eq (get_or three_clues c (pos 0)) (pos 0) p))) (λ q. q) ((either (unclued c) (same c)).0 (T_true _ (below 81 (λ c. unclued c || same c) tt c h)))) }
  where
    unclued : ℕ → Bool
    unclued c = same_number (get_or three_clues c (pos 0)) (pos 0)

    same : ℕ → Bool
    same c = same_number (number_at filling c) (get_or three_clues c (pos 0))

size : length filling ≡ 81
unfolding filling
size = refl

correct : verified filling ≡ true
unfolding filling verified cells units
correct = refl

-- ---- the board after the pass

untouched : check_of (opened three_clues) ≡ gives tt
untouched = opened-taken three_clues good

passed : (run (chain_call ∷ []) (opened three_clues)).masks ≡ chains g m
unfolding run answer outcome opened_with
passed =
    let b = opened three_clues in
    let same = givens-none three_clues ∙ givens-are in
    ap (λ (o : Answer (Unit {0})). (left b (passing o (outcome chain_call (givens b) b.masks))).masks) untouched ∙ ap₂ chains same (ap fresh same ∙ fresh-are)

lost : InMasks (run (chain_call ∷ []) (opened three_clues)).masks filling → ⊥
unfolding filling
lost h = true≢false (sym (h.held 28 (lit< tt)) ∙ ap (λ (n : List ℕ). has (at n 28) 0) passed ∙ ne_eqb (bit (at (chains g m) 28) 0) 1 (λ e. absurd (omega (arith, gone))))

pub costs-a-filling : Lost three_clues filling
unfolding run
costs-a-filling =
    record {
      correct = correct;
      keeps = kept;
      before = (run-fillings three_clues good [] refl filling size correct).1 kept;
      after = lost;
    }
