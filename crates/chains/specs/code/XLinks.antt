-- The X-chain search as the code goes about it: over the list of the linked cells and the sums of the units' strong links; `proofs/XWalks.antt` shows that it is the search of document 02, F-9.
use Rattle.std.specs.Prelude.{Bool, true, false, cond, not, ◌&&◌, ◌||◌, List, [], ◌∷◌, ◌++◌, map, Option, Some, None, ℕ, zero, suc, ◌+◌, ◌-◌, eqb, ltb, leb, length, get_or, set, replicate}
use Rattle.std.specs.List.{list_any}
use Rattle.grid.specs.Cells.{row, col, box, sees}
use Rattle.grid.specs.Units.{in_unit}
use Rattle.steps.specs.Boards.{at, is_open}
use Rattle.steps.specs.Chains.{on_path}
use Rattle.steps.specs.Loops.{each, for, select, up_to}
use Rattle.cells.specs.code.Places.{lose_in}

-- ---- links; 81 is no cell

abbrev pub some_cell : ℕ → Option ℕ
some_cell c = cond (ltb c 81) (Some c) None

-- of just two cells the sum and one more, so that the one tells the other; else 0
abbrev pub pair_sum : List ℕ → ℕ
pair_sum xs = cond (eqb (length xs) 2) (at xs 0 + at xs 1 + 1) 0

-- that of each unit's holders
unfoldable pub pair_sums : List ℕ → List ℕ
pair_sums hs = map (λ u. pair_sum (select (in_unit u) hs)) (up_to 27)

-- row, column, box
abbrev pub own_unit : ℕ → ℕ → ℕ
own_unit c i = cond (eqb i 0) (row c) (cond (eqb i 1) (9 + col c) (18 + box c))

abbrev pub other_in : ℕ → ℕ → ℕ
other_in sum c = cond (leb sum c) 81 (cond (leb 81 (sum - c - 1)) 81 (sum - c - 1))

-- the cell's strong link through its nth unit
abbrev pub other_of : List ℕ → ℕ → ℕ → ℕ
other_of sums c i = cond (leb 27 (own_unit c i)) 81 (other_in (at sums (own_unit c i)) c)

abbrev pub is_linked : List ℕ → ℕ → Bool
is_linked sums c = ltb (other_of sums c 0) 81 || ltb (other_of sums c 1) 81 || ltb (other_of sums c 2) 81

-- the ith cell that the walk may go on to
abbrev pub link_at : List ℕ → List ℕ → Bool → ℕ → ℕ → ℕ
link_at linked sums weak c i = cond weak (cond (sees c (at linked i)) (at linked i) 81) (other_of sums c i)

-- ---- ends

-- k cells stand before it
abbrev pub end_here : Bool → ℕ → ℕ → List ℕ
end_here weak k c = cond (weak && leb 3 k) (c ∷ []) []

abbrev pub if_cell : ℕ → List ℕ → List ℕ
if_cell c xs = cond (ltb c 81) xs []

module _ (linked sums : List ℕ) where
  unfoldable pub walk_ends : ℕ → Bool → List ℕ → ℕ → List ℕ
  walk_ends zero weak path c = []
  walk_ends (suc n) weak path c =
      let onward = for (up_to (cond weak (length linked) 3)) λ i. if_cell (link_at linked sums weak c i) (walk_ends n (not weak) (c ∷ path) (link_at linked sums weak c i)) in
      cond (on_path c path) [] (end_here weak (length path) c ++ onward)

unfoldable pub marked : List ℕ → List Bool → List Bool
marked cs ends = each (λ c l. set l c true) cs ends

abbrev pub no_ends : List Bool
no_ends = replicate 81 false

-- the ends of the chains from a start
abbrev pub ends_of : List ℕ → List ℕ → ℕ → List Bool
ends_of linked sums s = marked (walk_ends linked sums 6 false [] s) no_ends

-- ---- losses

abbrev pub end_sees : List Bool → ℕ → ℕ → Bool
end_sees ends x e = cond (leb 81 e) false (get_or ends e false && sees e x)

-- hs are the holders, ls the linked cells
abbrev pub lose_caught : List ℕ → ℕ → List ℕ → ℕ → List Bool → ℕ → List ℕ → List ℕ
lose_caught g k ls s ends x m = cond (sees s x && list_any (end_sees ends x) ls) (lose_in (is_open g) x k m) m

unfoldable pub lose_from : List ℕ → ℕ → List ℕ → List ℕ → List ℕ → ℕ → List ℕ → List ℕ
lose_from g k hs linked sums s m = each (lose_caught g k linked s (ends_of linked sums s)) hs m
