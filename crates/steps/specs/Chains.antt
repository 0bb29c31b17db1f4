-- The chain pass (module 11), as the Rust has it. It begins with a weak link where the published chain begins with a strong one, so it can cost a filling.
use Rattle.std.specs.Prelude.{Bool, true, false, cond, not, ◌&&◌, ◌||◌, List, [], ◌∷◌, ℕ, zero, suc, ◌+◌, eqb, leb, length}
use Rattle.std.proofs.Math.Option.{Option, none, some}
use Rattle.candidates.specs.Masks.{single}
use Rattle.grid.specs.Cells.{row, col, box, sees, cells, peers}
use Rattle.grid.specs.Units.{unit}
use Rattle.steps.specs.Boards.{is_open}
use Rattle.steps.specs.Loops.{each, for, first, select, up_to}
use Rattle.steps.specs.Ported.{holds}
use Rattle.steps.specs.Steps.{lose_at}

abbrev pub or_else : Option ℕ → Option ℕ → Option ℕ
or_else none b = b
or_else (some a) b = some a

-- the first answer that is one
unfoldable pub first_some : (ℕ → Option ℕ) → List ℕ → Option ℕ
first_some f [] = none
first_some f (x ∷ xs) = let r = first_some f xs in or_else (f x) r

-- the cell stands in the list
abbrev pub on_path : ℕ → List ℕ → Bool
on_path c [] = false
on_path c (x ∷ xs) = eqb c x || on_path c xs

-- a list of just two
abbrev pub two_of : List ℕ → List ℕ
two_of xs = cond (eqb (length xs) 2) xs []

module _ (g m : List ℕ) (d : ℕ) where
  -- "weak links (other open holders seen, cells rising)"
  unfoldable pub weak_links : ℕ → List ℕ
  weak_links c = select (holds g m d) (peers c)

  -- "strong (row, column, box with exactly two open holders; repeats kept)"
  unfoldable pub strong_links : ℕ → List ℕ
  strong_links c =
      for (row c ∷ (9 + col c) ∷ (18 + box c) ∷ []) λ u. select (λ e. not (eqb e c)) (two_of (select (holds g m d) (unit u)))

  abbrev pub links : Bool → ℕ → List ℕ
  links weak c = cond weak (weak_links c) (strong_links c)

  -- "if .. start and end see each other, the lowest open holder seeing both, neither of them"
  unfoldable pub elimination : ℕ → ℕ → Option ℕ
  elimination s c = cond (sees s c) (first (λ e. sees s e && sees c e && holds g m d e) cells) none

  -- Entering cell c after `path`, from start s: "a cell on the current path is not entered"; "if the path has 4 or more" an elimination is looked for; then the links go on, weak and strong in turn. n is how many cells may still be entered.
  unfoldable pub enter : ℕ → ℕ → Bool → List ℕ → ℕ → Option ℕ
  enter zero s weak path c = none
  enter (suc n) s weak path c =
      let found = cond (leb 3 (length path)) (elimination s c) none in
      let onward = first_some (enter n s (not weak) (c ∷ path)) (links weak c) in
      cond (on_path c path) none (or_else found onward)

  -- "starting cells rising"; "Depth 0 to 6, so at most 7 cells"; "The first step takes weak links"
  unfoldable pub chain_end : Option ℕ
  chain_end = first_some (λ s. enter 7 s true [] s) (select (holds g m d) cells)

-- "the first elimination ends that digit"
abbrev pub lose_found : List ℕ → ℕ → List ℕ → Option ℕ → List ℕ
lose_found g d m none = m
lose_found g d m (some e) = lose_at (is_open g) e (single d) m

unfoldable pub chain_digit : List ℕ → ℕ → List ℕ → List ℕ
chain_digit g d m = lose_found g d m (chain_end g m d)

unfoldable pub chains : List ℕ → List ℕ → List ℕ
chains g m = each (chain_digit g) (up_to 9) m
