-- The chain search over the list of a digit's open holders, as the code goes about it; `proofs/Holders.antt` shows that it is the search of module 11.
use Rattle.std.specs.Prelude.{Bool, cond, not, ◌&&◌, List, [], ◌∷◌, map, ℕ, zero, suc, ◌+◌, eqb, ltb, length}
use Rattle.std.specs.Prelude.{Some, None}
use Rattle.std.specs.Prelude as std
use Rattle.std.proofs.Math.Option.{Option, none, some}
use Rattle.grid.specs.Cells.{row, col, box, sees}
use Rattle.grid.specs.Units.{in_unit}
use Rattle.steps.specs.Chains.{or_else, first_some, on_path, two_of}
use Rattle.steps.specs.Loops.{for, select, up_to}

-- the code's answer
abbrev pub found_cell : std.Option ℕ → Option ℕ
found_cell None = none
found_cell (Some c) = some c

-- those that are not the cell
abbrev pub others : ℕ → List ℕ → List ℕ
others c xs = select (λ e. not (eqb e c)) xs

-- how many of the cells each unit has
unfoldable pub unit_counts : List ℕ → List ℕ
unit_counts hs = map (λ u. length (select (in_unit u) hs)) (up_to 27)

-- the cell, if it sees both ends
abbrev pub between_at : ℕ → ℕ → ℕ → Option ℕ
between_at s c e = cond (sees s e && sees c e) (some e) none

-- hs are the open holders of the digit, rising
module _ (hs : List ℕ) where
  unfoldable pub weak_in : ℕ → List ℕ
  weak_in c = select (sees c) hs

  unfoldable pub strong_in : ℕ → List ℕ
  strong_in c = for (row c ∷ (9 + col c) ∷ (18 + box c) ∷ []) λ u. others c (two_of (select (in_unit u) hs))

  abbrev pub links_in : Bool → ℕ → List ℕ
  links_in weak c = cond weak (weak_in c) (strong_in c)

  -- k cells stand before the end c
  unfoldable pub elimination_in : ℕ → ℕ → ℕ → Option ℕ
  elimination_in k s c = cond (ltb k 3) none (cond (sees s c) (first_some (between_at s c) hs) none)

  unfoldable pub enter_in : ℕ → ℕ → Bool → List ℕ → ℕ → Option ℕ
  enter_in zero s weak path c = none
  enter_in (suc n) s weak path c =
      let onward = first_some (enter_in n s (not weak) (c ∷ path)) (links_in weak c) in
      cond (on_path c path) none (or_else (elimination_in (length path) s c) onward)
