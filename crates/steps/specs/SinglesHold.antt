-- Beyond the demands: what a reported single means.
use Rattle.std.specs.Prelude.{◌≡◌, true, ℕ, suc, ℤ, pos, length}
use mathlib.Core.List.{List, Memᴰ}
use Rattle.grid.specs.Fillings.{number_at, verified}
use Rattle.steps.specs.Boards.{Board, givens}
use Rattle.steps.specs.Calls.{Clues, Entries, without_ported, opened_with}
use Rattle.steps.specs.Entries.{Deed, calls_in, play}
use Rattle.steps.specs.Fillings.{Keeps}
use Rattle.steps.specs.Singles.{naked_singles, hidden_singles}

-- A single reported on a board that a list without the ported chain pass reaches is the cell's digit in every correct filling that keeps the clues and the entries then on the board.
pub record SinglesHold : Type 0 where
  pub naked : (clues entries : List ℤ) → Clues clues → Entries clues entries → (xs : List Deed) → without_ported (calls_in xs) ≡ true → (b : Board) → b ≡ play xs (opened_with clues entries)
      → (f : List ℤ) → length f ≡ 81 → verified f ≡ true → Keeps b f → (c d : ℕ) → Memᴰ (record { cell = c; digit = suc d }) (naked_singles (givens b) b.masks) → number_at f c ≡ pos (suc d)
  pub hidden : (clues entries : List ℤ) → Clues clues → Entries clues entries → (xs : List Deed) → without_ported (calls_in xs) ≡ true → (b : Board) → b ≡ play xs (opened_with clues entries)
      → (f : List ℤ) → length f ≡ 81 → verified f ≡ true → Keeps b f → (c d : ℕ) → Memᴰ (record { cell = c; digit = suc d }) (hidden_singles (givens b) b.masks) → number_at f c ≡ pos (suc d)
