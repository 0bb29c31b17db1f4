-- A call by its number, and the iterator's step, are what their tables say.
use mathlib.Core.Path.{◌≡◌, refl, sym, ap}
use mathlib.Core.List.{List}
use Prim.Native.Nat.{ℕ, ◌≤◌}
use lib.IntN.{ℤ}
use lib.ListN.{length, get_or, get_or-eq_default}
use Rattle.candidates.specs.Sets.{next_of}
use Rattle.steps.specs.Boards.{Board}
use Rattle.sudoku.specs.Boards.{questions, asked}
use Rattle.sudoku.specs.Codes.{unknown}
use Rattle.sudoku.specs.Sets.{set_calls, set_call, next_code, next_call}

-- the entry of a table whose number is j; a number past the table
module _ (table : List (List ℤ)) where
  by_number : (j k : ℕ) → k ≡ j → get_or table j (unknown j) ≡ get_or table k (unknown k)
  by_number j k e = sym (ap (λ (i : ℕ). get_or table i (unknown i)) e)

  no_number_lem : (k : ℕ) → length table ≤ k → unknown k ≡ get_or table k (unknown k)
  no_number_lem k past = sym (get_or-eq_default table (unknown k) past)

pub called : (j k m : ℕ) (z : ℤ) → k ≡ j → get_or (set_calls m z) j (unknown j) ≡ set_call k m z
unfolding set_call
called j k m z e = by_number (set_calls m z) j k e

pub not-called : (k m : ℕ) (z : ℤ) → 11 ≤ k → unknown k ≡ set_call k m z
unfolding set_call
not-called k m z past = no_number_lem (set_calls m z) k past

pub is-asked : (j k : ℕ) (b : Board) (c : ℕ) → k ≡ j → get_or (questions b c) j (unknown j) ≡ asked k b c
unfolding asked
is-asked j k b c e = by_number (questions b c) j k e

pub not-asked : (k : ℕ) (b : Board) (c : ℕ) → 3 ≤ k → unknown k ≡ asked k b c
unfolding asked
not-asked k b c past = no_number_lem (questions b c) k past

pub stepped : (m p : ℕ) → next_code m p (next_of m p) ≡ next_call m p
unfolding next_call
stepped m p = refl
