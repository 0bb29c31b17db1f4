-- The calls of the candidate set by number, on a mask and a digit.
use Rattle.std.specs.Prelude.{List, [], ◌∷◌, ℕ, eqb, ℤ, pos, get_or}
use Rattle.std.proofs.Math.Option.{Option, none, some}
use Rattle.stops.specs.Answer.{Answer, gives, stop, map}
use Rattle.candidates.specs.Masks.{low_nine, count}
use Rattle.candidates.specs.Sets.{single_of, contains_of, insert_of, inserted, removed, single_candidate_of, next_of}
use Rattle.candidates.specs.declared.SingleCandidate.{SingleCandidate}
use Rattle.candidates.specs.declared.SingleCandidate.TheVariants as only
use Rattle.sudoku.specs.Codes.{four, given, refused, coded, test_number, no_number, unknown}

-- a new set: its mask, or the stop with no mask
abbrev pub new_set : Answer ℕ → List ℤ
new_set (gives m) = given (pos 0) m
new_set (stop s) = refused s 0

-- `single_candidate`: its digit, or 0 for none; beside it 0 for empty, 1 for a digit, 2 for several
abbrev pub single_code : SingleCandidate → ℕ → List ℤ
single_code (only.Digit z) mask = four (pos 0) (pos 1) z (pos mask)
single_code only.Empty mask = four (pos 0) (pos 0) (pos 0) (pos mask)
single_code only.Several mask = four (pos 0) (pos 2) (pos 0) (pos mask)

-- 0 new, 1 full, 2 single, 3 contains, 4 insert, 5 remove, 6 clear, 7 len, 8 is_empty, 9 single_candidate, 10 iter
abbrev pub set_calls : ℕ → ℤ → List (List ℤ)
set_calls m z =
    given (pos 0) 0 ∷
    given (pos 0) 511 ∷
    new_set (single_of z) ∷
    coded (map test_number (contains_of m z)) m ∷
    coded (map no_number (insert_of z)) (inserted m z) ∷
    coded (map test_number (contains_of m z)) (removed m z) ∷
    given (pos 0) 0 ∷
    given (pos (count (low_nine m))) m ∷
    given (test_number (eqb (count (low_nine m)) 0)) m ∷
    single_code (single_candidate_of m) m ∷
    given (pos 0) (low_nine m) ∷
    []

unfoldable pub set_call : ℕ → ℕ → ℤ → List ℤ
set_call k m z = get_or (set_calls m z) k (unknown k)

-- `next` on an iterator: the digit, or 0 where it is done, the mask, and beside them the place that it goes on with
abbrev pub next_code : ℕ → ℕ → Option (ℤ × ℕ × ℕ) → List ℤ
next_code m p none = four (pos 0) (pos p) (pos 0) (pos m)
next_code m p (some found) = four (pos 0) (pos found.2) found.0 (pos found.1)

unfoldable pub next_call : ℕ → ℕ → List ℤ
next_call m p = next_code m p (next_of m p)
