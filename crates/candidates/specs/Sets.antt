-- The candidate set (module 1): what each call answers, from the digits of the set.
use Rattle.std.specs.Prelude.{◌≡◌, ◌↔◌, Bool, true, false, cond, List, [], ◌∷◌, ℕ, zero, suc, ◌+◌, ◌-◌, min, eqb, ltb, ℤ, pos, negsuc}
use Rattle.std.specs.Prelude as rust
use Rattle.std.specs.Prelude.{Some, None}
use Rattle.std.proofs.Math.Option.{Option, none, some}
use Rattle.stops.specs.Answer.{Answer, gives, stop}
use Rattle.stops.specs.declared.Stop.TheVariants.{BadDigit}
use Rattle.candidates.specs.Masks.{low_nine, has, minus, union, count, single, first_place, lowest, One, More}
use Rattle.candidates.specs.declared.SudokuCandidateIter.{SudokuCandidateIter}
use Rattle.candidates.specs.declared.SingleCandidate.{SingleCandidate}
use Rattle.candidates.specs.declared.SingleCandidate.TheVariants as only

-- the place of a digit, 0 to 8 for 1 to 9; 9 for a number that is no digit
abbrev pub place : ℤ → ℕ
place (pos zero) = 9
place (pos (suc n)) = min n 9
place (negsuc n) = 9

-- the same where there is one
abbrev pub place_if : ℤ → rust.Option ℕ
place_if z = cond (ltb (place z) 9) (Some (place z)) None

-- stop 4, "digit outside 1 to 9", with the digit beside it
abbrev pub at_digit : {A : Type 0} → ℤ → A → Answer A
at_digit z a = cond (ltb (place z) 9) (gives a) (stop (BadDigit z))

-- "Higher bits .. are dropped first" by an accepted call; a refused one leaves the set as it was
abbrev pub where_digit : ℤ → ℕ → ℕ → ℕ
where_digit z new old = cond (ltb (place z) 9) new old

-- ---- what the paper calls each case of an answer

-- a digit or none, which is what 01 says: "empty and several both count as none"
abbrev pub only_answer : SingleCandidate → Option ℤ
only_answer (only.Digit z) = some z
only_answer only.Empty = none
only_answer only.Several = none

-- its digit, 0 for none
abbrev pub digit_or0 : Option ℤ → ℤ
digit_or0 (some z) = z
digit_or0 none = pos 0

-- a digit, and the mask and the place that the iterator goes on with
abbrev pub next_answer : rust.Option ℤ → SudokuCandidateIter → Option (ℤ × ℕ × ℕ)
next_answer (Some z) rest = some (z, rest.mask, rest.current)
next_answer None rest = none

-- where there is no digit the iterator stays as it was
abbrev pub stays : rust.Option ℤ → SudokuCandidateIter → SudokuCandidateIter → Type 0
stays (Some z) before rest = Unit {0}
stays None before rest = rest ≡ before

-- ---- the calls

abbrev pub single_of : ℤ → Answer ℕ
single_of z = at_digit z (single (place z))

abbrev pub contains_of : ℕ → ℤ → Answer Bool
contains_of m z = at_digit z (has (low_nine m) (place z))

abbrev pub insert_of : ℤ → Answer (Unit {0})
insert_of z = at_digit z tt

abbrev pub inserted : ℕ → ℤ → ℕ
inserted m z = where_digit z (union (low_nine m) (single (place z))) m

abbrev pub removed : ℕ → ℤ → ℕ
removed m z = where_digit z (minus (low_nine m) (single (place z))) m

-- `single_candidate`: "It shall say the digit, or empty, or several." (document 02, F-1)
abbrev pub single_candidate_of : ℕ → SingleCandidate
single_candidate_of m =
    cond (eqb (count (low_nine m)) 0) only.Empty
    (cond (eqb (count (low_nine m)) 1) (only.Digit (pos (lowest (low_nine m) + 1))) only.Several)

-- "none unless one digit"
abbrev pub only_of : ℕ → Option ℤ
only_of m = only_answer (single_candidate_of m)

-- "rising": the first digit at place p or above, and the iterator past it
abbrev pub next_at : ℕ → ℕ → Option (ℤ × ℕ × ℕ)
next_at m q = cond (ltb q 9) (some (pos (q + 1), m, q + 1)) none

abbrev pub next_of : ℕ → ℕ → Option (ℤ × ℕ × ℕ)
next_of m p = next_at m (first_place (9 - p) p m)

-- the digits at the n places from p on that m holds, rising
unfoldable pub digits_from : ℕ → ℕ → ℕ → List ℤ
digits_from zero p m = []
digits_from (suc n) p m = let r = digits_from n (suc p) m in cond (has m p) (pos (p + 1) ∷ r) r

abbrev pub after : (ℕ → ℕ → List ℤ) → Option (ℤ × ℕ × ℕ) → List ℤ
after more none = []
after more (some found) = found.0 ∷ more found.1 found.2

-- what n calls of `next` give, each on the iterator that the one before gave
unfoldable pub drained : ℕ → ℕ → ℕ → List ℤ
drained zero m p = []
drained (suc n) m p = after (drained n) (next_of m p)

-- ---- what `single_candidate` says of the set

pub record SingleCandidateSays (m : ℕ) : Type 0 where
  -- d is the set's one digit
  pub digit : (d : ℕ) → (single_candidate_of m ≡ only.Digit (pos (suc d))) ↔ One (low_nine m) d
  -- it holds no digit
  pub empty : (single_candidate_of m ≡ only.Empty) ↔ ((d : ℕ) → has (low_nine m) d ≡ false)
  -- it holds two different ones, and it may be more
  pub several : (single_candidate_of m ≡ only.Several) ↔ ((a : ℕ) × (b : ℕ) × More (low_nine m) a b)
