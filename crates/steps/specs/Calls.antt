-- The board calls: the check of a handed board, each call's whole answer and the board that it leaves, and a list of calls run one after the other.
use Rattle.std.specs.Prelude.{◌≡◌, Bool, true, false, cond, not, ◌&&◌, ◌||◌, List, [], ◌∷◌, ◌++◌, ℕ, ◌<◌, eqb, leb, ℤ, pos, negsuc, length, get_or}
use Rattle.std.proofs.Math.Option.{Option}
use Rattle.stops.specs.Answer.{Answer, gives, stop, passing, stop_at, then}
use Rattle.stops.specs.declared.Stop.TheVariants.{BadClue, BadEntry, BadMask}
use Rattle.candidates.specs.Masks.{minus}
use Rattle.grid.specs.Cells.{cells}
use Rattle.steps.specs.Boards.{Board, at, no_digit, givens_of, together, givens, with_masks, no_entries, is_open, fresh_at, fresh}
use Rattle.steps.specs.Chains.{chains}
use Rattle.steps.specs.Loops.{first}
use Rattle.steps.specs.Passes.{Kind, pass, changed, settle, removed_by}
use Rattle.steps.specs.Ported.{naked_pairs, box_lines, x_wings}
use Rattle.steps.specs.Singles.{Report, naked_singles, hidden_singles}
use Rattle.steps.specs.XChains.{x_chains}

-- ---- the check of a handed board

-- "clue outside 0 to 9"
abbrev pub bad_clue : ℤ → Bool
bad_clue (pos n) = not (leb n 9)
bad_clue (negsuc n) = true

-- "any clue grid of 0 to 9": 81 clues
pub record Clues (clues : List ℤ) : Type 0 where
  pub size : length clues ≡ 81
  pub good : (c : ℕ) → c < 81 → bad_clue (get_or clues c (pos 0)) ≡ false

-- "an entry on a clue cell, or an entry outside 0 to 9 (0 = none)" (document 02, F-6)
abbrev pub bad_entry : ℤ → ℤ → Bool
bad_entry clue entry = bad_clue entry || not (no_digit entry || no_digit clue)

-- "one set of entries": 81 that stop 8 admits beside the clues
pub record Entries (clues entries : List ℤ) : Type 0 where
  pub size : length entries ≡ 81
  pub good : (c : ℕ) → c < 81 → bad_entry (get_or clues c (pos 0)) (get_or entries c (pos 0)) ≡ false

-- "mask holding what the fresh one lacks, or a clue cell's mask not its digit": x is the mask, f the fresh one
abbrev pub misfit : ℕ → ℕ → Bool → Bool
misfit x f is_free = not (eqb (minus x f) 0 && (is_free || eqb x f))

abbrev pub bad_mask : List ℕ → List ℕ → ℕ → Bool
bad_mask g m c = misfit (at m c) (fresh_at g c) (is_open g c)

-- "first clue outside 0 to 9"
abbrev pub first_bad_clue : List ℤ → Option ℕ
first_bad_clue clues = first (λ c. bad_clue (get_or clues c (pos 0))) cells

abbrev pub first_bad_entry : List ℤ → List ℤ → Option ℕ
first_bad_entry clues entries = first (λ c. bad_entry (get_or clues c (pos 0)) (get_or entries c (pos 0))) cells

-- the clues, "then" the masks, each with its first such cell; the entries "between 01's 3 and 9"
unfoldable pub check_of : Board → Answer (Unit {0})
check_of b =
    then (stop_at BadClue (first_bad_clue b.clues)) λ _.
    then (stop_at BadEntry (first_bad_entry b.clues b.entries)) λ _.
    stop_at BadMask (first (bad_mask (givens b) b.masks) cells)

-- "any board that no listed stop refuses": 81 clues, 81 entries and 81 masks, with none of the stops 3, 8 and 9
pub record Admitted (b : Board) : Type 0 where
  pub clues : length b.clues ≡ 81
  pub entries : length b.entries ≡ 81
  pub masks : length b.masks ≡ 81
  pub taken : check_of b ≡ gives tt

-- ---- the calls

pub data Call : Type 0 where
  update_candidates naked_pairs_call box_line_call x_wing_call naked_singles_call hidden_singles_call advanced_call : Call
  wide : Kind → Call
  settling_call : Call
  chain_call x_chain_call : Call

-- the chain pass of module 11, which "can cost a filling"
abbrev pub is_ported : Call → Bool
is_ported update_candidates = false
is_ported naked_pairs_call = false
is_ported box_line_call = false
is_ported x_wing_call = false
is_ported naked_singles_call = false
is_ported hidden_singles_call = false
is_ported advanced_call = false
is_ported (wide k) = false
is_ported settling_call = false
is_ported chain_call = true
is_ported x_chain_call = false

-- it, or the X-chain pass
abbrev pub is_chain : Call → Bool
is_chain update_candidates = false
is_chain naked_pairs_call = false
is_chain box_line_call = false
is_chain x_wing_call = false
is_chain naked_singles_call = false
is_chain hidden_singles_call = false
is_chain advanced_call = false
is_chain (wide k) = false
is_chain settling_call = false
is_chain chain_call = true
is_chain x_chain_call = true

-- a list that has no call of a sort
abbrev pub without : (Call → Bool) → List Call → Bool
without sort [] = true
without sort (k ∷ ks) = not (sort k) && without sort ks

-- "The promise on fillings covers lists with this pass", but not those with the ported one (document 02, F-9)
abbrev pub without_ported : List Call → Bool
without_ported ks = without is_ported ks

-- "lists that contain neither chain pass"
abbrev pub without_chain : List Call → Bool
without_chain ks = without is_chain ks

-- What a call answers on a board that is not refused: progress, the reports in order, what settling counts, and the masks that it leaves. What a call does not speak of is false, [] or 0.
pub record Outcome : Type 0 where
  pub flag : Bool
  pub reports : List Report
  pub sweeps : ℕ
  pub removed : ℕ
  pub masks : List ℕ

-- an elimination: "whether it removed anything"
abbrev pub elimination_outcome : List ℕ → List ℕ → Outcome
elimination_outcome m n = record { flag = changed m n; reports = []; sweeps = 0; removed = 0; masks = n }

abbrev pub is_some : {A : Type 0} → List A → Bool
is_some [] = false
is_some (x ∷ xs) = true

-- "A report is progress."
abbrev pub reports_outcome : List Report → List ℕ → Outcome
reports_outcome rs m = record { flag = is_some rs; reports = rs; sweeps = 0; removed = 0; masks = m }

-- "naked singles, hidden singles, naked pairs; with any progress, masks become fresh again"
abbrev pub advanced_outcome : List ℕ → List ℕ → Outcome
advanced_outcome g m =
    let rs = naked_singles g m ++ hidden_singles g m in
    let progress = is_some rs || changed m (naked_pairs g m) in
    record { flag = progress; reports = rs; sweeps = 0; removed = 0; masks = cond progress (fresh g) m }

abbrev pub settling_outcome : List ℕ → List ℕ → Outcome
settling_outcome g m =
    let s = settle g m in
    record { flag = false; reports = []; sweeps = s.sweeps; removed = removed_by m s.left; masks = s.left }

unfoldable pub outcome : Call → List ℕ → List ℕ → Outcome
outcome update_candidates g m = record { flag = false; reports = []; sweeps = 0; removed = 0; masks = fresh g }
outcome naked_pairs_call g m = elimination_outcome m (naked_pairs g m)
outcome box_line_call g m = elimination_outcome m (box_lines g m)
outcome x_wing_call g m = elimination_outcome m (x_wings g m)
outcome naked_singles_call g m = reports_outcome (naked_singles g m) m
outcome hidden_singles_call g m = reports_outcome (hidden_singles g m) m
outcome advanced_call g m = advanced_outcome g m
outcome (wide k) g m = elimination_outcome m (pass g k m)
outcome settling_call g m = settling_outcome g m
outcome chain_call g m = elimination_outcome m (chains g m)
outcome x_chain_call g m = elimination_outcome m (x_chains g m)

-- a call's answer: the stop of the check, or the outcome
unfoldable pub answer : Call → Board → Answer Outcome
answer k b = passing (check_of b) (outcome k (givens b) b.masks)

-- the board that an answer leaves: "a call that is refused" hands its board on as it was
abbrev pub left : Board → Answer Outcome → Board
left b (gives o) = with_masks b o.masks
left b (stop s) = b

-- "The first call gets the fresh board, each later one the board that the last returned"
unfoldable pub run : List Call → Board → Board
run [] b = b
run (k ∷ ks) b = run ks (left b (answer k b))

-- "a fresh board whose clues are the printed clues and the remaining entries together"
unfoldable pub opened_with : List ℤ → List ℤ → Board
opened_with clues entries = record { clues = clues; entries = entries; masks = fresh (givens_of (together clues entries)) }

-- the fresh board of a clue grid
abbrev pub opened : List ℤ → Board
opened clues = opened_with clues no_entries
