-- Demand 3, of what the engine's calls hand back: it holds of all values that meet the calls' contracts. proofs/Demand3.antt shows it.
use Rattle.std.specs.Prelude.{◌≡◌, ◌≢◌, ◌↔◌, Bool, true, List, [], ◌∷◌, ◌++◌, map, ℕ, ◌+◌, ◌-◌, ◌≤◌, ◌<◌, ℤ, length, get_or, Result, Ok}
use Rattle.std.proofs.Math.Option.{none}
use Rattle.stops.specs.Answer.{answer_of, gives, value_or}
use Rattle.stops.specs.Answer as answers
use Rattle.stops.specs.declared.Stop.{Stop}
use Rattle.grid.specs.Fillings.{verified}
use Rattle.steps.specs.Boards.{givens, no_entries, same_board, total}
use Rattle.steps.specs.Calls.{Clues, Entries, Call, is_ported, is_chain, without, without_ported, without_chain, wide, check_of, Admitted, answer, left, opened_with}
use Rattle.steps.specs.Entries.{EntryCall, Deed, step, entry, play, calls_in}
use Rattle.steps.specs.Fillings.{Keeps, InMasks}
use Rattle.steps.specs.Passes.{Kind, pass, sweep, swept, changed, Settled}
use Rattle.board.specs.Boards.{board_of, no_board, open_of, open_with_of}
use Rattle.board.specs.Entering.{Enters}
use Rattle.board.specs.declared.Board.{Board}
use Rattle.passes.specs.Settlings.{Settles}
use Rattle.passes.specs.declared.Settled as code
use Rattle.eliminations.specs.Eliminations.{Eliminates}
use Rattle.calls.specs.Replays.{first_no_step, calls_of, Replays}
use Rattle.calls.specs.declared.ReplayError.{ReplayError}

-- The board after a list, "each run from the grid's fresh board": that of clues and entries. "Demand 3's lists may now also enter and rub out" (document 02, F-6); one that is refused hands its board on and is part of the list.
abbrev pub After : List ℤ → List ℤ → List Deed → Board → Type 0
After clues entries xs b = board_of b ≡ play xs (opened_with clues entries)

-- A list of step numbers that has no call of a sort.
pub record StepsWithout (sort : Call → Bool) (ns : List ℕ) : Type 0 where
  pub steps : first_no_step ns ≡ none
  pub none_of : without sort (calls_of ns) ≡ true

abbrev pub StepsWithoutPorted : List ℕ → Type 0
StepsWithoutPorted ns = StepsWithout is_ported ns

abbrev pub StepsWithoutChain : List ℕ → Type 0
StepsWithoutChain ns = StepsWithout is_chain ns

-- the digit that each cell is given, by its clue or its entry
abbrev pub givens_in : Board → List ℕ
givens_in b = givens (board_of b)

-- "A board is settled when none of the" six "wide steps would remove a candidate."
abbrev pub IsSettled : Board → Type 0
IsSettled b = Settled (givens_in b) b.masks

-- "Where the board after the first list is settled, it equals the board after the second exactly when that one is settled too."
abbrev pub OneEnd : Board → Board → Type 0
OneEnd B C = IsSettled B → (B ≡ C) ↔ IsSettled C

-- "For every such list and every filled grid that the verifier passes, that grid takes each cell's digit from that cell's mask on the final board exactly when it keeps" "clues and the entries then on the board".
abbrev pub FillingsStay : Board → Type 0
FillingsStay B = (f : List ℤ) → length f ≡ 81 → verified f ≡ true → InMasks B.masks f ↔ Keeps (board_of B) f

-- Two lists of entering and rubbing out alone, from one fresh board of the clues.
pub record Afresh (clues : List ℤ) (B C : Board) : Type 0 where
  -- "each board equals the one worked out afresh"
  pub fresh : board_of B ≡ opened_with clues B.entries
  -- "Two lists of such calls from one fresh board that leave the same entries leave equal boards"
  pub same : B.entries ≡ C.entries → B ≡ C

-- "each wide pass gives the board and the answer of document 01's module 8": its answer r and the board c that it leaves of the board b
pub record PassDone (k : Kind) (b : Board) (r : Result Bool Stop) (c : Board) : Type 0 where
  pub answer : r ≡ Ok (changed b.masks (pass (givens_in b) k b.masks))
  pub clues : c.clues ≡ b.clues
  pub entries : c.entries ≡ b.entries
  pub masks : c.masks ≡ pass (givens_in b) k b.masks

-- Settling from the board b, in n sweeps that remove x candidates: its answer r and the board c that it leaves.
pub record SettlingDone (b : Board) (r : Result code.Settled Stop) (c : Board) (n x : ℕ) : Type 0 where
  pub answer : answers.map (λ s. s.counts) (answer_of r) ≡ gives (record { sweeps = n; removed = x })
  pub clues : c.clues ≡ b.clues
  pub entries : c.entries ≡ b.entries
  -- "the settling call, by sweeps of those passes, ends on a settled one"
  pub masks : c.masks ≡ swept (givens_in b) (n - 1) b.masks
  pub ends : IsSettled c
  -- "The sweeps and removed candidates that it reports are those that document 01 counts": every sweep but the last removes something, and that last one is counted
  pub some : 1 ≤ n
  pub goes : (j : ℕ) → j < n - 1 → sweep (givens_in b) (swept (givens_in b) j b.masks) ≢ swept (givens_in b) j b.masks
  pub stops : sweep (givens_in b) c.masks ≡ c.masks
  pub counted : total c.masks + x ≡ total b.masks
  -- "and the sweeps are at most the removed plus one"; "at most 730"
  pub bound : n ≤ x + 1
  pub most : n ≤ 730

pub record Demand3 : Type 0 where
  -- Which boards are those after a list: the one that `Board::new` or `Board::with_entries` opens after none; what a call hands back after one call more, where the equation is its contract's; likewise what `enter` and `rub_out` hand back; what `replay` hands back.
  pub opens : (clues : List ℤ) → Clues clues → (b : Board) → board_of b ≡ value_or no_board (open_of clues) → After clues no_entries [] b
  pub opens_with : (clues entries : List ℤ) → Clues clues → Entries clues entries → (b : Board) → board_of b ≡ value_or no_board (open_with_of clues entries) → After clues entries [] b
  pub calls : (clues entries : List ℤ) (xs : List Deed) (b : Board) → After clues entries xs b → (k : Call) (c : Board) → board_of c ≡ left (board_of b) (answer k (board_of b)) → After clues entries (xs ++ step k ∷ []) c
  pub enters : (clues entries : List ℤ) (xs : List Deed) (b : Board) → After clues entries xs b → (k : EntryCall) (r : Result (Unit {0}) Stop) (c : Board) → Enters k (board_of b) r (board_of c) → After clues entries (xs ++ entry k ∷ []) c
  pub replays : (clues entries : List ℤ) → Clues clues → Entries clues entries → (ns : List ℕ) → first_no_step ns ≡ none → (r : Result Board ReplayError) → Replays clues entries ns r
      → (B : Board) × (r ≡ Ok B) × After clues entries (map step (calls_of ns)) B
  -- the clues are the grid's
  pub printed : (clues entries : List ℤ) (xs : List Deed) (B : Board) → After clues entries xs B → B.clues ≡ clues
  -- "on these boards stops 3 and 9 never occur", nor does 8, a chain pass among the calls or not
  pub taken : (clues entries : List ℤ) → Clues clues → Entries clues entries → (xs : List Deed) (b : Board) → After clues entries xs b → check_of (board_of b) ≡ gives tt
  -- "any clue grid of 0 to 9 and" any "lists of document 01's board calls without the chain pass", entering and rubbing out among them; "The promise on fillings covers lists with" the X-chain pass (document 02, F-9)
  pub fillings : (clues entries : List ℤ) → Clues clues → Entries clues entries → (xs : List Deed) → without_ported (calls_in xs) ≡ true → (B : Board) → After clues entries xs B → FillingsStay B
  -- "The settling promise starts both lists from the fresh board of one clue grid with one set of entries, and neither list enters or rubs out." (document 02, F-7); it "remains for lists that contain neither chain pass" (F-9)
  pub lists : (clues entries : List ℤ) → Clues clues → Entries clues entries → (ks ls : List Call) → without_chain ks ≡ true → without_chain ls ≡ true → (B C : Board)
      → After clues entries (map step ks) B → After clues entries (map step ls) C → OneEnd B C
  -- where "two boards are equal exactly if they have the same clues, the same entries and the same masks"
  pub equal : (B C : Board) → (same_board (board_of B) (board_of C) ≡ true) ↔ (B ≡ C)
  -- and so of any two values that `replay` hands back, which are boards and no refusals; of the step numbers, those below 16, 13 is the ported chain pass and 15 the X-chain pass
  pub replayed_fillings : (clues entries : List ℤ) → Clues clues → Entries clues entries → (ns : List ℕ) → StepsWithoutPorted ns → (r : Result Board ReplayError) → Replays clues entries ns r
      → (B : Board) × (r ≡ Ok B) × FillingsStay B
  pub replayed_lists : (clues entries : List ℤ) → Clues clues → Entries clues entries → (ns ms : List ℕ) → StepsWithoutChain ns → StepsWithoutChain ms → (r s : Result Board ReplayError) → Replays clues entries ns r → Replays clues entries ms s
      → (B : Board) × (C : Board) × (r ≡ Ok B) × (s ≡ Ok C) × OneEnd B C
  pub below_ported : (ns : List ℕ) → ((i : ℕ) → i < length ns → (get_or ns i 0 < 16) × (get_or ns i 0 ≢ 13)) → StepsWithoutPorted ns
  pub below_chain : (ns : List ℕ) → ((i : ℕ) → i < length ns → (get_or ns i 0 < 16) × (get_or ns i 0 ≢ 13) × (get_or ns i 0 ≢ 15)) → StepsWithoutChain ns
  pub entered : (clues entries : List ℤ) (ks ls : List EntryCall) (B C : Board) → After clues entries (map entry ks) B → After clues entries (map entry ls) C → Afresh clues B C
  -- `apply_lone` to `apply_cross`, and `apply_settling`, "handed any board that no listed stop refuses"
  pub passes : (k : Kind) (b : Board) → Admitted (board_of b) → (r : Result Bool Stop) (c : Board) → Eliminates (wide k) (board_of b) r (board_of c) → PassDone k b r c
  pub settling : (b : Board) → Admitted (board_of b) → (r : Result code.Settled Stop) (c : Board) → Settles (board_of b) r (board_of c) → (n : ℕ) × (x : ℕ) × SettlingDone b r c n x
