-- Demand 3 over `play`, `run` and `settle` alone; what the buyer is promised, of what the calls hand back, is calls/specs/Demand3. Lists.antt shows this.
use mathlib.Core.Path.{◌≡◌}
use mathlib.Core.Logic.{◌≢◌, ◌↔◌}
use mathlib.Core.Bool.{true}
use mathlib.Core.List.{List, map}
use Prim.Native.Nat.{ℕ, ◌+◌, ◌-◌, ◌≤◌, ◌<◌}
use lib.IntN.{ℤ}
use lib.ListN.{length}
use Rattle.stops.specs.Answer.{gives}
use Rattle.grid.specs.Fillings.{verified}
use Rattle.steps.specs.Boards.{Board, givens, Under, total}
use Rattle.steps.specs.Calls.{Call, Clues, Entries, without_ported, without_chain, check_of, Admitted, opened_with, run}
use Rattle.steps.specs.Entries.{EntryCall, Deed, entry, play, calls_in}
use Rattle.steps.specs.Fillings.{Keeps, InMasks}
use Rattle.steps.specs.Passes.{Settled, sweep, swept, settle, removed_by}

abbrev pub BoardSettled : Board → Type 0
BoardSettled b = Settled (givens b) b.masks

-- "Where the board after the first list is settled, it equals the board after the second exactly when that one is settled too."
abbrev pub OneEnd : Board → Board → Type 0
OneEnd b c = BoardSettled b → (b ≡ c) ↔ BoardSettled c

-- "For every such list and every filled grid that the verifier passes, that grid takes each cell's digit from that cell's mask on the final board exactly when it keeps" clues and entries.
abbrev pub FillingsStay : Board → Type 0
FillingsStay b = (f : List ℤ) → length f ≡ 81 → verified f ≡ true → InMasks b.masks f ↔ Keeps b f

-- Settling from the masks m, under the givens g.
pub record SettlingEnds (g m : List ℕ) : Type 0 where
  -- "ends on a settled one"
  pub ends : Settled g (settle g m).left
  -- the greatest: every settled assignment below m is below what settling leaves
  pub greatest : (z : List ℕ) → Settled g z → Under z m → Under z (settle g m).left
  pub below : Under (settle g m).left m
  -- "candidates left plus removed equal those before the call"
  pub counted : total (settle g m).left + removed_by m (settle g m).left ≡ total m
  -- "the sweeps are at most the removed plus one", and "at most 730"
  pub bound : (settle g m).sweeps ≤ removed_by m (settle g m).left + 1
  pub most : (settle g m).sweeps ≤ 730
  -- "sweep until one removes nothing", "that last one counted": every sweep before the last changes the masks, the last one does not, and the masks are those after the sweeps before it
  pub some : 1 ≤ (settle g m).sweeps
  pub goes : (j : ℕ) → j < (settle g m).sweeps - 1 → sweep g (swept g j m) ≢ swept g j m
  pub stops : sweep g (swept g ((settle g m).sweeps - 1) m) ≡ swept g ((settle g m).sweeps - 1) m
  pub final : (settle g m).left ≡ swept g ((settle g m).sweeps - 1) m

-- Of every list, of every list without the ported chain pass, of every two lists with neither chain pass, of entering and rubbing out, and of settling on every board that no listed stop refuses. A list starts on the fresh board of clues and entries.
pub record ListTheorem : Type 0 where
  -- "on these boards stops 3 and 9 never occur", nor 8: after any list, both chain passes too, the next call is not refused
  pub taken : (clues entries : List ℤ) → Clues clues → Entries clues entries → (xs : List Deed) → check_of (play xs (opened_with clues entries)) ≡ gives tt
  pub fillings : (clues entries : List ℤ) → Clues clues → Entries clues entries → (xs : List Deed) → without_ported (calls_in xs) ≡ true → FillingsStay (play xs (opened_with clues entries))
  -- "Settled boards are compared only where neither list enters or rubs out."
  pub lists : (clues entries : List ℤ) → Clues clues → Entries clues entries → (ks ls : List Call) → without_chain ks ≡ true → without_chain ls ≡ true
      → OneEnd (run ks (opened_with clues entries)) (run ls (opened_with clues entries))
  -- "each board equals the one worked out afresh"
  pub afresh : (clues entries : List ℤ) (ks : List EntryCall) → play (map entry ks) (opened_with clues entries) ≡ opened_with clues (play (map entry ks) (opened_with clues entries)).entries
  pub settling : (b : Board) → Admitted b → SettlingEnds (givens b) b.masks
