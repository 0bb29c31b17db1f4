-- Entering a digit and rubbing it out (document 02, F-6), and lists that do both between the board calls.
use Rattle.std.specs.Prelude.{◌≡◌, ◌≢◌, Bool, cond, not, List, [], ◌∷◌, ℕ, ◌<◌, leb, ℤ, pos, get_or, set}
use Rattle.stops.specs.Answer.{Answer, gives, stop, map, then, value_or}
use Rattle.stops.specs.declared.Stop.{Stop}
use Rattle.stops.specs.declared.Stop.TheVariants.{BadDigit, NoCell, ClueCell, AlreadyEntered, NotEntered}
use Rattle.candidates.specs.Masks.{single}
use Rattle.candidates.specs.Sets.{place}
use Rattle.steps.specs.Boards.{Board, at, no_digit, givens_of, together, no_entries}
use Rattle.steps.specs.Calls.{Call, check_of, Admitted, answer, left, opened_with}

-- a digit entered in a cell, and the entry of a cell rubbed out
pub data EntryCall : Type 0 where
  enter : ℕ → ℤ → EntryCall
  rub_out : ℕ → EntryCall

abbrev pub stop_if : {A : Type 0} → Bool → Stop → Answer A → Answer A
stop_if t s a = cond t (stop s) a

-- the entries that a call leaves: "the order is 5, 4 (entering only), 12, 13"
unfoldable pub entries_after : EntryCall → List ℤ → List ℤ → Answer (List ℤ)
entries_after (enter c z) clues entries =
    stop_if (leb 81 c) (NoCell c)
    (stop_if (no_digit z) (BadDigit z)
    (stop_if (not (no_digit (get_or clues c (pos 0)))) (ClueCell c)
    (stop_if (not (no_digit (get_or entries c (pos 0)))) (AlreadyEntered c) (gives (set entries c z)))))
entries_after (rub_out c) clues entries =
    stop_if (leb 81 c) (NoCell c)
    (stop_if (not (no_digit (get_or clues c (pos 0)))) (ClueCell c)
    (stop_if (no_digit (get_or entries c (pos 0))) (NotEntered c) (gives (set entries c (pos 0)))))

-- the board's own stops first; "Entering or rubbing out makes the masks those of a fresh board whose clues are the printed clues and the remaining entries together."
unfoldable pub entry_answer : EntryCall → Board → Answer Board
entry_answer k b = then (check_of b) λ _. map (opened_with b.clues) (entries_after k b.clues b.entries)

-- ---- lists

-- "Demand 3's lists may now also enter and rub out": a member of such a list
pub data Deed : Type 0 where
  step : Call → Deed
  entry : EntryCall → Deed

-- the board that it leaves, as it was beside a refusal
unfoldable pub deed : Deed → Board → Board
deed (step k) b = left b (answer k b)
deed (entry k) b = value_or b (entry_answer k b)

unfoldable pub play : List Deed → Board → Board
play [] b = b
play (x ∷ xs) b = play xs (deed x b)

-- the board calls in it
abbrev pub calls_in : List Deed → List Call
calls_in [] = []
calls_in (step k ∷ xs) = k ∷ calls_in xs
calls_in (entry k ∷ xs) = calls_in xs

-- ---- what an entry means

abbrev pub entry_at : Board → ℕ → ℤ
entry_at b c = get_or b.entries c (pos 0)

-- the cell has z as its entry, and its digit alone as its mask
pub record HasEntry (b : Board) (c : ℕ) (z : ℤ) : Type 0 where
  pub entry : entry_at b c ≡ z
  pub mask : at b.masks c ≡ single (place z)

-- What is promised of entries, on every board that no listed stop refuses.
pub record EntriesStand : Type 0 where
  -- a board without entries has the givens of its clues, and so their fresh masks
  pub without : (clues : List ℤ) → givens_of (together clues no_entries) ≡ givens_of clues
  -- "An entry's cell then has its digit as its mask and no step changes it": no call but the one that rubs it out
  pub alone : (b : Board) → Admitted b → (c : ℕ) → c < 81 → entry_at b c ≢ pos 0 → HasEntry b c (entry_at b c)
  pub stays : (b : Board) → Admitted b → (c : ℕ) → c < 81 → entry_at b c ≢ pos 0 → (x : Deed) → x ≢ entry (rub_out c) → HasEntry (deed x b) c (entry_at b c)
