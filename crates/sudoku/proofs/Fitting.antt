-- Counts of clues and of bytes, and the index of a byte, fit an `i64`.
use mathlib.Core.Bool.{Bool, true, false, cond}
use mathlib.Core.List.{List}
use mathlib.Core.Option.{Option, none, some}
use Prim.Native.Nat.{ℕ, ◌<◌, ◌^◌}
use native.Mathlib.Omega.{arith}
use lib.Dec.{leb}
use lib.IntN.{ℤ, pos}
use lib.ListN.{length}
use mir.Syntax.{w64}
use mir.Val.{SFits}
use Rattle.stops.specs.Answer.{Answer, gives, stop, map, passing, then, stop_at}
use Rattle.stops.specs.declared.Stop.TheVariants.{TooFewBytes, BadClue}
use Rattle.grid.specs.Cells.{cells}
use Rattle.grid.proofs.Lists.{mem-range}
use Rattle.steps.specs.Boards.{Board}
use Rattle.steps.specs.Calls.{check_of, first_bad_clue}
use Rattle.steps.proofs.Loops.{first_by}
use Rattle.board.specs.Boards.{clue_count, open_with_of}
use Rattle.board.proofs.Answered.{clues-few}
use Rattle.text.specs.Texts as T
use Rattle.text.specs.Texts.{parse_of}
use Rattle.record.specs.declared.forms.Form.{Form}
use Rattle.record.specs.declared.forms.Form.TheVariants.{New}
use Rattle.record.specs.Moves.{other, movable, moved_of, move_of}
use Rattle.record.specs.Records as R
use Rattle.record.specs.Records.{bytes_in, record_of, write_in}
use Rattle.record.proofs.Rooms.{record-few}
use Rattle.card.specs.Cards.{card_bytes, card_for, card_of, text_in}
use Rattle.card.proofs.Cards.{read_short}
use Rattle.calls.specs.Replays.{calls_of, first_no_step, replay_of, run_or}
use Rattle.sudoku.specs.code.Fitting.{Fitting}
use Rattle.sudoku.specs.code.Parts.{RunFits}

pub place-fits : {n : ℕ} → n < 2 ^ 63 → SFits w64 (pos n)
place-fits below = record { sfits = below }

-- ---- a call that is checked first

pub passing-fits : (k : Answer (Unit {0})) {n : ℕ} → n < 2 ^ 63 → Fitting (map pos (passing k n))
passing-fits (gives u) h = place-fits h
passing-fits (stop s) h = tt

-- ---- how many clues there are

pub few-clues : (g : List ℕ) → clue_count g cells < 2 ^ 63
unfolding cells
few-clues g = omega (arith, clues-few g cells)

-- ---- the writers

-- texts and sheets: n bytes
pub text-fits : (n : ℕ) (clues : List ℤ) (lent : ℕ) → n < 2 ^ 63 → Fitting (map pos (T.write_of n clues lent))
unfolding T.write_of
text-fits n clues lent h = go (leb n lent)
  where
    go : (t : Bool) → Fitting (map pos (cond t (passing (stop_at BadClue (first_bad_clue clues)) n) (stop (TooFewBytes (pos lent)))))
    go true = passing-fits (stop_at BadClue (first_bad_clue clues)) h
    go false = tt

pub record-fits : (b : Board) (lent : ℕ) → Fitting (map pos (R.write_of b lent))
unfolding R.write_of
record-fits b lent = go (check_of b) (leb (length (record_of b)) lent)
  where
    go : (k : Answer (Unit {0})) (t : Bool) → Fitting (map pos (then k (λ _. cond t (gives (length (record_of b))) (stop (TooFewBytes (pos lent))))))
    go (gives u) true = place-fits (omega (arith, record-few New b))
    go (gives u) false = tt
    go (stop s) t = tt

pub move-fits : (k : Form) (bs : List ℕ) (lent : ℕ) → Fitting (map pos (move_of k bs lent))
unfolding move_of moved_of
move-fits k bs lent = go (movable k bs)
  where
    whole : (b : Board) (t : Bool) → Fitting (map pos (cond t (gives (length (bytes_in (other k) b))) (stop (TooFewBytes (pos lent)))))
    whole b true = place-fits (omega (arith, record-few (other k) b))
    whole b false = tt

    go : (a : Answer Board) → Fitting (map pos (then (map (bytes_in (other k)) a) (λ r. write_in (length r) lent)))
    go (gives b) = whole b (leb (length (bytes_in (other k) b)) lent)
    go (stop s) = tt

pub card-fits : (input : List ℕ) → Fitting (map pos (map (λ card. length (card_bytes card)) (card_of input)))
unfolding card_of
card-fits input = go (parse_of (text_in input))
  where
    go : (p : Answer (List ℤ)) → Fitting (map pos (map (λ card. length (card_bytes card)) (map card_for p)))
    go (gives clues) = place-fits (omega (arith, read_short clues))
    go (stop s) = tt

-- ---- a list of steps

pub replay-fits : (clues entries : List ℤ) (steps : List ℕ) → length steps < 2 ^ 63 → RunFits (replay_of clues entries steps)
unfolding replay_of first_no_step
replay-fits clues entries steps below = go (open_with_of clues entries) (first_no_step steps) (first_by _ Below _ tt (λ i l. omega (arith, mem-range (length steps) 0 i l)))
  where
    Below : Option ℕ → Type 0
    Below none = Unit {0}
    Below (some i) = i < length steps

    go : (a : Answer Board) (o : Option ℕ) → Below o → RunFits (map (run_or o (calls_of steps)) a)
    go (gives b) none h = tt
    go (gives b) (some i) h = place-fits (omega arith)
    go (stop s) o h = tt
