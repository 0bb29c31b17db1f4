-- A list of steps is run one after the other, and `replay` hands back what its definition says. Assumes nothing.
use mathlib.Core.Path.{◌≡◌, refl, sym, ap, ◌∙◌}
use mathlib.Core.List.{List, ◌∷◌}
use mathlib.Core.Option
use mathlib.Core.Option.{Option, none, some}
use Prim.Native.Nat.{ℕ, ◌+◌, ◌≤◌, ◌<◌}
use native.Mathlib.Numerals.{add-one}
use lib.IntN.{ℤ}
use lib.ListN.{length, get_or, drop, drop_of_length-le}
use lib.Seq.{drop-cons}
use Rattle.std.specs.Prelude.{Result, Err, IsErrAnd}
use Rattle.std.proofs.lemmas.Result.{err_from_is_err_and}
use Rattle.stops.specs.Answer.{Answer, stop, map}
use Rattle.stops.specs.declared.Stop.{Stop}
use Rattle.steps.specs.Boards as S
use Rattle.steps.specs.Calls.{Call, answer, run}
use Rattle.board.specs.Boards.{open_with_of}
use Rattle.board.specs.declared.Board.{Board}
use Rattle.calls.specs.Replays.{calls_of, cons_call, first_no_step, run_or, replay_of, replaying}
use Rattle.calls.specs.StepNumbers.{step_call, step_answer, step_left}
use Rattle.calls.specs.declared.ReplayError.{ReplayError}
use Rattle.calls.specs.declared.ReplayError.TheVariants.{Refused}

run_step : (n : ℕ) (ns : List ℕ) (b : S.Board) → run (calls_of ns) (step_left b (step_answer n b)) ≡ run (calls_of (n ∷ ns)) b
unfolding run calls_of step_answer
run_step n ns b = go (step_call n)
  where
    go : (o : Option Call) → run (calls_of ns) (step_left b (Option.map (λ k. answer k b) o)) ≡ run (cons_call o (calls_of ns)) b
    go none = refl
    go (some k) = refl

-- the step at an index, and the end of the list
module _ (ns : List ℕ) (i : ℕ) where
  pub run_on : i < length ns → (b : S.Board) → run (calls_of (drop (i + 1) ns)) (step_left b (step_answer (get_or ns i 0) b)) ≡ run (calls_of (drop i ns)) b
  run_on h b = run_step (get_or ns i 0) (drop (i + 1) ns) b ∙ ap (λ (l : List ℕ). run (calls_of l) b) (sym (rw (add-one, drop-cons ns i 0)))

  pub run_end : length ns ≤ i → (b : S.Board) → run (calls_of (drop i ns)) b ≡ b
  unfolding run calls_of
  run_end h b = ap (λ (l : List ℕ). run (calls_of l) b) (drop_of_length-le ns h)

module _ (clues entries : List ℤ) (ns : List ℕ) where
  pub run-replayed : {a : Answer S.Board} → a ≡ open_with_of clues entries → {o : Option ℕ} → o ≡ first_no_step ns → map (run_or o (calls_of ns)) a ≡ replay_of clues entries ns
  unfolding replay_of
  run-replayed {a} e same = ap (λ (o : Option ℕ). map (run_or o (calls_of ns)) a) same ∙ ap (map (run_or (first_no_step ns) (calls_of ns))) e

-- what a `?` hands on as the error of a list is the stop that it met
pub replay-refused : (r : Result Board ReplayError) {s : Stop} → IsErrAnd r (λ e. e ≡ Refused s) → replaying r ≡ stop s
replay-refused r h = let p = err_from_is_err_and r h in ap replaying p.1 ∙ ap (λ (e : ReplayError). replaying (Err e)) p.2
