-- After the stops of clues and entries: the first byte that is no step number, or the board that the steps leave.
use mathlib.Core.Path.{ap, ◌∙◌}
use borrow.Author.Rules.{rules}
use Rattle.steps.specs.Boards as S
use Rattle.stops.specs.Answer.{gives}
use Rattle.calls.specs.Replays.{ran}
use Rattle.calls.proofs.Positions.{no-step-found}
use Rattle.calls.proofs.Runs.{run-replayed}
use Rattle.calls.proofs.Unchecked.{open-admitted}
use Rattle.calls.proofs.replay.Goals as goal

pub run-requires : goal.run-requires
run-requires c = open-admitted c.args.clues c.args.entries (search rules) (search rules) c.in_ok-board.ensures

pub returns-in-Some : goal.returns-in-Some
returns-in-Some c = let a = c.args in run-replayed a.clues a.entries a.steps.now c.in_ok-board.ensures (no-step-found a.steps.now c.in-Some.ensures)

pub returns-in-None : goal.returns-in-None
returns-in-None c =
    let a = c.args in ap (λ (x : S.Board). gives (ran x)) c.run.ensures ∙ run-replayed a.clues a.entries a.steps.now c.in_ok-board.ensures (no-step-found a.steps.now c.in-None.ensures)
