-- `passes::apply_settling` meets its contract. Assumes nothing.
use mathlib.Core.Path.{◌≡◌, ap, ◌∙◌}
use borrow.Author.Rules.{rules}
use lib.ListN.{length}
use Rattle.stops.specs.Answer.{gives}
use Rattle.stops.proofs.Answers.{put_in-place}
use Rattle.board.specs.Boards.{board_of}
use Rattle.cells.specs.code.Notes.{steps_held}
use Rattle.cells.specs.declared.notes.Steps.{Steps}
use Rattle.steps.specs.Boards.{with_masks}
use Rattle.steps.specs.Calls.{answer, settling_call}
use Rattle.passes.specs.Settlings.{counts_of, counts_done, in_room, steps_done}
use Rattle.passes.specs.code.Handed.{counts_left}
use Rattle.passes.proofs.StepValues.{log-left, board-left}
use Rattle.passes.proofs.apply_settling.Goals as goal

pub returns : goal.returns
unfolding counts_done counts_left
returns c =
    let b = board_of c.args.board.now in
    let clues-size : length b.clues ≡ 81 = search rules in
    let entries-size : length b.entries ≡ 81 = search rules in
    let masks-size : length b.masks ≡ 81 = search rules in
    let s = c.in_ok-counts.ensures in
    let given = put_in-place counts_of (answer settling_call b) s.result_value in
    let steps = c.steps_of.ensures ∙ ap steps_held s.log_after ∙ log-left b clues-size entries-size masks-size in record {
      counts = s.result_value;
      board = ap (with_masks b) s.masks_after ∙ board-left b;
      steps = ap gives (ap (λ (x : Steps). x.bytes) steps) ∙ given (in_room (steps_done b));
      step_count = ap gives (ap (λ (x : Steps). x.count) steps) ∙ put_in-place counts_of (answer settling_call b) s.result_value (length (steps_done b));
      passes = ap gives s.counts_after ∙ given (counts_done b);
    }
