use mathlib.Core.Path.{ap, ◌∙◌}
use Rattle.stops.specs.Answer.{Answer}
use Rattle.stops.proofs.Answers.{passed-on}
use Rattle.steps.specs.Calls.{Outcome, update_candidates, left}
use Rattle.board.proofs.Answered.{answers}
use Rattle.board.specs.Boards.{handed}
use Rattle.calls.proofs.Arms.{update-tells}
use Rattle.calls.proofs.quiet.update.Goals as goal

pub returns-in_err-update_candidates-clause-told : goal.returns-in_err-update_candidates-clause-told
returns-in_err-update_candidates-clause-told c =
    let b = handed c.args.clues.now c.args.entries.now c.args.masks.now in
    passed-on _ c.from_residual.ensures.1 ∙ update-tells b c.in_err-update_candidates.ensures.told

pub returns-in_err-update_candidates-clause-masks_after : goal.returns-in_err-update_candidates-clause-masks_after
returns-in_err-update_candidates-clause-masks_after c =
    let b = handed c.args.clues.now c.args.entries.now c.args.masks.now in
    ap (λ (a : Answer Outcome). (left b a).masks) (answers update_candidates b c.in_err-update_candidates.ensures.told)

pub returns-clause-told : goal.returns-clause-told
returns-clause-told c =
    let b = handed c.args.clues.now c.args.entries.now c.args.masks.now in
    rw c.uncounted.ensures (update-tells b c.in_ok-update_candidates.ensures.told)
