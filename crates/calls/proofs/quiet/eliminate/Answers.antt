use Rattle.board.specs.Boards.{handed}
use Rattle.eliminations.specs.code.Calls.{call_of}
use Rattle.calls.proofs.Arms.{uncounted-tells, uncounted-elimination}
use Rattle.calls.proofs.quiet.eliminate.Goals as goal

pub returns-clause-told : goal.returns-clause-told
returns-clause-told c =
    let a = c.args in
    let b = handed a.clues.now a.entries.now a.masks.now in
    rw c.uncounted.ensures (uncounted-tells (call_of a.elimination) b (uncounted-elimination a.elimination) c.in_ok-made.ensures.result_value)
