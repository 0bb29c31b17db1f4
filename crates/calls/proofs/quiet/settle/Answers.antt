use Rattle.board.specs.Boards.{handed}
use Rattle.calls.proofs.Arms.{settling-tells}
use Rattle.calls.proofs.quiet.settle.Goals as goal

pub returns-clause-told : goal.returns-clause-told
returns-clause-told c =
    let a = c.args in
    settling-tells (handed a.clues.now a.entries.now a.masks.now) c.in_ok-counts.ensures.result_value
