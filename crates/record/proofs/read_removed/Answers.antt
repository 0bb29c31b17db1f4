-- `record::read_removed` meets its contract. Assumes nothing.
use mathlib.Core.Path.{ap, ◌∙◌}
use native.Mathlib.Omega.{arith}
use Rattle.stops.specs.Answer.{gives, map}
use Rattle.stops.specs.declared.Stop.TheVariants.{RecordBytes}
use Rattle.stops.proofs.Answers.{passed-on}
use Rattle.steps.specs.Boards.{fresh}
use Rattle.board.specs.Boards.{board_of}
use Rattle.record.proofs.Entries.{placed}
use Rattle.record.proofs.SectionsRead.{free-from, from-removed, removed-over, removed-read, board-from}
use Rattle.record.proofs.read_removed.Goals as goal

pub returns-in_err-next : goal.returns-in_err-next
returns-in_err-next c =
    let a = c.args in
    ap (map board_of) (passed-on _ c.from_residual.ensures.1)
    ∙ from-removed a.clues a.entered a.bytes.now a.start
    (c.in_err-next.ensures ∙ free-from a.clues a.entered a.bytes.now a.start c.givens_of-givens.ensures c.fresh_masks-fresh.ensures c.open_sets-free.ensures)

pub returns-then-next-bytes : goal.returns-then-next-bytes
returns-then-next-bytes c =
    let a = c.args in
    placed RecordBytes (omega arith)
    ∙ removed-over a.clues a.entered a.bytes.now a.start
    (c.in_ok-next.ensures ∙ free-from a.clues a.entered a.bytes.now a.start c.givens_of-givens.ensures c.fresh_masks-fresh.ensures c.open_sets-free.ensures) c.if-next-bytes.true

pub returns : goal.returns
returns c =
    let a = c.args in
    ap gives (board-from a.clues a.entered c.read_section.new.sets (c.fresh_masks-fresh.ensures ∙ ap fresh c.givens_of-givens.ensures) c.lacking_sets.ensures)
    ∙ removed-read a.clues a.entered a.bytes.now a.start
    (c.in_ok-next.ensures ∙ free-from a.clues a.entered a.bytes.now a.start c.givens_of-givens.ensures c.fresh_masks-fresh.ensures c.open_sets-free.ensures) c.if-next-bytes.false
