-- `record::check_unentered` meets its contract. Assumes nothing.
use mathlib.Core.Path.{◌≡◌, sym, ap, ◌∙◌}
use Prim.Native.Nat.{◌+◌, ◌*◌, ◌<◌}
use lib.Dec.{eqb}
use lib.IntN.{ℤ, pos}
use borrow.Author.Tests.{ne_eqb}
use native.Mathlib.Omega.{arith}
use Rattle.stops.specs.Answer.{gives, stop}
use Rattle.stops.specs.declared.Stop.TheVariants.{RecordEntries}
use Rattle.stops.proofs.Numbers.{small}
use Rattle.candidates.proofs.Tests.{cond-false}
use Rattle.grid.specs.Cells.{cells}
use Rattle.steps.specs.Boards.{givens_of}
use Rattle.board.specs.Boards.{clue_count}
use Rattle.board.proofs.Answered.{clues-few}
use Rattle.record.proofs.check_unentered.Goals as goal

pub overflow_mul-result : goal.overflow_mul-result
unfolding cells
overflow_mul-result c = omega (arith, c.count_clues-2.ensures, clues-few (givens_of c.args.board.now.clues) cells)

pub overflow_add-result : goal.overflow_add-result
unfolding cells
overflow_add-result c = omega (arith, c.count_clues-2.ensures, clues-few (givens_of c.args.board.now.clues) cells)

pub overflow_cast-result : goal.overflow_cast-result
unfolding cells
overflow_cast-result c = omega (arith, c.count_clues-2.ensures, clues-few (givens_of c.args.board.now.clues) cells)

pub returns : goal.returns
unfolding cells
returns c =
    let few : c.count_clues-2.result < 82 = (
    omega (arith, c.count_clues-2.ensures, clues-few (givens_of c.args.board.now.clues) cells)
    ) in
    let a = c.args in
    let n : 1 + 2 * c.count_clues-2.result ≡ 1 + 2 * clue_count (givens_of a.board.now.clues) cells = omega (arith, c.count_clues-2.ensures) in
    ap (λ (z : ℤ). stop (RecordEntries z)) (small (omega (arith, few)) ∙ ap pos n)
    ∙ sym (cond-false (eqb (clue_count (givens_of a.board.now.entries) cells) 0) (gives tt) _ (ne_eqb (clue_count (givens_of a.board.now.entries) cells) 0 (λ z. c.if-count_clues-eq0.false (c.count_clues.ensures ∙ z))))
