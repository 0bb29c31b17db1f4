-- Each arm is the entry of the table at its number.
use mathlib.Core.Path.{sym, ap, subst, ◌∙◌}
use Prim.Native.Nat.{ℕ}
use native.Mathlib.Omega.{arith}
use lib.IntN.{ℤ, pos}
use Rattle.grid.specs.Cells.{cells}
use Rattle.steps.specs.Boards.{givens_of}
use Rattle.sudoku.specs.Boards.{verdict_number}
use Rattle.sudoku.proofs.Calls.{is-asked, not-asked}
use Rattle.stops.specs.Answer.{Answer, map}
use Rattle.stops.proofs.Answers.{map-map, map-then}
use Rattle.steps.specs.Calls.{check_of}
use Rattle.board.specs.Boards.{board_of, clue_count, cell_mask, verdict_of}
use Rattle.board.specs.declared.Verdict.{Verdict}
use Rattle.sudoku.specs.Codes.{coded}
use Rattle.sudoku.specs.code.Fitting.{Fitting}
use Rattle.sudoku.proofs.Fitting.{passing-fits, few-clues}
use Rattle.sudoku.proofs.accessors.ask.Goals as goal

pub of_counted-requires : goal.of_counted-requires
of_counted-requires c =
    let b = board_of c.args.board.now in
    subst (λ (a : Answer ℕ). Fitting (map pos a)) (sym c.clue_count.ensures) (passing-fits (check_of b) (few-clues (givens_of b.clues)))

pub returns-in-0 : goal.returns-in-0
returns-in-0 c =
    let b = board_of c.args.board.now in
    c.of_counted.ensures ∙ ap (λ (a : Answer ℕ). coded (map pos a) 0) c.clue_count.ensures
    ∙ ap (λ (a : Answer ℤ). coded a 0) (map-map pos (λ _. clue_count (givens_of b.clues) cells) (check_of b))
    ∙ is-asked 0 c.args.question b c.args.cell c.in-0.is

pub returns-in-1 : goal.returns-in-1
returns-in-1 c =
    let b = board_of c.args.board.now in
    c.of_verdict.ensures ∙ ap (λ (a : Answer Verdict). coded (map verdict_number a) 0) c.verdict.ensures
    ∙ ap (λ (a : Answer ℤ). coded a 0) (map-map verdict_number (λ _. verdict_of b.masks) (check_of b))
    ∙ is-asked 1 c.args.question b c.args.cell c.in-1.is

pub returns-in-2 : goal.returns-in-2
returns-in-2 c =
    let b = board_of c.args.board.now in
    c.of_cell_mask.ensures ∙ ap (λ (a : Answer ℕ). coded (map pos a) 0) c.cell_mask.ensures
    ∙ ap (λ (a : Answer ℤ). coded a 0) (map-then pos (check_of b) (λ _. cell_mask b.masks c.args.cell))
    ∙ is-asked 2 c.args.question b c.args.cell c.in-2.is

pub returns-in_default : goal.returns-in_default
returns-in_default c =
    c.of_unknown.ensures ∙ not-asked c.args.question (board_of c.args.board.now) c.args.cell (omega arith)
