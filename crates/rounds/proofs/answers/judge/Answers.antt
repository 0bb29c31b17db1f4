use mathlib.Core.Path.{◌≡◌, refl, sym, ap, ap₂, ◌∙◌}
use mathlib.Core.Bool.{Bool}
use mathlib.Core.List.{List}
use mathlib.Core.Option.{Option, none}
use Prim.Native.Nat.{ℕ}
use native.Mathlib.Omega.{arith}
use Rattle.grid.specs.Cells.{cells}
use Rattle.grid.specs.Fillings.{verified}
use Rattle.steps.proofs.Searches.{found, passed, ended}
use Rattle.text.specs.Texts.{clues_of}
use Rattle.rounds.specs.Answers.{is_broken, first_broken, judged}
use Rattle.rounds.proofs.answers.judge.Goals as goal

pub loop-cell-init : goal.loop-cell-init
unfolding cells
loop-cell-init c = refl

pub returns-then-is_broken : goal.returns-then-is_broken
returns-then-is_broken c =
    let a = c.args in
    ap (λ (o : Option ℕ). judged o (verified (clues_of a.answer.now)))
    (found _ 81 c.loop-cell.cell c.loop-cell.invariant (omega arith) (c.is_broken.ensures ∙ ap₂ is_broken c.byte_at.ensures c.byte_at-in-loop-cell.ensures) c.if-is_broken.true)

pub loop-cell-preserved : goal.loop-cell-preserved
loop-cell-preserved c =
    passed _ 81 c.loop-cell.cell c.loop-cell.invariant (omega arith) (c.is_broken.ensures ∙ ap₂ is_broken c.byte_at.ensures c.byte_at-in-loop-cell.ensures) c.if-is_broken.false

-- no clue is broken, and the verifier says yes or no
verdict : (grid answer : List ℕ) {t v : Bool} → none ≡ first_broken grid answer → v ≡ t → v ≡ verified (clues_of answer) → judged none t ≡ judged (first_broken grid answer) (verified (clues_of answer))
verdict grid answer n e v = ap₂ judged n (sym e ∙ v)

pub returns-then-verify_solution : goal.returns-then-verify_solution
returns-then-verify_solution c =
    let a = c.args in
    verdict a.grid.now a.answer.now (ended _ 81 c.loop-cell.cell c.loop-cell.invariant c.loop-cell-test.false) c.if-verify_solution.true (c.verify_solution.ensures ∙ ap verified c.clues_of-digits.ensures)

pub returns : goal.returns
returns c =
    let a = c.args in
    verdict a.grid.now a.answer.now (ended _ 81 c.loop-cell.cell c.loop-cell.invariant c.loop-cell-test.false) c.if-verify_solution.false (c.verify_solution.ensures ∙ ap verified c.clues_of-digits.ensures)
