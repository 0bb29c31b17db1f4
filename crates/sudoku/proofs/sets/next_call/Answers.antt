-- Each arm says whether a digit was found.
use mathlib.Core.Path.{◌≡◌, ap, ◌∙◌}
use lib.IntN.{ℤ, pos}
use borrow.Author.Rules.{rules}
use mir.Syntax.{w32}
use mir.Val.{to_z, of_z}
use Rattle.sudoku.specs.Codes.{four}
use Rattle.sudoku.specs.Sets.{next_code}
use Rattle.sudoku.proofs.Calls.{stepped}
use Rattle.sudoku.proofs.sets.next_call.Goals as goal

pub returns-in-Some : goal.returns-in-Some
returns-in-Some c =
    let rest = c.next.new.self in
    let back : to_z w32 (of_z w32 c.in-Some.digit) ≡ c.in-Some.digit = search rules in
    c.of_digit.ensures ∙ ap (λ (z : ℤ). four (pos 0) (pos rest.current) z (pos rest.mask)) back
    ∙ ap (next_code c.args.mask c.args.place) c.in-Some.ensures.steps.0 ∙ stepped c.args.mask c.args.place

pub returns-in-None : goal.returns-in-None
returns-in-None c =
    c.of_digit-in-None.ensures ∙ ap (next_code c.args.mask c.args.place) c.in-None.ensures.steps.0 ∙ stepped c.args.mask c.args.place
