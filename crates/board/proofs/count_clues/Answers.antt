use mathlib.Core.Path.{◌≡◌, sym, ap, ◌∙◌}
use mathlib.Core.Bool.{Bool, true, false, cond, not}
use Prim.Native.Nat.{ℕ, suc, ◌+◌, ◌-◌, ◌≤◌}
use native.Mathlib.Nat.{zero-add}
use native.Mathlib.Omega.{arith}
use lib.Dec.{eqb}
use lib.IntN.{pos}
use lib.ListN.{get_or}
use mir.Facts.{to_z-of_z}
use mir.Syntax.{w32}
use mir.Val.{bool_byte}
use Rattle.grid.specs.Cells.{cells}
use Rattle.grid.specs.Lists.{range}
use Rattle.steps.specs.Boards.{digit_of, given, givens_of, is_open}
use Rattle.steps.proofs.Check.{given-clue}
use Rattle.board.specs.Boards.{clue_count}
use Rattle.board.proofs.Answered.{count-on, count-end}
use Rattle.board.proofs.count_clues.Goals as goal

-- what a cell adds
adds : (free : Bool) (r : ℕ) → bool_byte (not free) + r ≡ cond free r (suc r)
adds true r = omega arith
adds false r = omega arith

at_most : (b : Bool) → bool_byte b ≤ 1
at_most true = omega arith
at_most false = omega arith

pub loop-cell-init : goal.loop-cell-init
unfolding cells
loop-cell-init c = (omega arith, omega arith, zero-add _)

pub loop-cell-preserved : goal.loop-cell-preserved
loop-cell-preserved c =
    let z = c.args.clues.now in
    let g = givens_of z in
    let i = c.loop-cell.cell in
    let read = ap digit_of (to_z-of_z {w = w32} {z = get_or z i (pos 0)} (record { sfits = c.given_digit-arg-1.given })) in
    let is : c.given_digit.result ≡ given g i = c.given_digit.ensures ∙ read ∙ sym (given-clue z i (omega arith)) in
    let r = clue_count g (range (81 - (i + 1)) (i + 1)) in
    let more : bool_byte (not (eqb c.given_digit.result 0)) + r ≡ clue_count g (range (81 - i) i) =
    ap (λ (x : ℕ). bool_byte (not (eqb x 0)) + r) is ∙ adds (is_open g i) r ∙ sym (count-on g i (omega arith)) in
    (omega arith, omega (arith, at_most (not (eqb c.given_digit.result 0))), omega (arith, more, c.loop-cell.invariant.2))

pub returns : goal.returns
returns c =
    omega (arith, count-end (givens_of c.args.clues.now) c.loop-cell.cell c.loop-cell-test.false, c.loop-cell.invariant.2)
