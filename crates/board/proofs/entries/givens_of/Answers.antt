use mathlib.Core.Path.{◌≡◌, refl, sym, ap, ap₂, ◌∙◌}
use mathlib.Core.List.{List, map}
use native.Mathlib.Omega.{arith}
use lib.IntN.{ℤ, pos}
use lib.ListN.{get_or, replicate}
use mir.Facts.{to_z-of_z}
use mir.Syntax.{w32}
use Rattle.grid.specs.Cells.{cells}
use Rattle.grid.proofs.Cells.{map-cells}
use Rattle.grid.proofs.Fills.{fill_start, fill_on, fill_end}
use Rattle.steps.specs.Boards.{digit_of, givens_of, joint_of, together}
use Rattle.steps.proofs.Entries.{together_at}
use Rattle.board.proofs.entries.givens_of.Goals as goal

-- the digit of each cell at once
joint-givens : (clues entries : List ℤ) → map (λ c. digit_of (joint_of (get_or clues c (pos 0)) (get_or entries c (pos 0)))) cells ≡ givens_of (together clues entries)
unfolding givens_of
joint-givens clues entries = map-cells _ _ (λ c h. ap digit_of (sym (together_at clues entries c h)))

pub loop-cell-init : goal.loop-cell-init
unfolding cells
loop-cell-init c = fill_start _ 81 (replicate 81 0) refl ∙ joint-givens _ _

pub loop-cell-preserved : goal.loop-cell-preserved
loop-cell-preserved c =
    fill_on _ 81 c.loop-cell.cell c.loop-cell.givens c.loop-cell.invariant (omega arith)
    (c.given_digit.ensures ∙ ap digit_of (to_z-of_z {w = w32} {z = c.joint.result} (record { sfits = c.joint.type_inv }) ∙ c.joint.ensures
    ∙ ap₂ joint_of (to_z-of_z {w = w32} {z = get_or c.args.clues.now c.loop-cell.cell (pos 0)} (record { sfits = c.joint-arg-1.given }))
    (to_z-of_z {w = w32} {z = get_or c.args.entries.now c.loop-cell.cell (pos 0)} (record { sfits = c.joint-arg-in-loop-cell-1.given }))))

pub returns : goal.returns
returns c = fill_end _ 81 c.loop-cell.cell c.loop-cell.givens c.loop-cell.invariant c.loop-cell-test.false
