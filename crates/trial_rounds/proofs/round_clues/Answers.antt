use mathlib.Core.Path.{refl, sym, ap, ◌∙◌}
use Prim.Native.Nat.{ℕ}
use native.Mathlib.Numerals.{add-one}
use native.Mathlib.Omega.{arith}
use borrow.Author.Rules.{rules}
use lib.IntN.{pos}
use lib.ListN.{replicate}
use mir.Facts.{to_z-of_z}
use mir.Syntax.{w32}
use Rattle.grid.specs.Cells.{cells}
use Rattle.grid.specs.Fillings.{number_at}
use Rattle.grid.proofs.Fills.{fill_start, fill_on, fill_end}
use Rattle.trial_rounds.specs.Rounds.{clue_of, round_clues, state_after}
use Rattle.trial_rounds.proofs.Rounds.{state-start, state-on}
use Rattle.trial_rounds.proofs.round_clues.Goals as goal

pub loop-cell-init : goal.loop-cell-init
unfolding round_clues cells
loop-cell-init c = (fill_start _ 81 (replicate 81 (pos 0)) refl, state-start _)

pub loop-cell-preserved : goal.loop-cell-preserved
loop-cell-preserved c =
    let start = c.args.start in
    let part = c.args.percentage in
    let digit = number_at c.args.solution.now c.loop-cell.cell in
    let moved = state-on start c.loop-cell.cell c.loop-cell.invariant.1 c.next_state-state.ensures in (
      fill_on _ 81 c.loop-cell.cell c.loop-cell.clues c.loop-cell.invariant.0 (omega arith)
          (to_z-of_z {w = w32} (record { sfits = c.clue_of.type_inv }) ∙ c.clue_of.ensures
          ∙ ap (clue_of c.next_state-state.result part) (to_z-of_z {w = w32} {z = digit} (record { sfits = search rules }))
          ∙ ap (λ (s : ℕ). clue_of s part digit) moved),
      moved ∙ ap (state_after start) (sym (add-one c.loop-cell.cell)),
    )

pub returns : goal.returns
returns c = fill_end _ 81 c.loop-cell.cell c.loop-cell.clues c.loop-cell.invariant.0 (omega arith)
