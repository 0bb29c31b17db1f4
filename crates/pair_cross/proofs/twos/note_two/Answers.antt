-- `pair_cross::twos::note_two` meets its contract. Assumes nothing.
use mathlib.Core.Path.{◌≡◌, sym, ap, ap₂, ◌∙◌, subst}
use mathlib.Core.List.{List, [], ◌∷◌}
use Prim.Native.Nat.{ℕ, ◌+◌, ◌<◌}
use native.Mathlib.Omega.{arith}
use borrow.Author.Tests.{eq-eqb, ne_eqb}
use Rattle.candidates.proofs.Tests.{cond-true, cond-false}
use Rattle.grid.proofs.Units.{cell_below}
use Rattle.steps.specs.Instances.{Instance}
use Rattle.steps.specs.StepLists.{step_bytes}
use Rattle.steps.specs.code.Logs.{noted}
use Rattle.cells.proofs.LogLengths.{noted-none}
use Rattle.pair_cross.specs.code.Twos.{Framed, frame_instance}
use Rattle.pair_cross.specs.declared.twos.Frame.{Frame}
use Rattle.pair_cross.proofs.twos.note_two.Goals as goal

-- the step of rows or columns
lines_step : (F G : Frame) (i j a b : ℕ) (log : List ℕ) (x : Instance) → F ≡ G → frame_instance G i j a b ≡ x → noted (step_bytes x) log ≡ noted (step_bytes (frame_instance F i j a b)) log
lines_step F G i j a b log x is e = ap (λ (y : Instance). noted (step_bytes y) log) (sym (ap (λ (H : Frame). frame_instance H i j a b) is ∙ e))

pub returns-then-log-eq0 : goal.returns-then-log-eq0
returns-then-log-eq0 c =
    let a = c.args in
    sym (noted-none (step_bytes (frame_instance a.frame a.i a.j a.a a.b)) a.log.now c.if-log-eq0.true)

pub note-requires : goal.note-requires
note-requires c =
    let a = c.args in
    let u = c.in-Unit.unit in
    let h : u < 27 = subst Framed c.in-Unit.is c.requires.0 in (
      omega arith,
      omega arith,
      omega (arith, c.unit_cell-cell.ensures, cell_below u a.i h c.requires.1),
      omega (arith, c.unit_cell-other.ensures, cell_below u a.j h c.requires.2),
      omega arith,
      omega arith,
    )

pub returns-in-Unit : goal.returns-in-Unit
unfolding step_bytes
returns-in-Unit c =
    let a = c.args in
    let u = c.in-Unit.unit in
    c.note.ensures
    ∙ ap₂ (λ (x y : ℕ). noted (2 ∷ u ∷ x ∷ y ∷ (a.a + 1) ∷ (a.b + 1) ∷ []) a.log.now) c.unit_cell-cell.ensures c.unit_cell-other.ensures
    ∙ sym (ap (λ (F : Frame). noted (step_bytes (frame_instance F a.i a.j a.a a.b)) a.log.now) c.in-Unit.is)

pub returns-then-first-eq0 : goal.returns-then-first-eq0
unfolding step_bytes
returns-then-first-eq0 c = c.note-then-first-eq0.ensures ∙ lines_step c.args.frame _ c.args.i c.args.j c.args.a c.args.b c.args.log.now _ c.in-Lines.is (cond-true _ _ _ (eq-eqb _ 0 c.if-first-eq0.true))

pub returns-else-first-eq0 : goal.returns-else-first-eq0
unfolding step_bytes
returns-else-first-eq0 c = c.note-else-first-eq0.ensures ∙ lines_step c.args.frame _ c.args.i c.args.j c.args.a c.args.b c.args.log.now _ c.in-Lines.is (cond-false _ _ _ (ne_eqb _ 0 c.if-first-eq0.false))
