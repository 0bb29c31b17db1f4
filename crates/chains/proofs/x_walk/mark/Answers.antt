-- `chains::x_walk::mark` meets its contract. Assumes nothing.
use mathlib.Core.Path.{sym, ap, ◌∙◌}
use mathlib.Core.Bool.{Bool, ◌&&◌}
use mathlib.Core.List.{List, [], ◌∷◌}
use Prim.Native.Nat.{ℕ}
use borrow.Author.Tests.{le-leb, lt-leb}
use lib.Dec.{leb}
use Rattle.candidates.proofs.Tests.{both, cond-true, cond-false}
use Rattle.steps.specs.Loops.{each}
use Rattle.chains.specs.code.XLinks.{marked}
use Rattle.chains.proofs.x_walk.mark.Goals.{else-weak-via-then-weak+else-depth-ge3, else-weak-via-else-weak}
use Rattle.chains.proofs.x_walk.mark.Goals as goal

pub returns-then-depth-ge3 : goal.returns-then-depth-ge3
unfolding marked each
returns-then-depth-ge3 c =
    let a = c.args in
    sym (ap (λ (l : List ℕ). marked l a.ends.now) (cond-true (a.weak && leb 3 a.depth) (a.cell ∷ []) [] (both c.if-weak.true (le-leb 3 a.depth c.if-depth-ge3.true))))

pub returns-else-weak : goal.returns-else-weak
unfolding marked each
returns-else-weak c =
    let a = c.args in
    sym (ap (λ (l : List ℕ). marked l a.ends.now) (cond-false (a.weak && leb 3 a.depth) (a.cell ∷ []) [] (elim c.else-weak.branch [
      | else-weak-via-then-weak+else-depth-ge3 w ↦ ap (λ (t : Bool). t && leb 3 a.depth) w.if-weak.true ∙ lt-leb 3 a.depth w.if-depth-ge3.false
      | else-weak-via-else-weak w ↦ ap (λ (t : Bool). t && leb 3 a.depth) w.if-weak.false
    ])))
