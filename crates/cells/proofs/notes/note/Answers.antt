use mathlib.Core.Path.{◌≡◌, sym, ap, ◌∙◌}
use mathlib.Core.List.{List, [], ◌∷◌}
use Prim.Native.Nat.{ℕ, ◌+◌, ◌*◌, ◌/◌, ◌%◌}
use native.Mathlib.Nat.{add-zero}
use native.Mathlib.Omega.{arith}
use borrow.Author.Tests.{lt-ltb, le-ltb}
use lib.Dec.{ltb}
use lib.ListN.{set}
use Rattle.candidates.proofs.Tests.{cond-true, cond-false}
use Rattle.grid.proofs.Lists.{turn-done, turns-over}
use Rattle.steps.specs.Boards.{at}
use Rattle.steps.specs.Loops.{each, range}
use Rattle.steps.specs.code.Logs.{steps_noted, put_six, put_count, noted}
use Rattle.cells.proofs.LogLengths.{noted-none}
use Rattle.cells.proofs.notes.note.Invariants.{turn}
use Rattle.cells.proofs.notes.note.Goals as goal

pub returns-then-log-eq0 : goal.returns-then-log-eq0
returns-then-log-eq0 c =
    let a = c.args in
    sym (noted-none (a.kind ∷ a.first ∷ a.second ∷ a.third ∷ a.fourth ∷ a.fifth ∷ []) a.log.now c.if-log-eq0.true)

-- six turns are the six bytes
six-turns : (n : ℕ) (step l : List ℕ) → each (turn n step) (range 6 0) l ≡ put_six (6 * n) step l
unfolding each put_six
six-turns n step l =
    ap (λ (i : ℕ). set (set (set (set (set (set l i (at step 0)) (6 * n + 1) (at step 1)) (6 * n + 2) (at step 2)) (6 * n + 3) (at step 3)) (6 * n + 4) (at step 4)) (6 * n + 5) (at step 5)) (add-zero (6 * n))

pub loop-part-init : goal.loop-part-init
loop-part-init c = (omega arith, six-turns c.steps_noted-count.result _ c.args.log.now)

pub loop-part-preserved : goal.loop-part-preserved
loop-part-preserved c =
    let l = c.loop-part in
    (omega arith, turn-done _ 6 l.part (omega arith) c.put.ensures l.invariant.1)

-- and then the count
pub returns-after-loop-part : goal.returns-after-loop-part
unfolding noted put_count
returns-after-loop-part c =
    let a = c.args in
    let l = a.log.now in
    let n = c.steps_noted-count.result in
    let step = a.kind ∷ a.first ∷ a.second ∷ a.third ∷ a.fourth ∷ a.fifth ∷ [] in
    let grown : ℕ → List ℕ = λ k. put_count (k + 1) (put_six (6 * k) step l) in
    let six = turns-over _ 6 c.loop-part.part c.loop-part-test.false c.loop-part.invariant.1 in
    let lower = c.put-then-count-lt729.ensures ∙ ap (λ (o : List ℕ). set o 4374 ((n + 1) % 256)) six in
    c.put-then-count-lt729-2.ensures ∙ ap (λ (o : List ℕ). set o 4375 ((n + 1) / 256)) lower ∙ ap grown c.steps_noted-count.ensures
    ∙ sym (cond-true (ltb (steps_noted l) 729) (grown (steps_noted l)) l (ap (λ (k : ℕ). ltb k 729) (sym c.steps_noted-count.ensures) ∙ lt-ltb n 729 c.if-count-lt729.true))

pub returns-else-count-lt729 : goal.returns-else-count-lt729
unfolding noted
returns-else-count-lt729 c =
    let a = c.args in
    let l = a.log.now in
    let n = steps_noted l in
    let step = a.kind ∷ a.first ∷ a.second ∷ a.third ∷ a.fourth ∷ a.fifth ∷ [] in
    sym (cond-false (ltb n 729) (put_count (n + 1) (put_six (6 * n) step l)) l (ap (λ (k : ℕ). ltb k 729) (sym c.steps_noted-count.ensures) ∙ le-ltb c.steps_noted-count.result 729 c.if-count-lt729.false))
