-- The steps that are left, from the masks so far, make the whole, and the board is one that no stop refuses.
use mathlib.Core.Path.{◌≡◌, refl, sym, ap, subst, ◌∙◌}
use mathlib.Core.List.{List}
use Prim.Native.Nat.{ℕ, ◌+◌}
use native.Mathlib.Omega.{arith}
use lib.ListN.{get_or, drop}
use Rattle.steps.specs.Boards.{Admissible, givens, with_masks}
use Rattle.steps.specs.Calls.{run}
use Rattle.steps.proofs.Lists.{Good, admitted-good}
use Rattle.board.specs.Boards.{board_of}
use Rattle.calls.specs.Replays.{calls_of}
use Rattle.calls.specs.code.Unchecked.{step_masks}
use Rattle.calls.proofs.Runs.{run_on, run_end}
use Rattle.calls.proofs.Unchecked.{step-unchecked, step-good}
use Rattle.calls.proofs.lists.run.Goals as goal

pub loop-step-init : goal.loop-step-init
loop-step-init c = (admitted-good _ c.requires, refl)

pub loop-step-preserved : goal.loop-step-preserved
loop-step-preserved c =
    let a = c.args in
    let l = c.loop-step in
    let b = with_masks (board_of a.opened) l.masks in
    let n = get_or a.steps.now l.step-index 0 in
    let after : c.step_masks.new.masks ≡ step_masks n (givens b) l.masks =
    c.step_masks.ensures ∙ ap (λ (g : List ℕ). step_masks n g l.masks) c.givens_of-givens.ensures in (
      subst (λ (m : List ℕ). Good Admissible (with_masks b m)) (sym after) (step-good n b l.invariant.0),
      ap (λ (m : List ℕ). run (calls_of (drop (l.step-index + 1) a.steps.now)) (with_masks b m)) after
          ∙ ap (run (calls_of (drop (l.step-index + 1) a.steps.now))) (sym (step-unchecked n b l.invariant.0))
          ∙ run_on a.steps.now l.step-index (omega arith) b ∙ l.invariant.1,
    )

pub returns : goal.returns
returns c =
    let a = c.args in
    let l = c.loop-step in
    sym (run_end a.steps.now l.step-index c.loop-step-test.false (with_masks (board_of a.opened) l.masks)) ∙ l.invariant.1
