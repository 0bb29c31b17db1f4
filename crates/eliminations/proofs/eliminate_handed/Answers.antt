-- Of a board that the check passes: the flag says whether the masks changed.
use mathlib.Core.Path.{◌≡◌, refl, ap, ◌∙◌}
use mathlib.Core.List.{List}
use Prim.Native.Nat.{ℕ}
use Rattle.stops.specs.Answer.{Answer, gives, map}
use Rattle.steps.specs.Boards.{givens}
use Rattle.steps.specs.Calls.{Outcome, outcome, left}
use Rattle.steps.specs.Passes.{changed}
use Rattle.board.specs.Boards.{handed}
use Rattle.board.proofs.Answered.{answers}
use Rattle.eliminations.specs.code.Calls.{call_of}
use Rattle.eliminations.specs.declared.Elimination.{Elimination}
use Rattle.eliminations.specs.declared.Elimination.TheVariants as by
use Rattle.eliminations.proofs.eliminate_handed.Goals as goal

-- an elimination's flag
flagged : (x : Elimination) (g m : List ℕ) → changed m (outcome (call_of x) g m).masks ≡ (outcome (call_of x) g m).flag
unfolding outcome
flagged by.NakedPairs g m = refl
flagged by.BoxLine g m = refl
flagged by.XWing g m = refl
flagged by.Lone g m = refl
flagged by.Place g m = refl
flagged by.Pair g m = refl
flagged by.Pointing g m = refl
flagged by.Claiming g m = refl
flagged by.Cross g m = refl
flagged by.Chains g m = refl
flagged by.XChains g m = refl

pub returns-clause-result_value : goal.returns-clause-result_value
returns-clause-result_value c =
    let a = c.args in
    let b = handed a.clues.now a.entries.now a.masks.now in
    let k = call_of a.elimination in
    rw (c.changed.ensures, c.eliminate.ensures, c.givens_of-givens.ensures)
    (ap gives (flagged a.elimination (givens b) b.masks) ∙ ap (map (λ (o : Outcome). o.flag)) (answers k b c.in_ok-check_given.ensures))

pub returns-clause-masks_after : goal.returns-clause-masks_after
returns-clause-masks_after c =
    let a = c.args in
    let b = handed a.clues.now a.entries.now a.masks.now in
    rw (c.eliminate.ensures, c.givens_of-givens.ensures)
    (ap (λ (o : Answer Outcome). (left b o).masks) (answers (call_of a.elimination) b c.in_ok-check_given.ensures))
