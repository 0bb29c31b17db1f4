use mathlib.Core.Path.{◌≡◌, sym, ap, ◌∙◌}
use mathlib.Core.List.{List}
use mathlib.Core.Option.{Option}
use Prim.Native.Nat.{◌≤◌}
use native.Mathlib.Omega.{arith}
use lib.IntN.{ℤ}
use mir.Syntax.{w64}
use mir.Val.{to_z}
use Rattle.stops.specs.Answer.{gives, stop}
use Rattle.stops.specs.declared.Stop.TheVariants.{BadStep}
use Rattle.stops.proofs.Numbers.{small}
use Rattle.steps.specs.Instances.{Instance}
use Rattle.steps.specs.StepLists.{steps_of, follow}
use Rattle.step_lists.proofs.Following.{from_first, step-good, step-bad, steps-over}
use Rattle.step_lists.proofs.follow_steps.Goals as goal

pub loop-index-init : goal.loop-index-init
loop-index-init c =
    let a = c.args in
    (omega arith, ap (λ (ss : List (Option Instance)). follow a.givens.now 0 ss a.start) (from_first a.steps.now c.count_steps-count.result c.count_steps-count.ensures))

pub returns-then-not-take_at : goal.returns-then-not-take_at
returns-then-not-take_at c =
    let few : c.count_steps-count.result ≤ 729 = (
    omega (arith, c.count_steps-count.ensures, c.requires)
    ) in
    let l = c.loop-index in
    let a = c.args in
    let e : stop (BadStep (to_z w64 l.index)) ≡ follow a.givens.now 0 (steps_of a.steps.now) a.start =
    ap (λ (z : ℤ). stop (BadStep z)) (small (omega (arith, few)))
    ∙ sym (step-bad a.steps.now a.givens.now c.count_steps-count.result l.index l.masks (omega arith) c.take_at.ensures.masks_after (sym c.take_at.ensures.value ∙ c.if-not-take_at.true))
    ∙ l.invariant.1 in e

pub loop-index-preserved : goal.loop-index-preserved
loop-index-preserved c =
    let l = c.loop-index in
    let a = c.args in (
      omega arith,
      sym (step-good a.steps.now a.givens.now c.count_steps-count.result l.index l.masks (omega arith) c.take_at.ensures.masks_after (sym c.take_at.ensures.value ∙ c.if-not-take_at.false))
          ∙ l.invariant.1,
    )

pub returns : goal.returns
returns c =
    let l = c.loop-index in
    let a = c.args in
    let e : gives l.masks ≡ follow a.givens.now 0 (steps_of a.steps.now) a.start =
    sym (steps-over a.steps.now a.givens.now c.count_steps-count.result l.index l.masks c.loop-index-test.false) ∙ l.invariant.1 in e
