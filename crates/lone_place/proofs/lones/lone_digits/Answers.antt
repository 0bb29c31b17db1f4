use mathlib.Core.Path.{◌≡◌, refl, sym, ap, ◌∙◌, subst}
use mathlib.Core.List.{List}
use Prim.Native.Nat.{ℕ}
use native.Mathlib.Omega.{arith}
use Rattle.candidates.specs.Masks.{has}
use Rattle.grid.proofs.Lists.{turn-done, turns-over}
use Rattle.steps.specs.Boards.{is_open}
use Rattle.steps.specs.Instances.{lone, step_of}
use Rattle.steps.specs.Passes.{instance_taken}
use Rattle.steps.proofs.Masks.{under-refl, under-trans}
use Rattle.steps.proofs.StepLogs.{log-none, log-done, log-over}
use Rattle.steps.proofs.Steps.{take-under}
use Rattle.lone_place.specs.code.Turns.{lone_cell, cell_lones}
use Rattle.lone_place.proofs.Blocks.{one-taken}
use Rattle.lone_place.proofs.LoneDue.{keeps-own, not-held-idle}
use Rattle.lone_place.proofs.lones.lone_digits.Goals.{else-has_digit, then-has_digit}
use Rattle.lone_place.proofs.lones.lone_digits.Invariants.{turn, step, Shrunk}
use Rattle.lone_place.proofs.lones.lone_digits.Goals as goal

shrunk-on : (g : List ℕ) (c d : ℕ) {m n o : List ℕ} → o ≡ instance_taken g (lone c d) n → Shrunk c m n → Shrunk c m o
shrunk-on g c d {m} {n} {o} e w =
    subst (Shrunk c m) (sym e) (record { under = under-trans (take-under (is_open g) (step_of (lone c d)) n) w.under; own = keeps-own g c d n ∙ w.own })

pub loop-digit-init : goal.loop-digit-init
unfolding lone_cell cell_lones
loop-digit-init c =
    let m = c.args.masks.now in
    (omega arith, refl, record { under = under-refl m; own = refl }, refl)

pub loop-digit-preserved : goal.loop-digit-preserved
loop-digit-preserved c =
    let l = c.loop-digit in
    let a = c.args in
    let g = a.givens.now in
    let f = turn g a.cell in
    let x = lone a.cell l.digit in
    elim c.if-has_digit.branch [
      | then-has_digit w ↦
          let e = w.masks-is ∙ w.lone_at.ensures.masks_after in (
            omega arith,
            turn-done f 9 l.digit (omega arith) e l.invariant.1,
            shrunk-on g a.cell l.digit e l.invariant.2,
            log-done g (step a.cell) 9 l.digit l.masks l.log (omega arith) (e ∙ one-taken g x l.masks) (w.log-is ∙ w.lone_at.ensures.log_after) l.invariant.3,
          )
      | else-has_digit w ↦
          let idle = not-held-idle g a.masks.now a.cell c.requires l.digit (sym (c.has_digit.ensures ∙ ap (λ (x : ℕ). has x l.digit) c.lone_held-held.ensures) ∙ w.if-has_digit.false) l.masks l.invariant.2.under l.invariant.2.own in (
            omega arith,
            turn-done f 9 l.digit (omega arith) (w.masks-is ∙ sym idle) l.invariant.1,
            subst (Shrunk a.cell a.masks.now) (sym w.masks-is) l.invariant.2,
            log-done g (step a.cell) 9 l.digit l.masks l.log (omega arith) (w.masks-is ∙ sym idle ∙ one-taken g x l.masks) (w.log-is ∙ sym (log-none g x l.masks l.log idle)) l.invariant.3,
          )
    ]

pub returns : goal.returns
returns c =
    let l = c.loop-digit in
    let a = c.args in record {
      masks_after = turns-over (turn a.givens.now a.cell) 9 l.digit c.loop-digit-test.false l.invariant.1;
      log_after = log-over a.givens.now (step a.cell) 9 l.digit l.masks l.log c.loop-digit-test.false l.invariant.3;
    }
