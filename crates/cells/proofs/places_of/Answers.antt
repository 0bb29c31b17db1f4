use mathlib.Core.Path.{◌≡◌, refl, sym, ap, ◌∙◌}
use mathlib.Core.Bool.{Bool}
use Prim.Native.Nat.{ℕ, ◌+◌}
use native.Mathlib.Omega.{arith}
use Rattle.candidates.specs.Masks.{has, union, gather}
use Rattle.candidates.proofs.Membership.{place-single, gather-here, gather-not}
use Rattle.steps.specs.Boards.{at}
use Rattle.cells.specs.code.Places.{spots_in}
use Rattle.cells.proofs.places_of.Goals.{else-has_digit, then-has_digit}
use Rattle.cells.proofs.places_of.Goals as goal

pub loop-place-init : goal.loop-place-init
unfolding gather
loop-place-init c = (omega arith, refl)

pub loop-place-preserved : goal.loop-place-preserved
loop-place-preserved c = (omega arith, found)
  where
    test : ℕ → Bool
    test i = has (at c.args.nine.now i) c.args.digit

    i : ℕ
    i = c.loop-place.place

    sofar : c.loop-place.found ≡ gather test i
    sofar = c.loop-place.invariant.1

    tested : c.has_digit.result ≡ test i
    tested = c.has_digit.ensures

    found : c.if-has_digit.found ≡ gather test (i + 1)
    found =
        elim c.if-has_digit.branch [
          | then-has_digit w ↦ w.found-is ∙ w.join-found.ensures ∙ ap (λ (x : ℕ). union x w.digit_mask.result) sofar ∙ ap (union (gather test i)) (w.digit_mask.ensures ∙ place-single i (omega arith))
              ∙ gather-here test i (sym tested ∙ w.if-has_digit.true)
          | else-has_digit w ↦ w.found-is ∙ sofar ∙ gather-not test i (sym tested ∙ w.if-has_digit.false)
        ]

pub returns : goal.returns
unfolding spots_in
returns c =
    let e : c.loop-place.place ≡ 9 = omega arith in
    c.loop-place.invariant.1 ∙ ap (gather (λ i. has (at c.args.nine.now i) c.args.digit)) e
