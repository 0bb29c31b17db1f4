-- `board::entries::check_enter` meets its contract: the stops in their order. Assumes nothing.
use mathlib.Core.Path.{◌≡◌, sym, ap, ◌∙◌}
use mathlib.Core.Bool.{true, false, not}
use mathlib.Core.List.{List}
use Prim.Native.Nat.{ℕ}
use native.Mathlib.Omega.{arith}
use borrow.Author.Tests.{le-leb, lt-leb, eq-eqb, ne_eqb}
use lib.Dec.{leb}
use lib.IntN.{ℤ, pos}
use lib.ListN.{get_or, set}
use mir.Facts.{to_z-of_z}
use Rattle.stops.specs.Answer.{Answer, gives, stop}
use Rattle.stops.specs.declared.Stop.TheVariants.{BadDigit, NoCell, ClueCell, AlreadyEntered}
use Rattle.steps.specs.Boards.{digit_of, no_digit}
use Rattle.steps.specs.Entries.{enter, entries_after}
use Rattle.board.proofs.entries.check_enter.Goals as goal

module _ (k e : List ℤ) (c : ℕ) (z : ℤ) where
  five : leb 81 c ≡ true → stop (NoCell c) ≡ entries_after (enter c z) k e
  unfolding entries_after
  five t = rw t

  module _ (p : leb 81 c ≡ false) where
    four : no_digit z ≡ true → stop (BadDigit z) ≡ entries_after (enter c z) k e
    unfolding entries_after
    four t = rw (p, t)

    module _ (q : no_digit z ≡ false) where
      twelve : not (no_digit (get_or k c (pos 0))) ≡ true → stop (ClueCell c) ≡ entries_after (enter c z) k e
      unfolding entries_after
      twelve t = rw (p, q, t)

      module _ (r : not (no_digit (get_or k c (pos 0))) ≡ false) where
        thirteen : not (no_digit (get_or e c (pos 0))) ≡ true → stop (AlreadyEntered c) ≡ entries_after (enter c z) k e
        unfolding entries_after
        thirteen t = rw (p, q, r, t)

        entered : not (no_digit (get_or e c (pos 0))) ≡ false → gives (set e c z) ≡ entries_after (enter c z) k e
        unfolding entries_after
        entered t = rw (p, q, r, t)

abbrev refused_with : ℤ → Answer (List ℤ)
refused_with z = stop (BadDigit z)

pub returns-then-cell-gt80 : goal.returns-then-cell-gt80
returns-then-cell-gt80 c = five _ _ _ _ (le-leb 81 c.args.cell (omega arith))

pub returns-then-given_digit-eq0 : goal.returns-then-given_digit-eq0
returns-then-given_digit-eq0 c =
    let digit : c.given_digit.result ≡ digit_of c.args.digit = (
    c.given_digit.ensures ∙ ap digit_of (to_z-of_z c.ranges.digit)
    ) in
    ap refused_with (to_z-of_z c.ranges.digit)
    ∙ four _ _ _ _ (lt-leb 81 c.args.cell (omega arith)) (eq-eqb (digit_of c.args.digit) 0 (sym (digit) ∙ c.if-given_digit-eq0.true))

pub returns-then-has_digit : goal.returns-then-has_digit
returns-then-has_digit c =
    let digit : c.given_digit.result ≡ digit_of c.args.digit = (
    c.given_digit.ensures ∙ ap digit_of (to_z-of_z c.ranges.digit)
    ) in
    let some : no_digit c.args.digit ≡ false = (
    ne_eqb (digit_of c.args.digit) 0 (λ e. c.if-given_digit-eq0.false (digit ∙ e))
    ) in
    twelve _ _ _ _ (lt-leb 81 c.args.cell (omega arith)) (some) (sym c.has_digit.ensures ∙ c.if-has_digit.true)

pub returns-then-has_digit-2 : goal.returns-then-has_digit-2
returns-then-has_digit-2 c =
    let digit : c.given_digit.result ≡ digit_of c.args.digit = (
    c.given_digit.ensures ∙ ap digit_of (to_z-of_z c.ranges.digit)
    ) in
    let some : no_digit c.args.digit ≡ false = (
    ne_eqb (digit_of c.args.digit) 0 (λ e. c.if-given_digit-eq0.false (digit ∙ e))
    ) in
    thirteen _ _ _ _ (lt-leb 81 c.args.cell (omega arith)) (some) (sym c.has_digit.ensures ∙ c.if-has_digit.false)
    (sym c.has_digit-2.ensures ∙ c.if-has_digit-2.true)

pub returns : goal.returns
returns c =
    let digit : c.given_digit.result ≡ digit_of c.args.digit = (
    c.given_digit.ensures ∙ ap digit_of (to_z-of_z c.ranges.digit)
    ) in
    let some : no_digit c.args.digit ≡ false = (
    ne_eqb (digit_of c.args.digit) 0 (λ e. c.if-given_digit-eq0.false (digit ∙ e))
    ) in
    entered _ _ _ _ (lt-leb 81 c.args.cell (omega arith)) (some) (sym c.has_digit.ensures ∙ c.if-has_digit.false)
    (sym c.has_digit-2.ensures ∙ c.if-has_digit-2.false)
