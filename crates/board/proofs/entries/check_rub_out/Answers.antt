-- `board::entries::check_rub_out` meets its contract: the stops in their order. Assumes nothing.
use mathlib.Core.Path.{◌≡◌, sym, ◌∙◌}
use mathlib.Core.Bool.{true, false, not}
use mathlib.Core.List.{List}
use Prim.Native.Nat.{ℕ}
use native.Mathlib.Omega.{arith}
use borrow.Author.Tests.{le-leb, lt-leb, not-true, not-false}
use lib.Dec.{leb}
use lib.IntN.{ℤ, pos}
use lib.ListN.{get_or, set}
use Rattle.stops.specs.Answer.{gives, stop}
use Rattle.stops.specs.declared.Stop.TheVariants.{NoCell, ClueCell, NotEntered}
use Rattle.steps.specs.Boards.{no_digit}
use Rattle.steps.specs.Entries.{rub_out, entries_after}
use Rattle.board.proofs.entries.check_rub_out.Goals as goal

module _ (k e : List ℤ) (c : ℕ) where
  five : leb 81 c ≡ true → stop (NoCell c) ≡ entries_after (rub_out c) k e
  unfolding entries_after
  five t = rw t

  module _ (p : leb 81 c ≡ false) where
    twelve : not (no_digit (get_or k c (pos 0))) ≡ true → stop (ClueCell c) ≡ entries_after (rub_out c) k e
    unfolding entries_after
    twelve t = rw (p, t)

    module _ (r : not (no_digit (get_or k c (pos 0))) ≡ false) where
      thirteen : no_digit (get_or e c (pos 0)) ≡ true → stop (NotEntered c) ≡ entries_after (rub_out c) k e
      unfolding entries_after
      thirteen t = rw (p, r, t)

      rubbed : no_digit (get_or e c (pos 0)) ≡ false → gives (set e c (pos 0)) ≡ entries_after (rub_out c) k e
      unfolding entries_after
      rubbed t = rw (p, r, t)

pub returns-then-cell-gt80 : goal.returns-then-cell-gt80
returns-then-cell-gt80 c = five _ _ _ (le-leb 81 c.args.cell (omega arith))

pub returns-then-has_digit : goal.returns-then-has_digit
returns-then-has_digit c = twelve _ _ _ (lt-leb 81 c.args.cell (omega arith)) (sym c.has_digit.ensures ∙ c.if-has_digit.true)

pub returns-then-not-has_digit : goal.returns-then-not-has_digit
returns-then-not-has_digit c =
    let d = c.has_digit-2 in
    thirteen _ _ _ (lt-leb 81 c.args.cell (omega arith)) (sym c.has_digit.ensures ∙ c.if-has_digit.false)
    (not-false _ (sym d.ensures ∙ c.if-not-has_digit.true))

pub returns : goal.returns
returns c =
    let d = c.has_digit-2 in
    rubbed _ _ _ (lt-leb 81 c.args.cell (omega arith)) (sym c.has_digit.ensures ∙ c.if-has_digit.false)
    (not-true _ (sym d.ensures ∙ c.if-not-has_digit.false))
