-- `pair_cross::twos::reach` meets its contract. Assumes nothing.
use mathlib.Core.Path.{◌≡◌, sym, ap, ◌∙◌}
use mathlib.Core.Bool.{cond}
use Prim.Native.Nat.{ℕ}
use lib.Dec.{eqb}
use Rattle.candidates.specs.Masks.{count, tail}
use Rattle.candidates.proofs.Tests.{cond-true, cond-false}
use Rattle.pair_cross.specs.code.Twos.{reach_of}
use Rattle.pair_cross.proofs.twos.reach.Goals as goal

pub returns-then-is_none : goal.returns-then-is_none
unfolding reach_of
returns-then-is_none c =
    let one_left : c.is_none.result ≡ eqb (count (tail c.args.held)) 0 = (
    c.is_none.ensures ∙ ap (λ (x : ℕ). eqb (count x) 0) c.lose_lowest-rest.ensures
    ) in
    let k = c.args.held in
    sym (cond-true (eqb (count (tail k)) 0) 511 (cond (eqb (count (tail (tail k))) 0) k 0) (sym (one_left) ∙ c.if-is_none.true))

pub returns-then-is_none-2 : goal.returns-then-is_none-2
unfolding reach_of
returns-then-is_none-2 c =
    let one_left : c.is_none.result ≡ eqb (count (tail c.args.held)) 0 = (
    c.is_none.ensures ∙ ap (λ (x : ℕ). eqb (count x) 0) c.lose_lowest-rest.ensures
    ) in
    let two-left : c.is_none-2.result ≡ eqb (count (tail (tail c.args.held))) 0 = (
    c.is_none-2.ensures ∙ ap (λ (x : ℕ). eqb (count x) 0) (c.lose_lowest.ensures ∙ ap tail c.lose_lowest-rest.ensures)
    ) in
    let k = c.args.held in
    sym (cond-false (eqb (count (tail k)) 0) 511 (cond (eqb (count (tail (tail k))) 0) k 0) (sym (one_left) ∙ c.if-is_none.false)
    ∙ cond-true (eqb (count (tail (tail k))) 0) k 0 (sym (two-left) ∙ c.if-is_none-2.true))

pub returns : goal.returns
unfolding reach_of
returns c =
    let one_left : c.is_none.result ≡ eqb (count (tail c.args.held)) 0 = (
    c.is_none.ensures ∙ ap (λ (x : ℕ). eqb (count x) 0) c.lose_lowest-rest.ensures
    ) in
    let two-left : c.is_none-2.result ≡ eqb (count (tail (tail c.args.held))) 0 = (
    c.is_none-2.ensures ∙ ap (λ (x : ℕ). eqb (count x) 0) (c.lose_lowest.ensures ∙ ap tail c.lose_lowest-rest.ensures)
    ) in
    let k = c.args.held in
    sym (cond-false (eqb (count (tail k)) 0) 511 (cond (eqb (count (tail (tail k))) 0) k 0) (sym (one_left) ∙ c.if-is_none.false)
    ∙ cond-false (eqb (count (tail (tail k))) 0) k 0 (sym (two-left) ∙ c.if-is_none-2.false))
