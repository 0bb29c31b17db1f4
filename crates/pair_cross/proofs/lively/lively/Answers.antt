-- `pair_cross::lively::lively` meets its contract. Assumes nothing.
use mathlib.Core.Path.{ap, ap₂, ◌∙◌}
use mathlib.Core.List.{List}
use Prim.Native.Nat.{ℕ}
use lib.Bits.{bit_and}
use Rattle.candidates.specs.Masks.{union}
use Rattle.steps.specs.Boards.{at}
use Rattle.pair_cross.specs.code.Lively.{twins, any_hot, lively_of}
use Rattle.pair_cross.specs.declared.lively.Tally.{Tally}
use Rattle.pair_cross.proofs.lively.lively.Goals as goal

pub returns : goal.returns
unfolding lively_of
returns c =
    let nine = c.lane_masks-nine.result in
    let t = c.tally_of-tally.result in
    let free = c.args.free in
    c.meet-3.ensures
    ∙ ap (λ (x : ℕ). bit_and x free) (c.join.ensures
    ∙ ap₂ union (c.meet.ensures ∙ ap (λ (x : ℕ). bit_and x t.once) c.any_hot-any.ensures)
    (c.meet-2.ensures ∙ ap (λ (x : ℕ). bit_and x t.thrice) c.two_same-twins.ensures))
    ∙ ap (λ (t : Tally). bit_and (union (bit_and (any_hot (at nine) t.twice) t.once) (bit_and (twins (at nine)) t.thrice)) free) c.tally_of-tally.ensures
    ∙ ap (λ (x : List ℕ). lively_of (at x) free) c.lane_masks-nine.ensures
