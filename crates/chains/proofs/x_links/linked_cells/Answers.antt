use mathlib.Core.Path.{sym, ap, ◌∙◌}
use mathlib.Core.List.{List}
use Prim.Native.Nat.{ℕ}
use lib.ListN.{length}
use native.Mathlib.Omega.{arith}
use Rattle.std.proofs.lemmas.List.{drop_more}
use Rattle.chains.specs.code.XLinks.{is_linked}
use Rattle.chains.proofs.Listing.{has-room}
use Rattle.chains.proofs.x_links.linked_cells.Goals as goal

pub push-requires : goal.push-requires
push-requires c =
    let l = c.loop-cell in
    let s = c.as_slice-cell-items in
    let few = s.ensures.few in
    let same = ap (λ (l : List ℕ). length l) s.ensures.same in
    let room = has-room (is_linked c.args.sums.now) l.list s.result.now 81 (drop_more s.result.now l.cell-index 0 (omega arith)) l.invariant (omega (arith, few, same)) (sym c.is_linked.ensures ∙ c.if-is_linked.true) in
    (omega arith, grind (arith, room))
