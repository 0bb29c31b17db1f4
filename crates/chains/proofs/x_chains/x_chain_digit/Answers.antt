use mathlib.Core.Path.{refl, sym, ap, ◌∙◌}
use mathlib.Core.List.{List}
use Prim.Native.Nat.{ℕ}
use native.Mathlib.Omega.{arith}
use Rattle.candidates.proofs.Membership.{place-single}
use Rattle.grid.proofs.Lists.{member-done, members-over}
use Rattle.steps.specs.Boards.{at}
use Rattle.steps.specs.Loops.{select}
use Rattle.chains.specs.code.XLinks.{is_linked, pair_sums, lose_from}
use Rattle.chains.proofs.XLosses.{digit-over, linked-below}
use Rattle.chains.proofs.x_chains.x_chain_digit.Goals as goal

pub loop-start-init : goal.loop-start-init
loop-start-init c =
    let a = c.args in
    let hs = c.candidate_positions-holders in
    let xs = c.as_slice-linked in
    let are = xs.ensures.same ∙ c.new-links.ensures.linked ∙ ap (λ (ss : List ℕ). select (is_linked ss) hs.result) c.new-links.ensures.sums in
    digit-over a.givens.now a.masks.now a.digit hs.result (pair_sums hs.result) xs.result.now hs.ensures refl are (c.digit_mask-lost.ensures ∙ place-single a.digit (omega (arith, c.requires)))

pub lose_from-requires : goal.lose_from-requires
lose_from-requires c =
    let a = c.args in
    let hs = c.candidate_positions-holders in
    let xs = c.as_slice-linked in
    let are = xs.ensures.same ∙ c.new-links.ensures.linked ∙ ap (λ (ss : List ℕ). select (is_linked ss) hs.result) c.new-links.ensures.sums in
    linked-below a.givens.now a.masks.now a.digit hs.result (pair_sums hs.result) xs.result.now hs.ensures refl are _ (omega arith)

pub loop-start-preserved : goal.loop-start-preserved
loop-start-preserved c =
    let a = c.args in
    let hs = c.candidate_positions-holders.result in
    let xs = c.as_slice-linked in
    member-done (lose_from a.givens.now c.digit_mask-lost.result hs xs.result.now (pair_sums hs)) xs.result.now c.loop-start.start-index (omega arith)
    (c.lose_from.ensures ∙ (λ i. lose_from a.givens.now c.digit_mask-lost.result (c.as_slice.ensures.same i) (sym xs.ensures.same i) (c.new-links.ensures.sums i) (at xs.result.now c.loop-start.start-index) c.loop-start.masks))
    c.loop-start.invariant

pub returns : goal.returns
returns c =
    let hs = c.candidate_positions-holders.result in
    let xs = c.as_slice-linked.result.now in
    members-over (lose_from c.args.givens.now c.digit_mask-lost.result hs xs (pair_sums hs)) xs c.loop-start.start-index (omega arith) c.loop-start.invariant
