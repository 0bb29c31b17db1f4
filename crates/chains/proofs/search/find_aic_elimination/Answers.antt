use mathlib.Core.Path.{sym, ◌∙◌}
use native.Mathlib.Omega.{arith}
use Rattle.chains.specs.code.Links.{between_at}
use Rattle.chains.proofs.Searching.{ends, goes_on, finds-none}
use Rattle.chains.proofs.Holders.{short-path, unseen-ends, seen-ends}
use Rattle.chains.proofs.search.find_aic_elimination.Goals.{then-depth-lt3-via-then-depth-lt3, then-depth-lt3-via-else-depth-lt3+then-not-are_peers}
use Rattle.chains.proofs.search.find_aic_elimination.Goals as goal

pub returns-then-depth-lt3 : goal.returns-then-depth-lt3
returns-then-depth-lt3 c =
    let a = c.args in
    elim c.then-depth-lt3.branch [
      | then-depth-lt3-via-then-depth-lt3 w ↦ sym (short-path a.holders.now a.depth a.start a.end (omega arith))
      | then-depth-lt3-via-else-depth-lt3+then-not-are_peers w ↦ sym (unseen-ends a.holders.now a.depth a.start a.end (omega arith) (sym w.are_peers.ensures ∙ w.if-not-are_peers.true))
    ]

pub loop-cell-init : goal.loop-cell-init
loop-cell-init c =
    let a = c.args in
    sym (seen-ends a.holders.now a.depth a.start a.end (omega arith) (sym c.are_peers.ensures ∙ c.if-not-are_peers.false))

pub returns-then-is_some : goal.returns-then-is_some
returns-then-is_some c =
    let a = c.args in
    ends (between_at a.start a.end) a.holders.now c.loop-cell.cell-index c.loop-cell.invariant c.between-found.result (omega arith) c.between-found.ensures (sym c.is_some.ensures ∙ c.if-is_some.true)

pub loop-cell-preserved : goal.loop-cell-preserved
loop-cell-preserved c =
    let a = c.args in
    goes_on (between_at a.start a.end) a.holders.now c.loop-cell.cell-index c.loop-cell.invariant c.between-found.result (omega arith) c.between-found.ensures (sym c.is_some.ensures ∙ c.if-is_some.false)

pub returns : goal.returns
returns c =
    let a = c.args in
    finds-none (between_at a.start a.end) a.holders.now c.loop-cell.cell-index c.loop-cell.invariant (omega arith)
