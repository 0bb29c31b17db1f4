use mathlib.Core.Path.{◌≡◌, ap, ap₂, sym, ◌∙◌}
use mathlib.Core.List.{List, []}
use mathlib.Core.Bool.{true}
use Prim.Native.Nat.{ℕ, ◌-◌}
use native.Mathlib.Omega.{arith}
use lib.ListN.{length}
use mathlib.Core.List.{reverse}
use Rattle.std.specs.Prelude as std
use Rattle.steps.specs.Boards.{at}
use Rattle.steps.specs.Chains.{first_some}
use Rattle.chains.specs.code.Links.{found_cell, enter_in}
use Rattle.chains.proofs.Searching.{ends, goes_on, finds-none}
use Rattle.chains.proofs.Holders.{chain-end-is}
use Rattle.chains.proofs.search.chain_end.Invariants.{from}
use Rattle.chains.proofs.search.chain_end.Goals as goal

pub loop-start-init : goal.loop-start-init
loop-start-init c =
    let a = c.args in
    ap (λ (l : List ℕ). first_some (from l) l) (c.as_slice-start-items.ensures ∙ c.new-holders.ensures ∙ c.candidate_positions.ensures) ∙ chain-end-is a.givens.now a.masks.now a.digit

-- the search from a start begins with no path
answered : (hs items path : List ℕ) (s : ℕ) (o : std.Option ℕ) → items ≡ hs → path ≡ [] → found_cell o ≡ enter_in hs (7 - length path) s true (reverse path) s → found_cell o ≡ from items s
answered hs items path s o same none q = q ∙ ap₂ (λ (l p : List ℕ). enter_in l (7 - length p) s true (reverse p) s) (sym same) none

pub returns-then-is_some : goal.returns-then-is_some
returns-then-is_some c =
    let xs = c.as_slice-start-items in
    ends (from xs.result.now) xs.result.now c.loop-start.start-index c.loop-start.invariant c.build_chain-found.result (omega arith)
    (answered c.new-holders.result xs.result.now c.new.result (at xs.result.now c.loop-start.start-index) c.build_chain-found.result xs.ensures c.new.ensures c.build_chain-found.ensures)
    (sym c.is_some.ensures ∙ c.if-is_some.true)

pub loop-start-preserved : goal.loop-start-preserved
loop-start-preserved c =
    let xs = c.as_slice-start-items in
    goes_on (from xs.result.now) xs.result.now c.loop-start.start-index c.loop-start.invariant c.build_chain-found.result (omega arith)
    (answered c.new-holders.result xs.result.now c.new.result (at xs.result.now c.loop-start.start-index) c.build_chain-found.result xs.ensures c.new.ensures c.build_chain-found.ensures)
    (sym c.is_some.ensures ∙ c.if-is_some.false)

pub returns : goal.returns
returns c =
    let xs = c.as_slice-start-items.result.now in
    finds-none (from xs) xs c.loop-start.start-index c.loop-start.invariant (omega arith)
