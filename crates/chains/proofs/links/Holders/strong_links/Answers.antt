-- `chains::links::Holders::strong_links` meets its contract. Assumes nothing.
use mathlib.Core.Path.{◌≡◌, ap, ◌∙◌}
use mathlib.Core.List.{List, ◌++◌}
use Prim.Native.Nat.{ℕ, ◌+◌, ◌≤◌}
use native.Mathlib.Omega.{arith}
use lib.ListN.{length}
use Rattle.std.proofs.lemmas.List.{length-append}
use Rattle.grid.specs.Units.{in_unit}
use Rattle.steps.specs.Loops.{for, select}
use Rattle.steps.specs.Chains.{two_of}
use Rattle.chains.specs.code.Links.{others, strong_in}
use Rattle.chains.proofs.Listing.{few-others, three-joined}
use Rattle.chains.proofs.links.Holders.strong_links.Goals as goal

-- each unit adds two links at most
two_more : (c : ℕ) (xs old new : List ℕ) → new ≡ old ++ others c (two_of xs) → length new ≤ length old + 2
two_more c xs old new e = omega (arith, ap (λ (l : List ℕ). length l) e, length-append old (others c (two_of xs)), few-others c xs)

pub push_unit-requires-2 : goal.push_unit-requires-2
push_unit-requires-2 c =
    let none = ap (λ (l : List ℕ). length l) c.new-links.ensures in
    omega (arith, none, two_more c.args.cell (select (in_unit c.row_of.result) c.args.self.now) c.new-links.result c.push_unit.new.links c.push_unit.ensures)

pub push_unit-requires-3 : goal.push_unit-requires-3
push_unit-requires-3 c =
    let none = ap (λ (l : List ℕ). length l) c.new-links.ensures in
    omega (
      arith,
      none,
      two_more c.args.cell (select (in_unit c.row_of.result) c.args.self.now) c.new-links.result c.push_unit.new.links c.push_unit.ensures,
      two_more c.args.cell (select (in_unit (9 + c.col_of.result)) c.args.self.now) c.push_unit.new.links c.push_unit-2.new.links c.push_unit-2.ensures,
    )

pub returns : goal.returns
unfolding strong_in for
returns c =
    let a = c.args in
    let pair : ℕ → List ℕ = λ u. others a.cell (two_of (select (in_unit u) a.self.now)) in
    three-joined
    (c.push_unit.ensures ∙ ap (λ (l : List ℕ). l ++ pair c.row_of.result) c.new-links.ensures ∙ ap pair c.row_of.ensures)
    c.push_unit-2.ensures (ap (λ (x : ℕ). pair (9 + x)) c.col_of.ensures)
    c.push_unit-3.ensures (ap (λ (x : ℕ). pair (18 + x)) c.box_of.ensures)
