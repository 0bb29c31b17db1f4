-- `chains::links::Holders::push_unit` meets its contract. Assumes nothing.
use mathlib.Core.Path.{◌≡◌, sym, ap, ◌∙◌}
use mathlib.Core.List.{List, ◌++◌, append-nil}
use Prim.Native.Nat.{ℕ}
use native.Mathlib.Omega.{arith}
use Rattle.std.proofs.lemmas.Grind.{common_steps}
use Rattle.std.proofs.lemmas.Option.{gets}
use Rattle.grid.specs.Units.{in_unit}
use Rattle.steps.specs.Boards.{at}
use Rattle.steps.specs.Loops.{select}
use Rattle.steps.specs.Chains.{two_of}
use Rattle.chains.specs.code.Links.{others}
use Rattle.chains.proofs.Holders.{counted}
use Rattle.chains.proofs.Listing.{no-pair}
use Rattle.chains.proofs.links.Holders.push_unit.Goals as goal

pub returns-else-unwrap_or-eq2 : goal.returns-else-unwrap_or-eq2
returns-else-unwrap_or-eq2 c =
    let a = c.args in
    let h = c.self.inside in
    let count : c.unwrap_or.result ≡ at h.counts a.unit = grind (arith, common_steps, gets, c.get.ensures.lookup, c.copied.ensures, c.unwrap_or.ensures) in
    sym (append-nil a.links.now)
    ∙ ap (λ (l : List ℕ). a.links.now ++ others a.cell l) (sym (no-pair (select (in_unit a.unit) h.cells) (λ e. c.if-unwrap_or-eq2.false (count ∙ counted h.cells h.counts a.unit c.self.invariant ∙ e))))
    ∙ ap (λ (l : List ℕ). a.links.now ++ others a.cell (two_of (select (in_unit a.unit) l))) c.self.view_is
