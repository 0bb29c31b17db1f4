-- `techniques::singles::Reports::push` meets its contract. Assumes nothing.
use mathlib.Core.Path.{sym}
use Prim.Native.Nat.{◌+◌}
use borrow.Author.Tests.{lt-ltb}
use lib.Dec.{ltb}
use lib.ListN.{set}
use Rattle.candidates.proofs.Tests.{cond-true}
use Rattle.techniques.specs.code.Pushes.{pushed}
use Rattle.techniques.proofs.singles.Reports.push.Goals as goal

pub returns-clause-after : goal.returns-clause-after
unfolding pushed
returns-clause-after c =
    let q = c.args.self.now in
    sym (cond-true (ltb q.count 324) (record { cells = set q.cells q.count c.args.cell; digits = set q.digits q.count c.args.digit; count = q.count + 1 }) q (lt-ltb q.count 324 c.requires))
