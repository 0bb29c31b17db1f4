-- `output::Pen::push` meets its contract. Assumes nothing.
use Rattle.std.proofs.Common.{refl}
use borrow.Author.Tests.{lt-ltb, le-ltb}
use Rattle.steps.specs.Loops.{each}
use Rattle.output.specs.code.Tapes.{pushed, append}
use Rattle.output.proofs.Pen.push.Goals as goal

pub returns-then-self : goal.returns-then-self
unfolding pushed append each
returns-then-self g c = rw (lt-ltb c.args.self.now.end g.row.N c.if-self.true) refl

pub returns-else-self : goal.returns-else-self
unfolding pushed append each
returns-else-self g c = rw (le-ltb c.args.self.now.end g.row.N c.if-self.false) refl
