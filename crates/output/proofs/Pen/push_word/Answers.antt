use mathlib.Core.List.{[], ◌∷◌}
use Rattle.grid.proofs.Lists.{member-done, members-over}
use Rattle.output.specs.code.Tapes.{append}
use Rattle.output.specs.code.Pens.{writes}
use Rattle.output.proofs.Pens.{writes-each}
use Rattle.output.proofs.Pen.push_word.Goals as goal

pub loop-byte-init : goal.loop-byte-init
loop-byte-init g c = writes-each c.args.word.now c.args.self.now

pub loop-byte-preserved : goal.loop-byte-preserved
loop-byte-preserved g c =
    member-done (λ b p. writes (append g.row.N (b ∷ [])) p) c.args.word.now c.loop-byte.byte-index c.loop-byte-test.true c.push.ensures c.loop-byte.invariant

pub returns : goal.returns
returns g c =
    members-over (λ b p. writes (append g.row.N (b ∷ [])) p) c.args.word.now c.loop-byte.byte-index c.loop-byte-test.false c.loop-byte.invariant
