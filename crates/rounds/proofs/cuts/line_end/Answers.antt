use native.Mathlib.Omega.{arith}
use Rattle.rounds.proofs.Cutting.{end-here, end_later, end_none}
use Rattle.rounds.proofs.cuts.line_end.Goals as goal

pub returns-then-byte-eq10 : goal.returns-then-byte-eq10
returns-then-byte-eq10 c =
    (omega (arith, end-here c.args.piece.now c.loop-i.i c.loop-i-test.true c.if-byte-eq10.true, c.loop-i.invariant), omega (arith, c.loop-i-test.true))

pub loop-i-preserved : goal.loop-i-preserved
loop-i-preserved c =
    omega (arith, end_later c.args.piece.now c.loop-i.i c.loop-i-test.true c.if-byte-eq10.false, c.loop-i.invariant)

pub returns : goal.returns
returns c =
    (omega (arith, end_none c.args.piece.now c.loop-i.i c.loop-i-test.false, c.loop-i.invariant, c.loop-i.auto.i-end, c.loop-i-test.false), omega arith)
