use Rattle.std.proofs.Common.{refl, sym}
use Rattle.stops.proofs.Answers.{passed-on}
use Rattle.record.specs.Records.{write_of}
use Rattle.record.proofs.write_record.Goals as goal

pub returns-in_err-check : goal.returns-in_err-check
unfolding write_of
returns-in_err-check c = rw (passed-on _ c.from_residual.ensures.1, sym c.in_err-check.ensures) (refl, refl)

pub returns : goal.returns
unfolding write_of
returns c = rw (sym c.in_ok-check.ensures) c.write_checked.ensures
