-- `techniques::singles::Reports::new` meets its contract. Assumes nothing.
use mathlib.Core.Path.{refl}
use Rattle.techniques.specs.Reports.{filled, reports_of}
use Rattle.techniques.proofs.singles.Reports.new.Goals as goal

pub returns : goal.returns
unfolding reports_of filled
returns c = refl
