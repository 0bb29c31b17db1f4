-- Reports that are pushed one by one.
use Rattle.std.specs.Prelude.{cond, List, ℕ, ◌+◌, ltb, set}
use Rattle.steps.specs.Loops.{each}
use Rattle.steps.specs.Singles.{Report}
use Rattle.techniques.specs.declared.singles.Reports.{Reports}

-- no report, in the same entries
abbrev pub cleared : Reports → Reports
cleared q = record { cells = q.cells; digits = q.digits; count = 0 }

-- one more report; a full value stays as it is
unfoldable pub pushed : Reports → ℕ → ℕ → Reports
pushed q c d = cond (ltb q.count 324) (record { cells = set q.cells q.count c; digits = set q.digits q.count d; count = q.count + 1 }) q

-- a list of reports after those of the value
unfoldable pub append : List Report → Reports → Reports
append rs q = each (λ r q. pushed q r.cell r.digit) rs q
