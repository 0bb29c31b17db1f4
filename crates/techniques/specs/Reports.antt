-- A value of reports: "The list stands in a value with its count".
use Rattle.std.specs.Prelude.{List, ◌++◌, map, ℕ, ◌-◌, length, replicate}
use Rattle.steps.specs.Singles.{Report}
use Rattle.techniques.specs.declared.singles.Reports.{Reports}

-- the list's entries and then zeros, 324 in all
unfoldable pub filled : List ℕ → List ℕ
filled xs = xs ++ replicate (324 - length xs) 0

-- the value that a list of at most 324 reports stands in
unfoldable pub reports_of : List Report → Reports
reports_of rs = record { cells = filled (map (λ r. r.cell) rs); digits = filled (map (λ r. r.digit) rs); count = length rs }
