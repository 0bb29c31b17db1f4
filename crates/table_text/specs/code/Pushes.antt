-- The numbers of a row one after the other, and the rows of a table by the number of the row.
use Rattle.std.specs.Prelude.{Bool, cond, List, ◌∷◌, map, ℕ}
use Rattle.output.specs.Decimals.{decimal}
use Rattle.grid.specs.Cells.{cells}
use Rattle.grid.specs.code.Scopes.{in_scope}
use Rattle.grid.specs.declared.scopes.Scope.{Scope}
use Rattle.grid.specs.declared.scopes.Scope.TheVariants as scope
use Rattle.steps.specs.Loops.{select, up_to}
use Rattle.table_text.specs.Tables.{later, numbers}
use Rattle.table_text.specs.declared.Table.{Table}
use Rattle.table_text.specs.declared.Table.TheVariants as table

-- a number of a row, and the numbers of a row from some place on
unfoldable pub entry : Bool → ℕ → List ℕ
entry first n = cond first (decimal n) (44 ∷ 32 ∷ decimal n)

unfoldable pub entries : Bool → List ℕ → List ℕ
entries first ns = cond first (numbers ns) (later ns)

-- the rows of a table
abbrev pub scope_of : Table → ℕ → Scope
scope_of table.Units i = scope.Unit i
scope_of table.Peers i = scope.Peers i

unfoldable pub in_row : Scope → List ℕ
in_row s = select (in_scope s) cells

abbrev pub rows_of : Table → ℕ → List (List ℕ)
rows_of t n = map (λ i. in_row (scope_of t i)) (up_to n)
