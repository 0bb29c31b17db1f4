-- The two kinds of rows that a table has: the peers of a cell, or the cells of a unit.
use Rattle.std.specs.Prelude.{Bool, ℕ}
use Rattle.grid.specs.Cells.{sees}
use Rattle.grid.specs.Units.{in_unit}
use Rattle.grid.specs.declared.scopes.Scope.{Scope}
use Rattle.grid.specs.declared.scopes.Scope.TheVariants as scope

abbrev pub in_scope : Scope → ℕ → Bool
in_scope (scope.Peers c) e = sees c e
in_scope (scope.Unit u) e = in_unit u e
