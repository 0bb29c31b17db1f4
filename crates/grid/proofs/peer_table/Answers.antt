-- `grid::peer_table` meets its contract: the constant is the table by its rule, which the checker computes over all rows at once. Assumes nothing.
use Rattle.grid.specs.Cells.{cells, peers, peer_table}
use Rattle.grid.proofs.SameRows.{table_same}
use Rattle.grid.proofs.peer_table.Goals as goal

pub returns : goal.returns
unfolding peer_table peers cells
returns c = table_same _ peer_table tt
