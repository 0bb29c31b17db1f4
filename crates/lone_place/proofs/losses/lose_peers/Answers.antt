-- `lone_place::losses::lose_peers` meets its contract: the units of a cell are its peers and the cell. Assumes nothing.
use Rattle.lone_place.proofs.Peers.{units-lose, units-tell}
use Rattle.lone_place.proofs.losses.lose_peers.Goals as goal

pub returns : goal.returns
returns c =
    let a = c.args in
    let g = a.givens.now in
    let m = a.masks.now in
    let x = c.lose_places-row.ensures in
    let y = c.lose_places-col.ensures in
    let z = c.lose_places-block.ensures in record {
      masks_after = units-lose g a.cell a.lost c.requires m c.row_of.ensures c.col_of.ensures c.box_of.ensures x.masks_after y.masks_after z.masks_after;
      value = units-tell g a.cell a.lost c.requires m c.row_of.ensures c.col_of.ensures c.box_of.ensures x.masks_after y.masks_after z.masks_after x.value y.value z.value;
    }
