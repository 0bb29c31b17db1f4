-- `card::layout::card_lines` meets its contract. Assumes nothing.
use mathlib.Core.List.{◌++◌}
use Rattle.card.specs.Cards.{card_bytes, verdict_word}
use Rattle.output.specs.Decimals.{decimal}
use Rattle.card.specs.Layout.{line_of, clues_label, reported_label, sweeps_label, removed_label, verdict_label, grid_label, grid_bytes}
use Rattle.output.proofs.Pens.{writes-joined}
use Rattle.card.proofs.layout.card_lines.Goals as goal

pub returns : goal.returns
unfolding card_bytes
returns c =
    let card = c.args.card.now in
    let p = c.args.lines.now in
    let a = line_of clues_label (decimal card.clues) in
    let b = line_of reported_label (decimal card.reported) in
    let d = line_of sweeps_label (decimal card.sweeps) in
    let e = line_of removed_label (decimal card.removed) in
    let f = line_of verdict_label (verdict_word card.verdict) in
    let g = line_of grid_label (grid_bytes card.masks) in
    writes-joined (a ++ b ++ d ++ e ++ f) g p
    (writes-joined (a ++ b ++ d ++ e) f p
    (writes-joined (a ++ b ++ d) e p (writes-joined (a ++ b) d p (writes-joined a b p c.number_line.ensures c.number_line-2.ensures) c.number_line-3.ensures) c.number_line-4.ensures)
    c.verdict_line.ensures) c.grid_line.ensures
