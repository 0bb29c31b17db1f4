-- `rounds::fields::push_figure` meets its contract. Assumes nothing.
use mathlib.Core.List.{[], ◌∷◌, ◌++◌}
use Rattle.output.specs.Decimals.{decimal}
use Rattle.output.proofs.Pens.{writes-joined}
use Rattle.rounds.specs.Rounds.{figure_bytes}
use Rattle.rounds.proofs.fields.push_figure.Goals as goal

pub returns : goal.returns
unfolding figure_bytes
returns c =
    let f = c.args.figure in
    let p = c.args.line.now in
    let q = decimal f.quotient in
    let r = decimal f.remainder in
    writes-joined (q ++ (43 ∷ []) ++ r ++ (47 ∷ [])) (decimal f.cells) p
    (writes-joined (q ++ (43 ∷ []) ++ r) (47 ∷ []) p
    (writes-joined (q ++ (43 ∷ [])) r p (writes-joined q (43 ∷ []) p c.push_number.ensures c.push.ensures) c.push_number-2.ensures)
    c.push-2.ensures) c.push_number-3.ensures
