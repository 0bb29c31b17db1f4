-- `rounds::tallies::write_summary` meets its contract. Assumes nothing.
use mathlib.Core.Path.{◌≡◌, ap, ◌∙◌}
use mathlib.Core.List.{◌++◌}
use lib.ListN.{get_or}
use Rattle.std.proofs.Common.{rules}
use Rattle.output.specs.declared.Pen.{Pen}
use Rattle.output.specs.code.Tapes.{tape, append}
use Rattle.output.specs.code.Pens.{tape_of}
use Rattle.output.specs.Decimals.{decimal}
use Rattle.output.proofs.Pens.{writes-joined}
use Rattle.card.specs.Layout.{line_of, refused_label}
use Rattle.rounds.specs.Summaries.{grids_label, finished_label, open_label, dead_label, right_label, not_label, summary_bytes}
use Rattle.rounds.proofs.tallies.write_summary.Goals as goal

pub returns : goal.returns
unfolding summary_bytes
returns c =
    let args = c.args in
    let n = args.tally in
    let p = c.new-lines.result in
    let a = line_of grids_label (decimal (get_or n 0 0)) in
    let b = line_of finished_label (decimal (get_or n 1 0)) in
    let d = line_of open_label (decimal (get_or n 2 0)) in
    let e = line_of dead_label (decimal (get_or n 3 0)) in
    let f = line_of refused_label (decimal (get_or n 4 0)) in
    let g = line_of right_label (decimal (get_or n 5 0)) in
    let h = line_of not_label (decimal (get_or n 6 0)) in
    let two = writes-joined a b p c.number_line.ensures c.number_line-2.ensures in
    let four = writes-joined (a ++ b ++ d) e p (writes-joined (a ++ b) d p two c.number_line-3.ensures) c.number_line-4.ensures in
    let six = writes-joined (a ++ b ++ d ++ e ++ f) g p (writes-joined (a ++ b ++ d ++ e) f p four c.number_line-5.ensures) c.number_line-6.ensures in
    let made = writes-joined (a ++ b ++ d ++ e ++ f ++ g) h p six c.number_line-7.ensures in
    let told : tape_of c.number_line-7.new.lines ≡ append 256 (summary_bytes n) (tape args.out.now 0) = ap tape_of made ∙ ap (λ (q : Pen 256). append 256 (summary_bytes n) (tape_of q)) c.new-lines.ensures in
    let lender = ap (λ (q : Pen 256). q.bytes.ghost_name) made ∙ ap (λ (q : Pen 256). q.bytes.ghost_name) c.new-lines.ensures in
    search rules
