use mathlib.Core.Path.{◌≡◌, ap, ◌∙◌}
use mathlib.Core.Bool.{Bool, ◌||◌}
use lib.ListN.{get_or}
use Rattle.std.proofs.Common.{rules}
use Rattle.grid.proofs.Lists.{member-done, members-over}
use Rattle.steps.specs.Loops.{each}
use Rattle.output.specs.declared.Pen.{Pen}
use Rattle.output.specs.code.Tapes.{append}
use Rattle.rounds.specs.Lines.{is_separator}
use Rattle.rounds.specs.code.Cuts.{grown, kept_one}
use Rattle.rounds.proofs.Cutting.{held_same}
use Rattle.rounds.proofs.cuts.keep.Goals as goal

pub loop-byte-preserved : goal.loop-byte-preserved
unfolding kept_one append each
loop-byte-preserved c =
    let a = c.args in
    let l = c.loop-byte in
    let b = get_or a.bytes.now l.byte-index 0 in
    let parted : (l.parted || c.is_separator-parted.result) ≡ (l.parted || is_separator b) = ap (λ (t : Bool). l.parted || t) c.is_separator-parted.ensures in (
      ap (λ (p : Pen 256). p.bytes.ghost_name) c.push.ensures ∙ l.invariant.0,
      member-done kept_one a.bytes.now l.byte-index c.loop-byte-test.true
          (held_same b a.line.passed (ap (λ (p : Pen 256). p.bytes.now) c.push.ensures) (ap (λ (p : Pen 256). p.end) c.push.ensures) (c.grow-grid.ensures ∙ ap (λ (t : Bool). grown t l.grid) parted) parted) l.invariant.1,
    )

pub returns : goal.returns
returns c =
    let l = c.loop-byte in
    let lender = l.invariant.0 in
    let whole = members-over kept_one c.args.bytes.now l.byte-index c.loop-byte-test.false l.invariant.1 in
    search rules
