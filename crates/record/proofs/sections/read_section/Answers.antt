-- `record::sections::read_section` meets its contract. Assumes nothing.
use mathlib.Core.Path.{ap, ◌∙◌}
use mathlib.Core.List.{List}
use Prim.Native.Nat.{ℕ, ◌+◌}
use Rattle.stops.specs.declared.Stop.TheVariants.{RecordBytes}
use Rattle.record.specs.Sections.{width, number_at, read_entries}
use Rattle.record.proofs.Entries.{placed}
use Rattle.record.proofs.SectionsRead.{section-missing, section-read}
use native.Mathlib.Omega.{arith}
use Rattle.record.proofs.sections.read_section.Goals as goal

pub returns-then-bytes-width : goal.returns-then-bytes-width
returns-then-bytes-width c =
    let a = c.args in
    placed RecordBytes (omega arith) ∙ section-missing a.section a.free.now a.bytes.now a.start (omega (arith, c.count_width-width.ensures))

pub returns-then-bytes-width-2 : goal.returns-then-bytes-width-2
returns-then-bytes-width-2 c =
    let a = c.args in
    placed RecordBytes (omega arith) ∙ section-missing a.section a.free.now a.bytes.now a.start (omega (arith, c.count_width-width.ensures))

pub returns : goal.returns
returns c =
    let a = c.args in
    let r = read_entries a.section a.free.now a.bytes.now in
    c.read_entries.ensures ∙ ap (λ (x : ℕ). r x 0 (a.start + c.count_width-width.result) a.sets.now) c.count_at-count.ensures
    ∙ ap (λ (x : ℕ). r (number_at (width a.section) a.bytes.now a.start) 0 (a.start + x) a.sets.now) c.count_width-width.ensures
    ∙ ap (λ (x : List ℕ). r (number_at (width a.section) a.bytes.now a.start) 0 (a.start + width a.section) x) c.requires
    ∙ section-read a.section a.free.now a.bytes.now a.start (omega (arith, c.count_width-width.ensures))
