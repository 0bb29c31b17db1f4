-- `record::sections::entry_at` meets its contract. Assumes nothing.
use mathlib.Core.Path.{◌≡◌, sym, ap, ◌∙◌}
use mathlib.Core.Bool.{true}
use Prim.Native.Nat.{ℕ, ◌-◌}
use Rattle.stops.specs.Answer.{stop}
use Rattle.stops.specs.declared.Stop.TheVariants.{RecordBytes, RecordEntry}
use Rattle.candidates.specs.Masks.{has}
use Rattle.steps.specs.Boards.{at}
use Rattle.cells.specs.code.Places.{mask_at}
use Rattle.record.specs.Sections.{outside, well_formed}
use Rattle.record.proofs.Entries.{placed, Formed, formed, cell-mask, entry-missing, entry-bad, entry-outside, entry_named}
use native.Mathlib.Omega.{arith}
use Rattle.record.proofs.sections.entry_at.Goals as goal

pub returns-then-bytes-lt2 : goal.returns-then-bytes-lt2
returns-then-bytes-lt2 c =
    let a = c.args in
    placed RecordBytes (omega arith) ∙ entry-missing a.section a.free.now a.bytes.now a.low a.at (omega arith)

pub returns-then-bytes-at : goal.returns-then-bytes-at
returns-then-bytes-at c =
    let a = c.args in
    placed RecordBytes (omega arith) ∙ entry-missing a.section a.free.now a.bytes.now a.low a.at (omega arith)

pub returns-then-not-well_formed : goal.returns-then-not-well_formed
returns-then-not-well_formed c =
    let a = c.args in
    placed RecordEntry (omega arith)
    ∙ entry-bad a.section a.free.now a.bytes.now a.low a.at (omega arith) c.value_at-cell.ensures c.value_at-digit.ensures
    (sym c.well_formed-2.ensures ∙ c.if-not-well_formed.true)

pub returns-then-not-has_digit : goal.returns-then-not-has_digit
returns-then-not-has_digit c =
    let is-well : well_formed c.args.low c.value_at-cell.result c.value_at-digit.result ≡ true = (
    sym c.well_formed-2.ensures ∙ c.if-not-well_formed.false
    ) in
    let is-formed : Formed c.args.low c.value_at-cell.result c.value_at-digit.result = (
    formed c.args.low c.value_at-cell.result c.value_at-digit.result (is-well)
    ) in
    let held : (m : ℕ) → m ≡ mask_at c.args.free.now c.value_at-cell.result
    → has (at c.args.free.now c.value_at-cell.result) (c.value_at-digit.result - 1) ≡ has m (c.value_at-digit.result - 1) = (
    λ m e. ap (λ (x : ℕ). has x (c.value_at-digit.result - 1)) (sym (e ∙ cell-mask c.args.free.now (is-formed)))
    ) in
    let a = c.args in
    ap stop c.outside_stop.ensures ∙ placed (outside a.section) (omega arith)
    ∙ entry-outside a.section a.free.now a.bytes.now a.low a.at (omega arith) c.value_at-cell.ensures c.value_at-digit.ensures (is-well)
    (held _ c.mask_at.ensures ∙ sym c.has_digit.ensures ∙ c.if-not-has_digit.true)

pub returns : goal.returns
returns c =
    let is-well : well_formed c.args.low c.value_at-cell.result c.value_at-digit.result ≡ true = (
    sym c.well_formed-2.ensures ∙ c.if-not-well_formed.false
    ) in
    let is-formed : Formed c.args.low c.value_at-cell.result c.value_at-digit.result = (
    formed c.args.low c.value_at-cell.result c.value_at-digit.result (is-well)
    ) in
    let held : (m : ℕ) → m ≡ mask_at c.args.free.now c.value_at-cell.result
    → has (at c.args.free.now c.value_at-cell.result) (c.value_at-digit.result - 1) ≡ has m (c.value_at-digit.result - 1) = (
    λ m e. ap (λ (x : ℕ). has x (c.value_at-digit.result - 1)) (sym (e ∙ cell-mask c.args.free.now (is-formed)))
    ) in
    let a = c.args in
    entry_named a.section a.free.now a.bytes.now a.low a.at (omega arith) c.value_at-cell.ensures c.value_at-digit.ensures (is-well)
    (held _ c.mask_at.ensures ∙ sym c.has_digit.ensures ∙ c.if-not-has_digit.false)
