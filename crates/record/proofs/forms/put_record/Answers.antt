-- `record::forms::put_record` meets its contract. Assumes nothing.
use mathlib.Core.Path.{◌≡◌, sym, ap, ◌∙◌}
use mathlib.Core.List.{List, ◌++◌}
use Prim.Native.Nat.{ℕ, ◌≤◌}
use lib.ListN.{length, length-append}
use Rattle.board.specs.Boards.{board_of}
use Rattle.record.specs.declared.forms.Form.{Form}
use Rattle.record.specs.declared.sections.Section.TheVariants.{Digits, Removed}
use Rattle.record.specs.Records.{digit_sets, entry_section, bytes_in}
use Rattle.record.specs.Sections.{section_bytes, stored}
use Rattle.record.proofs.Stores.{stored-append}
use Rattle.record.proofs.Rooms.{digits-length, entered-length, removed-length, record-few}
use Rattle.record.proofs.Writing.{record_is}
use native.Mathlib.Omega.{arith}
use Rattle.record.proofs.forms.put_record.Goals as goal

pub put_section-second-requires : goal.put_section-second-requires
put_section-second-requires c =
    omega (arith, digits-length c.args.board.now.clues (c.digit_sets-printed.ensures ∙ ap digit_sets c.givens_of-2.ensures))

pub put_entered-third-requires : goal.put_entered-third-requires
put_entered-third-requires c =
    let printed-length : length (section_bytes Digits c.digit_sets-printed.result) ≤ 163 = (
    digits-length c.args.board.now.clues (c.digit_sets-printed.ensures ∙ ap digit_sets c.givens_of-2.ensures)
    ) in
    let entries-length : (k : Form) → length (entry_section k c.digit_sets-entered.result) ≤ 163 = (
    λ k. entered-length c.args.board.now.entries (c.digit_sets-entered.ensures ∙ ap digit_sets c.givens_of-3.ensures) k
    ) in
    let form = c.args.form in
    omega (arith, c.put_section-second.ensures.1, printed-length, entries-length form)

pub put_section-requires : goal.put_section-requires
put_section-requires c =
    let printed-length : length (section_bytes Digits c.digit_sets-printed.result) ≤ 163 = (
    digits-length c.args.board.now.clues (c.digit_sets-printed.ensures ∙ ap digit_sets c.givens_of-2.ensures)
    ) in
    let entries-length : (k : Form) → length (entry_section k c.digit_sets-entered.result) ≤ 163 = (
    λ k. entered-length c.args.board.now.entries (c.digit_sets-entered.ensures ∙ ap digit_sets c.givens_of-3.ensures) k
    ) in
    let form = c.args.form in
    omega (arith, c.put_entered-third.ensures.1, c.put_section-second.ensures.1, printed-length, entries-length form, removed-length c.lacking_sets-removed.result)

pub returns : goal.returns
returns c =
    let a = c.args in
    let b = board_of a.board.now in
    let first = section_bytes Digits c.digit_sets-printed.result in
    let second = entry_section a.form c.digit_sets-entered.result in
    let third = section_bytes Removed c.lacking_sets-removed.result in
    let is =
    record_is a.form b c.givens_of.ensures c.fresh_masks-fresh.ensures (c.digit_sets-printed.ensures ∙ ap digit_sets c.givens_of-2.ensures) (c.digit_sets-entered.ensures ∙ ap digit_sets c.givens_of-3.ensures) c.lacking_sets-removed.ensures in
    let n₁ = c.put_section-second.ensures.1 in
    let n₂ = c.put_entered-third.ensures.1 in
    let n : c.put_section.result ≡ length (bytes_in a.form b) = omega (arith, c.put_section.ensures.1, n₁, n₂, length-append first (second ++ third), length-append second third, ap length is) in
    let l = a.bytes.now in (
      c.put_section.ensures.0 ∙ ap (λ (x : List ℕ). stored x c.put_entered-third.result third) (c.put_entered-third.ensures.0 ∙ ap (λ (x : List ℕ). stored x c.put_section-second.result second) c.put_section-second.ensures.0)
          ∙ ap (λ (i : ℕ). stored (stored (stored l 0 first) c.put_section-second.result second) i third) n₂
          ∙ sym (stored-append (stored l 0 first) c.put_section-second.result second third)
          ∙ ap (λ (i : ℕ). stored (stored l 0 first) i (second ++ third)) n₁
          ∙ sym (stored-append l 0 first (second ++ third)) ∙ ap (stored l 0) is,
      n,
      omega (arith, n, record-few a.form b),
    )
