-- `record::sections::put_section` meets its contract. Assumes nothing.
use mathlib.Core.Path.{◌≡◌, ap, ◌∙◌}
use mathlib.Core.List.{List}
use Prim.Native.Nat.{ℕ, ◌+◌, ◌-◌, ◌*◌, ◌/◌, ◌≤◌}
use lib.ListN.{length}
use Rattle.record.specs.Sections.{width, candidates, entry_bytes, low_first, stored}
use Rattle.record.proofs.Writing.{candidates-few, section-length, section-put}
use native.Mathlib.Omega.{arith}
use Rattle.record.proofs.sections.put_section.Goals as goal

pub put_entries-end-requires : goal.put_entries-end-requires
put_entries-end-requires c =
    let room : c.args.start + width c.args.section + 2 * length (candidates c.args.sets.now) ≤ 1786 = (
    omega (arith, c.requires, section-length c.args.section c.args.sets.now)
    ) in
    omega (arith, c.count_width.ensures, room)

pub put_count-requires : goal.put_count-requires
put_count-requires c =
    let room : c.args.start + width c.args.section + 2 * length (candidates c.args.sets.now) ≤ 1786 = (
    omega (arith, c.requires, section-length c.args.section c.args.sets.now)
    ) in
    (omega (arith, room), omega (arith, c.put_entries-end.ensures.1, candidates-few c.args.sets.now))

pub returns : goal.returns
returns c =
    let a = c.args in
    let s = a.sets.now in
    let n = (c.put_entries-end.result - (a.start + c.count_width.result)) / 2 in
    let p = c.put_entries-end.ensures.1 in
    let q = c.count_width.ensures in
    let m : n ≡ length (candidates s) = omega arith in (
      c.put_count.ensures
          ∙ ap (λ (l : List ℕ). stored l a.start (low_first (width a.section) n))
          (c.put_entries-end.ensures.0 ∙ ap (λ (i : ℕ). stored a.bytes.now (a.start + i) (entry_bytes (candidates s))) q)
          ∙ section-put a.section s a.bytes.now a.start n m,
      omega (arith, section-length a.section s),
    )
