use mathlib.Core.Path.{sym, ap, ◌∙◌}
use mathlib.Core.List.{List}
use Prim.Native.Nat.{ℕ, ◌+◌, ◌*◌, ◌<◌}
use lib.ListN.{length}
use Rattle.record.specs.Sections.{entry_bytes, stored}
use Rattle.record.proofs.Places.{cell-rest-length, cell-put}
use Rattle.record.proofs.Writing.{rest-start, rest_end}
use native.Mathlib.Omega.{arith}
use Rattle.record.proofs.sections.put_entries.Goals as goal

pub loop-cell-init : goal.loop-cell-init
loop-cell-init c =
    let s = c.args.sets.now in (
      omega arith,
      ap (λ (ks : List ℕ). c.args.start + 2 * length ks) (rest-start s),
      ap (λ (ks : List ℕ). stored c.args.bytes.now c.args.start (entry_bytes ks)) (rest-start s),
    )

pub put_cell-at-requires : goal.put_cell-at-requires
put_cell-at-requires c =
    let s = c.args.sets.now in
    let k = c.loop-cell.cell in
    (omega arith, omega (arith, c.requires, c.loop-cell.invariant.1, cell-rest-length s k (omega arith)))

pub loop-cell-preserved : goal.loop-cell-preserved
loop-cell-preserved c =
    let s = c.args.sets.now in
    let k = c.loop-cell.cell in
    let h : k < 81 = omega arith in
    let m = c.put_cell-at.ensures.1 in (
      omega arith,
      omega (arith, c.loop-cell.invariant.1, cell-rest-length s k h),
      cell-put s k h c.loop-cell.bytes c.loop-cell.at c.loop-cell.invariant.2 c.put_cell-at.ensures.0 m,
    )

pub returns : goal.returns
returns c =
    let s = c.args.sets.now in
    let e = rest_end s (9 * c.loop-cell.cell) (omega (arith, c.loop-cell-test.false)) in (
      sym (ap (λ (ks : List ℕ). stored c.loop-cell.bytes c.loop-cell.at (entry_bytes ks)) e) ∙ c.loop-cell.invariant.2,
      omega (arith, ap length e, c.loop-cell.invariant.1),
    )
