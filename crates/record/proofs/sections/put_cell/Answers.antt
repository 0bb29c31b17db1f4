use mathlib.Core.Path.{refl, ap, ◌∙◌}
use mathlib.Core.List.{List, map}
use Prim.Native.Nat.{ℕ, ◌+◌, ◌*◌, ◌<◌}
use lib.ListN.{length, set}
use Rattle.candidates.specs.Masks.{single, lowest}
use Rattle.candidates.proofs.Order.{minus-sub, sub-le}
use Rattle.cells.proofs.Rising.{lowest-place}
use Rattle.record.specs.code.Places.{cell_candidates}
use Rattle.record.specs.Sections.{entry_bytes, stored}
use Rattle.record.proofs.Places.{places-nine, nine-small, digit-less, digit-put}
use native.Mathlib.Omega.{arith}
use Rattle.record.proofs.sections.put_cell.Goals as goal

pub loop-left-init : goal.loop-left-init
loop-left-init c =
    let a = c.args in
    let e = ap (λ (x : ℕ). cell_candidates a.cell x) c.meet-left.ensures ∙ ap (map (λ d. 9 * a.cell + d)) (places-nine a.set) in (
      omega (arith, c.meet-left.ensures, nine-small a.set),
      ap (λ (ks : List ℕ). a.start + 2 * length ks) e,
      ap (λ (ks : List ℕ). stored a.bytes.now a.start (entry_bytes ks)) e,
    )

pub overflow_add-bytes : goal.overflow_add-bytes
overflow_add-bytes c = omega (arith, c.lowest_digit.ensures, lowest-place c.loop-left.left (omega arith) c.loop-left.invariant.0)

pub overflow_cast-bytes-in-loop-left : goal.overflow_cast-bytes-in-loop-left
overflow_cast-bytes-in-loop-left c = omega (arith, c.lowest_digit.ensures, lowest-place c.loop-left.left (omega arith) c.loop-left.invariant.0)

pub loop-left-smaller : goal.loop-left-smaller
loop-left-smaller c =
    let a = c.args in
    omega (arith, ap (λ (x : ℕ). length (cell_candidates a.cell x)) c.lose_lowest-left.ensures, digit-less a.cell c.loop-left.left (omega arith) c.loop-left.invariant.0)

pub loop-left-preserved : goal.loop-left-preserved
loop-left-preserved c =
    let a = c.args in
    let x = c.loop-left.left in
    let some : 0 < x = omega arith in
    let low = c.loop-left.invariant.0 in
    let e = c.lose_lowest-left.ensures in
    let b = set (set c.loop-left.bytes c.loop-left.at a.cell) (c.loop-left.at + 1) (c.lowest_digit.result + 1) in (
      omega (arith, e, low, sub-le (minus-sub x (single (lowest x)))),
      omega (arith, c.loop-left.invariant.1, ap (λ (y : ℕ). length (cell_candidates a.cell y)) e, digit-less a.cell x some low),
      ap (λ (y : ℕ). stored b (c.loop-left.at + 2) (entry_bytes (cell_candidates a.cell y))) e
          ∙ digit-put a.cell x some low c.loop-left.bytes c.loop-left.at c.loop-left.invariant.2
          (ap (λ (d : ℕ). set (set c.loop-left.bytes c.loop-left.at a.cell) (c.loop-left.at + 1) (d + 1)) c.lowest_digit.ensures) refl,
    )
