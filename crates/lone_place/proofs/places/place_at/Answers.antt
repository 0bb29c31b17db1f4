-- `lone_place::places::place_at` meets its contract. Assumes nothing.
use mathlib.Core.Path.{◌≡◌, sym, ap, ◌∙◌}
use mathlib.Core.List.{List, [], ◌∷◌}
use Prim.Native.Nat.{ℕ, ◌+◌, ◌<◌}
use native.Mathlib.Omega.{arith}
use borrow.Author.Tests.{eq-eqb, not-false}
use lib.Bits.{bit_and}
use lib.Dec.{eqb}
use Rattle.candidates.specs.Masks.{minus, single}
use Rattle.candidates.proofs.Tests.{cond-true}
use Rattle.grid.specs.Units.{unit_cell}
use Rattle.grid.proofs.Units.{cell_below}
use Rattle.steps.specs.Boards.{at, is_open}
use Rattle.steps.specs.Instances.{place}
use Rattle.steps.specs.Passes.{instance_taken}
use Rattle.steps.specs.StepLists.{step_bytes}
use Rattle.steps.specs.Steps.{lose_at}
use Rattle.steps.specs.code.Logs.{noted}
use Rattle.steps.proofs.Masks.{same-eq}
use Rattle.steps.proofs.Steps.{lose-other}
use Rattle.cells.specs.code.Places.{lose_in, held_places}
use Rattle.cells.proofs.Losses.{noted-lost, noted-kept}
use Rattle.cells.proofs.Places.{lose-cell}
use Rattle.cells.proofs.NineBits.{place_is}
use Rattle.lanes.specs.code.Lanes.{laid, put_at}
use Rattle.lanes.proofs.Spots.{laid_one}
use Rattle.lone_place.specs.code.Turns.{place_turn}
use Rattle.lone_place.proofs.PlaceTurns.{taken}
use Rattle.lone_place.proofs.places.place_at.Goals as goal

-- the lanes after it
laid-lost : (g m : List ℕ) (i k : ℕ) {n p q : List ℕ} → i < 81 → n ≡ lose_in (is_open g) i k m → p ≡ laid m → q ≡ put_at i (bit_and (at n i) 511) p → q ≡ laid n
laid-lost g m i k {n} {p} {q} h e b d =
    d ∙ ap (put_at i (bit_and (at n i) 511)) b ∙ laid_one m n i h (λ j r. ap (λ (o : List ℕ). at o j) (e ∙ lose-cell (is_open g) i k m h) ∙ lose-other (is_open g) i k m j r)

-- the cell's loss is the instance's step, since its test passes
step : (g m : List ℕ) (u d i : ℕ) → u < 27 → d < 9 → i < 9 → minus (held_places m u d) (single i) ≡ 0 → lose_at (is_open g) (unit_cell u i) (minus 511 (single d)) m ≡ instance_taken g (place u d i) m
unfolding place_turn
step g m u d i h k n t =
    let left = minus (held_places m u d) (single i) in
    sym (cond-true (eqb left 0) (lose_at (is_open g) (unit_cell u i) (minus 511 (single d)) m) m (eq-eqb left 0 t)) ∙ sym (taken g u d h k m i n)

lost : (g m : List ℕ) (u d i : ℕ) {cell one others : ℕ} {o : List ℕ} → u < 27 → d < 9 → i < 9 → minus (held_places m u d) (single i) ≡ 0 → cell ≡ unit_cell u i → one ≡ single d → others ≡ minus 511 one → o ≡ lose_in (is_open g) cell others m → o ≡ instance_taken g (place u d i) m
lost g m u d i {others = others} h k n t b p q e =
    e ∙ ap (λ (j : ℕ). lose_in (is_open g) j others m) b
    ∙ ap (λ (x : ℕ). lose_in (is_open g) (unit_cell u i) x m) (q ∙ ap (minus 511) p)
    ∙ lose-cell (is_open g) (unit_cell u i) (minus 511 (single d)) m (cell_below u i h n) ∙ step g m u d i h k n t

pub lay_cell-requires : goal.lay_cell-requires
lay_cell-requires c = omega (arith, c.unit_cell-cell.ensures, cell_below c.args.unit c.args.place c.requires.0 c.requires.2)

pub note-requires : goal.note-requires
note-requires c = omega (arith, c.unit_cell-cell.ensures, cell_below c.args.unit c.args.place c.requires.0 c.requires.2)

pub returns-then-lose_at : goal.returns-then-lose_at
unfolding step_bytes
returns-then-lose_at c =
    let a = c.args in
    let g = a.givens.now in
    let m = a.laid.now.masks in
    let q = c.requires in
    let loss = c.lose_at.ensures in
    let e = lost g m a.unit a.digit a.place q.0 q.1 q.2 q.3 c.unit_cell-cell.ensures (c.digit_mask.ensures ∙ place_is a.digit q.1) c.lose-others.ensures loss.masks_after in record {
      masks_after = e;
      log_after = c.note.ensures ∙ ap (λ (i : ℕ). noted (1 ∷ a.unit ∷ (a.digit + 1) ∷ i ∷ 0 ∷ 0 ∷ []) a.log.now) c.unit_cell-cell.ensures
          ∙ noted-lost g (place a.unit a.digit a.place) m e a.log.now (sym loss.value ∙ c.if-lose_at.true);
    }

pub returns-else-lose_at : goal.returns-else-lose_at
returns-else-lose_at c =
    let a = c.args in
    let g = a.givens.now in
    let m = a.laid.now.masks in
    let q = c.requires in
    let loss = c.lose_at.ensures in
    let e = lost g m a.unit a.digit a.place q.0 q.1 q.2 q.3 c.unit_cell-cell.ensures (c.digit_mask.ensures ∙ place_is a.digit q.1) c.lose-others.ensures loss.masks_after in
    let idle = sym loss.value ∙ c.if-lose_at.false in record {
      masks_after = e;
      log_after = noted-kept g (place a.unit a.digit a.place) m e a.log.now idle;
    }

pub invariant_of-laid : goal.invariant_of-laid
invariant_of-laid c =
    let q = c.requires in
    let before = c.args.laid.now in
    let within : c.unit_cell-cell.result < 81 = omega (arith, c.unit_cell-cell.ensures, cell_below c.args.unit c.args.place q.0 q.2) in
    record { in_lanes = laid-lost c.args.givens.now before.masks c.unit_cell-cell.result c.lose-others.result within c.lose_at.ensures.masks_after before.in_lanes c.lay_cell.ensures }

pub invariant_of-laid-else-lose_at : goal.invariant_of-laid-else-lose_at
invariant_of-laid-else-lose_at c =
    let before = c.args.laid.now in
    let idle = sym c.lose_at.ensures.value ∙ c.if-lose_at.false in
    record { in_lanes = before.in_lanes ∙ ap laid (same-eq before.masks _ (not-false _ idle)) }
