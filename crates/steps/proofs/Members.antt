-- The cells of two units, the cells outside a unit, the row, the column or the box of a cell of one, and the cell of a row and a column. Assumes nothing.
use mathlib.Core.Path.{◌≡◌, refl, sym, ap, ◌∙◌}
use mathlib.Core.Logic.{◌⊎◌, ◌↔◌, inl, inr, ⊎_elim}
use mathlib.Core.Bool.{Bool, true, false, true≢false}
use mathlib.Core.List.Memᴰ
use mathlib.Core.List.{◌++◌, Memᴰ}
use Prim.Native.Nat.{ℕ, ◌+◌, ◌-◌, ◌*◌, ◌≤◌, ◌<◌}
use native.Mathlib.Omega.{arith}
use borrow.Author.Tests.{eqb-true}
use Rattle.grid.specs.Cells.{row, col, box}
use Rattle.grid.specs.Units.{unit, unit_cell, in_unit, Member}
use Rattle.grid.proofs.Units.{row-cell, col-cell, at_place, member-in, in-member, member-mem, mem-member, in_row, in-col, in-box}

-- the cells of two units, named in either order
pub in_either : {x y f s : ℕ} → x < 27 → y < 27 → ((x ≡ f) × (y ≡ s)) ⊎ ((x ≡ s) × (y ≡ f)) → (e : ℕ) → Memᴰ e (unit f ++ unit s) ↔ (Member x e ⊎ Member y e)
in_either {x} {y} {f} {s} h k same e = go same
  where
    joined : (a b : ℕ) → a < 27 → b < 27 → Memᴰ e (unit a ++ unit b) ↔ (Member a e ⊎ Member b e)
    joined a b h k = (
      λ l. ⊎_elim (λ p. inl (mem-member h p)) (λ p. inr (mem-member k p)) (Memᴰ.append_cases (unit a) l),
      ⊎_elim (λ p. Memᴰ.append_left (unit b) (member-mem h p)) (λ p. Memᴰ.append_right (unit a) (member-mem k p)),
    )

    swapped : Memᴰ e (unit y ++ unit x) ↔ (Member x e ⊎ Member y e)
    swapped =
        let j = joined y x k h in
        (λ l. ⊎_elim (λ p. inr p) (λ p. inl p) (j.0 l), λ t. j.1 (⊎_elim (λ p. inr p) (λ p. inl p) t))

    go : ((x ≡ f) × (y ≡ s)) ⊎ ((x ≡ s) × (y ≡ f)) → Memᴰ e (unit f ++ unit s) ↔ (Member x e ⊎ Member y e)
    go (inl p) = rw (← p.0, ← p.1) (joined x y h k)
    go (inr p) = rw (← p.0, ← p.1) swapped

pub outside : (u e : ℕ) → u < 27 → e < 81 → (in_unit u e ≡ false) ↔ (¬ (Member u e))
outside u e h k = (λ f p. true≢false (sym (member-in h p) ∙ f), λ n. go n (in_unit u e) refl)
  where
    go : ¬ (Member u e) → (t : Bool) → in_unit u e ≡ t → in_unit u e ≡ false
    go n true t = absurd (n (in-member u e h k t))
    go n false t = t

module _ {u e : ℕ} (p : Member u e) where
  pub member-row : u < 9 → row e ≡ u
  member-row h = eqb-true (row e) u (sym (in_row u e h) ∙ member-in (omega arith) p)

  pub member-col : 9 ≤ u → u < 18 → 9 + col e ≡ u
  member-col l h =
      let z : 9 + (u - 9) ≡ u = omega arith in
      let q = eqb-true (col e) (u - 9) (sym (in-col (u - 9) e (omega arith)) ∙ ap (λ (n : ℕ). in_unit n e) z ∙ member-in (omega arith) p) in
      omega arith

  pub member-box : 18 ≤ u → u < 27 → 18 + box e ≡ u
  member-box l h =
      let z : 18 + (u - 18) ≡ u = omega arith in
      let q = eqb-true (box e) (u - 18) (sym (in-box (u - 18) e (omega arith)) ∙ ap (λ (n : ℕ). in_unit n e) z ∙ member-in h p) in
      omega arith

-- a row and a column have a cell in common
pub row-meets : {r k : ℕ} → r < 9 → 9 ≤ k → k < 18 → (e : ℕ) × Member r e × Member k e
row-meets {r} {k} h l n =
    let z : k - 9 + 9 * r ≡ 9 * r + (k - 9) = omega arith in
    (unit_cell r (k - 9), at_place r (k - 9) (omega arith), record { place = r; within = h; is = sym (col-cell k r h l n) ∙ z ∙ row-cell r (k - 9) (omega arith) h })
