-- Singles as the code finds them are those of module 6. Assumes nothing.
use mathlib.Core.Path.{◌≡◌, refl, sym, ap, ◌∙◌}
use mathlib.Core.Bool.{Bool, true, false, cond}
use mathlib.Core.List.{List, []}
use mathlib.Core.Option.{Option, none, some}
use Prim.Native.Nat.{ℕ, suc, ◌+◌, ◌<◌}
use native.Mathlib.Omega.{arith}
use lib.Dec.{eqb}
use lib.IntN.{ℤ, pos, nat_abs}
use Rattle.candidates.specs.Masks.{count, lowest}
use Rattle.candidates.specs.Sets.{only_of, digit_or0}
use Rattle.candidates.proofs.Held.{none-held}
use Rattle.candidates.proofs.Only.{Says, single-says}
use Rattle.candidates.proofs.Tests.{cond-true, cond-false}
use Rattle.grid.specs.Cells.{cells}
use Rattle.grid.specs.Units.{unit_cell}
use Rattle.steps.specs.Boards.{at, is_open}
use Rattle.steps.specs.Loops.{each, for, up_to}
use Rattle.steps.specs.Ported.{spots}
use Rattle.steps.specs.Singles.{Report, report_only, naked_at, naked_singles, hidden_singles}
use Rattle.steps.proofs.Loops.{each-for, for-same, in-up_to}
use Rattle.cells.specs.code.Places.{open_mask, unit_masks, spots_in}
use Rattle.cells.proofs.Places.{open-mask, spots-are}
use Rattle.techniques.specs.declared.singles.Reports.{Reports}
use Rattle.techniques.specs.code.Pushes.{pushed, append}
use Rattle.techniques.specs.code.Singles.{hidden_at, hidden_in}
use Rattle.techniques.proofs.ReportLists.{append-one}

-- ---- naked singles

none_only : only_of 0 ≡ none
none_only = go (only_of 0) (single-says 0 refl)
  where
    go : (o : Option ℤ) → Says 0 o → o ≡ none
    go (some z) w = absurd (none-held w.place w.one.held)
    go none w = refl

-- one turn of the loop
module _ (g m : List ℕ) (c : ℕ) (h : c < 81) {d : ℕ} (q : Reports) where
  by-cell : (P : List Report → Type 0) → pos d ≡ digit_or0 (only_of (open_mask g m c)) → ((o : Option ℤ) → Says (at m c) o → pos d ≡ digit_or0 o → P (report_only c o)) → (d ≡ 0 → P []) → P (naked_at g m c)
  by-cell P e one nothing = go (is_open g c) (e ∙ ap (λ (x : ℕ). digit_or0 (only_of x)) (open-mask g m c h))
    where
      go : (t : Bool) → pos d ≡ digit_or0 (only_of (cond t (at m c) 0)) → P (cond t (report_only c (only_of (at m c))) [])
      go true e = one (only_of (at m c)) (single-says (at m c) refl) e
      go false e = nothing (ap nat_abs (e ∙ ap digit_or0 none_only))

  pub naked-found : pos d ≡ digit_or0 (only_of (open_mask g m c)) → (d ≡ 0 → ⊥) → pushed q c d ≡ append (naked_at g m c) q
  unfolding append each
  naked-found e n = by-cell (λ rs. pushed q c d ≡ append rs q) e go (λ z. absurd (n z))
    where
      go : (o : Option ℤ) → Says (at m c) o → pos d ≡ digit_or0 o → pushed q c d ≡ append (report_only c o) q
      go (some z) w e = ap (λ (z : ℤ). pushed q c (nat_abs z)) e
      go none w e = absurd (n (ap nat_abs e))

  pub naked-none : pos d ≡ digit_or0 (only_of (open_mask g m c)) → d ≡ 0 → q ≡ append (naked_at g m c) q
  unfolding append each
  naked-none e z = by-cell (λ rs. q ≡ append rs q) e go (λ z. refl)
    where
      go : (o : Option ℤ) → Says (at m c) o → pos d ≡ digit_or0 o → q ≡ append (report_only c o) q
      go (some y) w e =
          let p : d ≡ suc w.place = ap nat_abs (e ∙ w.digit) in
          absurd (omega arith)
      go none w e = refl

pub naked-loop : (g m : List ℕ) (q : Reports) → each (λ c. append (naked_at g m c)) (up_to 81) q ≡ append (naked_singles g m) q
unfolding append naked_singles cells
naked-loop g m q = sym (each-for (λ r q. pushed q r.cell r.digit) cells (naked_at g m) q)

-- ---- hidden singles

-- one turn of the loop: s are the digit's places
module _ (u d : ℕ) (q : Reports) (s : ℕ) where
  pub hidden_found : {c e : ℕ} → c ≡ unit_cell u (lowest s) → e ≡ d + 1 → eqb (count s) 1 ≡ true → pushed q c e ≡ append (hidden_at u s d) q
  hidden_found {c} {e} a b t =
      ap (λ (x : ℕ). pushed q x e) a ∙ ap (pushed q (unit_cell u (lowest s))) b
      ∙ sym (append-one (eqb (count s) 1) (unit_cell u (lowest s)) d q ∙ cond-true (eqb (count s) 1) (pushed q (unit_cell u (lowest s)) (d + 1)) q t)

  pub hidden-none : eqb (count s) 1 ≡ false → q ≡ append (hidden_at u s d) q
  hidden-none t =
      sym (append-one (eqb (count s) 1) (unit_cell u (lowest s)) d q ∙ cond-false (eqb (count s) 1) (pushed q (unit_cell u (lowest s)) (d + 1)) q t)

pub hidden-loop : (g m : List ℕ) (u : ℕ) (q : Reports) → each (λ d. append (hidden_at u (spots_in (unit_masks g m u) d) d)) (up_to 9) q ≡ append (hidden_in g m u) q
unfolding append hidden_in
hidden-loop g m u q = sym (each-for (λ r q. pushed q r.cell r.digit) (up_to 9) (λ d. hidden_at u (spots_in (unit_masks g m u) d) d) q)

pub units-loop : (g m : List ℕ) (q : Reports) → each (λ u. append (hidden_in g m u)) (up_to 27) q ≡ append (hidden_singles g m) q
unfolding append hidden_singles hidden_in
units-loop g m q =
    sym (each-for (λ r q. pushed q r.cell r.digit) (up_to 27) (hidden_in g m) q)
    ∙ ap (λ (rs : List Report). append rs q)
    (for-same (hidden_in g m) (λ u. for (up_to 9) λ d. hidden_at u (spots g m u d) d) (up_to 27)
    (λ u k. for-same (λ d. hidden_at u (spots_in (unit_masks g m u) d) d) (λ d. hidden_at u (spots g m u d) d) (up_to 9)
    (λ d l. ap (λ (s : ℕ). hidden_at u s d) (spots-are g m u d (in-up_to 27 u k)))))
