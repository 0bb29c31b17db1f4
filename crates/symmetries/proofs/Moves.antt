-- One-to-one moves and symmetries: undone, and one after the other. Assumes nothing.
use mathlib.Core.Path.{◌≡◌, sym, ap, ◌∙◌}
use Prim.Native.Nat.{ℕ, ◌<◌}
use Rattle.grid.specs.Units.{in_unit}
use Rattle.symmetries.specs.Changes.{Moves, OneToOne, Change, Symmetry, and_then, chained}

abbrev pub undone : Moves → Moves
undone f = record { to = f.from; from = f.to }

module _ {n : ℕ} {f : Moves} (o : OneToOne n f) where
  pub one-undone : OneToOne n (undone f)
  one-undone = record { to = o.from; from = o.to; back = o.forth; forth = o.back }

  pub same-to : {i j : ℕ} → i < n → j < n → f.to i ≡ f.to j → i ≡ j
  same-to {i} {j} h k e = sym (o.back i h) ∙ ap f.from e ∙ o.back j k

  -- what goes to j comes from there
  pub comes : {i j : ℕ} → i < n → f.to i ≡ j → i ≡ f.from j
  comes {i} h e = sym (o.back i h) ∙ ap f.from e

pub one_then : {n : ℕ} {f h : Moves} → OneToOne n f → OneToOne n h → OneToOne n (and_then f h)
one_then {n} {f} {h} o p =
    record {
      to = λ i k. p.to (f.to i) (o.to i k);
      from = λ i k. o.from (h.from i) (p.from i k);
      back = λ i k. ap f.from (p.back (f.to i) (o.to i k)) ∙ o.back i k;
      forth = λ i k. ap h.to (o.forth (h.from i) (p.from i k)) ∙ p.forth i k;
    }

abbrev pub undone_change : Change → Change
undone_change w = record { cells = undone w.cells; units = undone w.units; digits = undone w.digits }

pub symmetry-undone : {w : Change} → Symmetry w → Symmetry (undone_change w)
symmetry-undone {w} s =
    record {
      cells = one-undone s.cells;
      units = one-undone s.units;
      digits = one-undone s.digits;
      inside = λ u c h k.
          sym (s.inside (w.units.from u) (w.cells.from c) (s.units.from u h) (s.cells.from c k))
          ∙ (λ i. in_unit (s.units.forth u h i) (s.cells.forth c k i));
    }

pub symmetry-then : {v w : Change} → Symmetry v → Symmetry w → Symmetry (chained v w)
symmetry-then {v} {w} s t =
    record {
      cells = one_then s.cells t.cells;
      units = one_then s.units t.units;
      digits = one_then s.digits t.digits;
      inside = λ u c h k. t.inside (v.units.to u) (v.cells.to c) (s.units.to u h) (s.cells.to c k) ∙ s.inside u c h k;
    }
