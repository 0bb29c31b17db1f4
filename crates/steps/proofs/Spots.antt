-- The open cells of a unit that hold a digit, and the mask of their places. Assumes nothing.
use mathlib.Core.Path.{◌≡◌, sym, ap, ◌∙◌, subst}
use mathlib.Core.Bool.{true}
use mathlib.Core.List.{List}
use Prim.Native.Nat.{ℕ, ◌^◌, ◌<◌}
use native.Mathlib.Omega.{arith}
use Rattle.candidates.specs.Masks.{has}
use Rattle.candidates.proofs.Membership.{gather-lt}
use Rattle.grid.specs.Units.{unit_cell, Member}
use Rattle.candidates.proofs.Tests.{both, both_left, both_right}
use Rattle.grid.proofs.Units.{at_place, same_place}
use Rattle.steps.specs.Boards.{at, is_open}
use Rattle.steps.specs.Ported.{holds, spots}
use Rattle.steps.specs.Published.{Holder, HiddenSingle}
use Rattle.candidates.proofs.FewDigits.{One}
use Rattle.candidates.proofs.Held.{Held, held_below, has-gather}

module _ (g m : List ℕ) where
  pub holder-holds : {d c : ℕ} → Holder g m d c → holds g m d c ≡ true
  holder-holds h = both h.free h.held

  pub holds-holder : (d c : ℕ) → holds g m d c ≡ true → Holder g m d c
  holds-holder d c t = record { free = both_left (is_open g c) (has (at m c) d) t; held = both_right (is_open g c) (has (at m c) d) t }

  module _ (u d : ℕ) where
    pub spots-lt : spots g m u d < 2 ^ 9
    unfolding spots
    spots-lt = gather-lt (λ i. holds g m d (unit_cell u i)) 9

    pub spots-small : spots g m u d < 2 ^ 16
    spots-small = omega (arith, spots-lt)

    pub has-spots : (i : ℕ) → i < 9 → has (spots g m u d) i ≡ holds g m d (unit_cell u i)
    unfolding spots
    has-spots i h = has-gather (λ i. holds g m d (unit_cell u i)) 9 i h

    pub spot-below : (i : ℕ) → Held (spots g m u d) i → i < 9
    spot-below i t = held_below (spots g m u d) 9 i spots-lt t

    pub spot-holder : (i : ℕ) → Held (spots g m u d) i → Holder g m d (unit_cell u i)
    spot-holder i t = holds-holder d (unit_cell u i) (sym (has-spots i (spot-below i t)) ∙ t)

    pub holder-spot : (i : ℕ) → i < 9 → Holder g m d (unit_cell u i) → Held (spots g m u d) i
    holder-spot i h p = has-spots i h ∙ holder-holds p

    pub member-spot : {e : ℕ} (p : Member u e) → Holder g m d e → Held (spots g m u d) p.place
    member-spot p q = holder-spot p.place p.within (subst (λ (c : ℕ). Holder g m d c) (sym p.is) q)

    -- ---- a unit with one holder

    pub one-hidden : (i : ℕ) → One (spots g m u d) i → HiddenSingle g m u d (unit_cell u i)
    one-hidden i o = record {
      member = at_place u i (spot-below i o.held);
      holder = spot-holder i o.held;
      alone = λ e p q. sym p.is ∙ ap (unit_cell u) (o.alone p.place (member-spot p q));
    }

    pub hidden-one : u < 27 → (c : ℕ) (s : HiddenSingle g m u d c) → One (spots g m u d) s.member.place
    hidden-one h c s = record {
      held = member-spot s.member s.holder;
      alone = λ i t. same_place u i s.member.place h (spot-below i t) s.member.within
          (s.alone (unit_cell u i) (at_place u i (spot-below i t)) (spot-holder i t) ∙ sym s.member.is);
    }
