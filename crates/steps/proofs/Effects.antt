-- What each pattern loses, published or wide, is what the cells and masks of its step lose. Assumes nothing.
use mathlib.Core.Path.{◌≡◌}
use mathlib.Core.Logic.{◌⊎◌, ◌↔◌, ⊎_elim}
use mathlib.Core.Bool.{cond, ◌||◌}
use mathlib.Core.List.Memᴰ
use mathlib.Core.List.{List, ◌++◌, Memᴰ}
use Prim.Native.Nat.{ℕ, ◌<◌}
use borrow.Author.Tests.{eqb-false, ne_eqb}
use lib.Dec.{eqb}
use Rattle.candidates.specs.Masks.{minus, single}
use Rattle.candidates.proofs.Held.{Held, held-power}
use Rattle.candidates.proofs.Tests.{neither}
use Rattle.grid.specs.Units.{unit, in_unit, Member}
use Rattle.grid.proofs.Cells.{peer-sees, sees-peer, sees-shared, shared_sees}
use Rattle.grid.proofs.Units.{member_below, member-mem, mem-member}
use Rattle.steps.specs.Boards.{is_open}
use Rattle.steps.specs.Instances.{lone_step, place_step}
use Rattle.steps.specs.Published.{NakedPairLoss, LockedLoss, XWingLoss}
use Rattle.steps.specs.Wide.{LoneLoss, PlaceLoss}
use Rattle.steps.proofs.Digits.{held-except}
use Rattle.steps.proofs.Losses.{Lost, held-unless}
use Rattle.steps.proofs.Members.{in_either, outside}

module _ (g : List ℕ) where
  pub lone-lost : (c d : ℕ) → c < 81 → (x k : ℕ) → LoneLoss g c d x k ↔ Lost (is_open g) (lone_step c d).loses (lone_step c d).hits x k
  lone-lost c d h x k = (
    λ l. record {
      listed = sees-peer c x (member_below l.peer.within l.peer.second) (shared_sees l.peer);
      free = l.free;
      digit = (held-power d k).1 l.digit;
    },
    λ l.
        let p = peer-sees c x l.listed in
        record { peer = sees-shared c x h p.0 p.1; free = l.free; digit = (held-power d k).0 l.digit },
  )

  pub place-lost : (u d c : ℕ) (x k : ℕ) → PlaceLoss g d c x k ↔ Lost (is_open g) (place_step u d c).loses (place_step u d c).hits x k
  place-lost u d c x k = (
    λ l. record { listed = Memᴰ.head l.cell; free = l.free; digit = all.1 (l.digit, λ t. l.other ((held-power d k).0 t)) },
    λ l.
        let w = all.0 l.digit in
        record { cell = Memᴰ.eq_of_singleton l.listed; free = l.free; digit = w.0; other = λ e. w.1 ((held-power d k).1 e) },
  )
    where
      all : Held (minus 511 (single d)) k ↔ ((k < 9) × ¬ (Held (single d) k))
      all = held-except (single d) k

  -- n is a mask that holds a and b alone
  pub pair-lost : {u a b : ℕ} (c e n : ℕ) → u < 27 → ((d : ℕ) → Held n d ↔ ((d ≡ a) ⊎ (d ≡ b)))
      → (x k : ℕ) → NakedPairLoss g u c e a b x k ↔ Lost (is_open g) (λ x. cond (eqb x c || eqb x e) 0 n) (unit u) x k
  pair-lost {u} {a} {b} c e n h two x k = (
    λ l. record {
      listed = member-mem h l.member;
      free = l.free;
      digit = (held-unless (eqb x c || eqb x e) n k).1 ((neither (eqb x c) (eqb x e)).1 (ne_eqb x c l.other₁, ne_eqb x e l.other₂), (two k).1 l.digit);
    },
    λ l.
        let w = (held-unless (eqb x c || eqb x e) n k).0 l.digit in
        let v = (neither (eqb x c) (eqb x e)).0 w.0 in
        record {
          member = mem-member h l.listed;
          free = l.free;
          other₁ = eqb-false x c v.0;
          other₂ = eqb-false x e v.1;
          digit = (two k).0 w.1;
        },
  )

  pub locked-lost : {u v : ℕ} → u < 27 → v < 27 → (d x k : ℕ) → LockedLoss g u v d x k ↔ Lost (is_open g) (λ e. cond (in_unit u e) 0 (single d)) (unit v) x k
  locked-lost {u} {v} hu hv d x k = (
    λ l. record {
      listed = member-mem hv l.member;
      free = l.free;
      digit = (held-unless (in_unit u x) (single d) k).1 ((outside u x hu (member_below hv l.member)).1 l.outside, (held-power d k).1 l.digit);
    },
    λ l.
        let w = (held-unless (in_unit u x) (single d) k).0 l.digit in
        let p = mem-member hv l.listed in
        record { member = p; free = l.free; outside = (outside u x hu (member_below hv p)).0 w.0; digit = (held-power d k).0 w.1 },
  )

  -- the crossing lines are named in either order
  pub cross-lost : {u v x y f s : ℕ} → u < 27 → v < 27 → x < 27 → y < 27 → ((x ≡ f) × (y ≡ s)) ⊎ ((x ≡ s) × (y ≡ f))
      → (d e k : ℕ) → XWingLoss g u v x y d e k ↔ Lost (is_open g) (λ e. cond (in_unit u e || in_unit v e) 0 (single d)) (unit f ++ unit s) e k
  cross-lost {u} {v} {x} {y} {f} {s} hu hv hx hy same d e k = (
    λ l. record {
      listed = cells.1 l.member;
      free = l.free;
      digit =
          (held-unless (in_unit u e || in_unit v e) (single d) k).1
          ((neither (in_unit u e) (in_unit v e)).1 ((outside u e hu (below l.member)).1 l.outside₁, (outside v e hv (below l.member)).1 l.outside₂), (held-power d k).1 l.digit);
    },
    λ l.
        let p = cells.0 l.listed in
        let q = (held-unless (in_unit u e || in_unit v e) (single d) k).0 l.digit in
        let o = (neither (in_unit u e) (in_unit v e)).0 q.0 in
        record {
          member = p;
          free = l.free;
          outside₁ = (outside u e hu (below p)).0 o.0;
          outside₂ = (outside v e hv (below p)).0 o.1;
          digit = (held-power d k).0 q.1;
        },
  )
    where
      cells : Memᴰ e (unit f ++ unit s) ↔ (Member x e ⊎ Member y e)
      cells = in_either hx hy same e

      below : Member x e ⊎ Member y e → e < 81
      below = ⊎_elim (member_below hx) (member_below hy)
