-- Lone does nothing at a cell that is not due: it holds two digits, or one that no peer holds. At a cell that is due, the digits that it does not hold do nothing, or where it holds none, those that no open cell near it holds. Assumes nothing.
use mathlib.Core.Path.{◌≡◌, refl, sym, ap, ◌∙◌, subst}
use mathlib.Core.Logic.{◌≢◌}
use mathlib.Core.Bool.{Bool, true, false, true≢false, and-true}
use mathlib.Core.List.{List, Memᴰ}
use Prim.Native.Nat.{ℕ, ◌^◌, ◌<◌}
use native.Mathlib.Decide.{ℕ_discrete}
use native.Mathlib.Omega.{arith}
use borrow.Author.Tests.{eq-eqb, eqb-false}
use lib.Bits.{bit_and}
use lib.Dec.{eqb}
use Rattle.candidates.specs.Masks.{has, minus, union, count, single, tail, Sub}
use Rattle.candidates.proofs.Counts.{count_none, count-zero, count-sub, count-power, count-minus, count-some, count-tail}
use Rattle.candidates.proofs.Held.{Held, none-held, held-sub}
use Rattle.candidates.proofs.Order.{sub_trans, sub_refl, minus-sub, union-sub}
use Rattle.candidates.proofs.Tests.{by-test, cond-true, cond-false}
use Rattle.grid.specs.Cells.{peers}
use Rattle.grid.proofs.Cells.{peer-sees, sees-shared}
use Rattle.grid.proofs.Units.{member-in}
use Rattle.steps.specs.Boards.{at, is_open, Under}
use Rattle.steps.specs.Instances.{lone, lone_step, step_of}
use Rattle.steps.specs.Loops.{up_to}
use Rattle.steps.specs.Passes.{instance_taken}
use Rattle.steps.specs.Steps.{applies, lacks, lose_all, step_taken}
use Rattle.steps.proofs.Loops.{in-up_to, each-idle}
use Rattle.steps.proofs.Steps.{all_none}
use Rattle.steps.proofs.Taking.{takes-under}
use Rattle.cells.specs.code.Places.{open_mask, unit_masks}
use Rattle.cells.specs.code.Unions.{joined}
use Rattle.cells.proofs.Places.{open-mask, unit-mask}
use Rattle.cells.proofs.NineBits.{held-meet, not-held, only_none, within-only, nine-lt}
use Rattle.cells.proofs.Shared.{union-at}
use Rattle.lanes.proofs.Families.{take-off}
use Rattle.lone_place.specs.code.Turns.{lone_cell}
use Rattle.lone_place.specs.code.Due.{Near, lone_due, loose_in, loose_near, lone_held}
use Rattle.lone_place.proofs.Peers.{not_own, in-around}

-- ---- masks only shrink

pub lone-under : (g : List ℕ) (c : ℕ) (m : List ℕ) → Under (lone_cell g c m) m
unfolding lone_cell
lone-under g c m = takes-under (is_open g) (λ d. step_of (lone c d)) (up_to 9) m

pub near-under : {m n : List ℕ} {c near : ℕ} → Under n m → Near m c near → Near n c near
near-under {m} {n} {c} below w = record { holds = λ e d k l p q. w.holds e d k l (held-sub d (below.at c) p) (held-sub d (below.at e) q) }

-- ---- a cell that is not due

-- what is known of a mask that is not due: it has a digit, and where it has one, that is not among these
record Idle (x near : ℕ) : Type 0 where
  some : count x ≢ 0
  apart : count x ≡ 1 → bit_and x near ≡ 0

module _ (x near : ℕ) (small : x < 2 ^ 16) (t : lone_due x near ≡ false) where
  -- what decides is not empty
  not_within : (y : ℕ) → Sub (tail x) y → Sub (minus x near) y → count y ≢ 0
  not_within y p q e = true≢false (sym (eq-eqb (count (union (tail x) (minus x near))) 0 (omega (arith, count-sub (union-sub p q)))) ∙ t)

  idle : Idle x near
  idle = record { some = some; apart = λ w. go w (ℕ_discrete (count (bit_and x near)) 0) }
    where
      some : count x ≢ 0
      some e = not_within x (minus-sub x (single _)) (minus-sub x near) e

      go : count x ≡ 1 → Dec (count (bit_and x near) ≡ 0) → bit_and x near ≡ 0
      go w (yes e) = count-zero (bit_and x near) e
      go w (no e) =
          let a = count-minus x near in
          let b = count-tail x (count-some x (omega arith)) small in
          let nothing : tail x ≡ minus x near = count-zero (tail x) (omega arith) ∙ sym (count-zero (minus x near) (omega arith)) in
          absurd (not_within (minus x near) (subst (λ (y : ℕ). Sub y (minus x near)) (sym nothing) (sub_refl (minus x near))) (sub_refl (minus x near)) (omega arith))

module _ (g m : List ℕ) (c : ℕ) where
  -- where an instance applies, the cell holds its digit alone
  whole : (d : ℕ) → applies (lone_step c d) m ≡ true → Sub (bit_and (at m c) 511) (2 ^ d)
  whole d t = within-only (at m c) d (sym (and-true (lacks m c (minus 511 (single d)))) ∙ t)

  -- an instance that loses nothing if it applies
  pub no-loss : (d : ℕ) → (applies (lone_step c d) m ≡ true → (e : ℕ) → Memᴰ e (peers c) → is_open g e ≡ true → Held (at m e) d → ⊥) → instance_taken g (lone c d) m ≡ m
  unfolding step_of step_taken
  no-loss d none =
      by-test (λ (n : List ℕ). n ≡ m) (applies (lone_step c d) m) (lose_all (is_open g) (peers c) (λ _. single d) m) m
      (λ t. all_none (is_open g) (peers c) (λ _. single d) m (λ e k f. not-held (at m e) d (none t e k f))) (λ t. refl)

  module _ (near : ℕ) (n : Near m c near) (w : Idle (bit_and (at m c) 511) near) (d : ℕ) (l : d < 9) (t : applies (lone_step c d) m ≡ true) where
    one : count (bit_and (at m c) 511) ≡ 1
    one = let a = w.some in omega (arith, count-sub (whole d t), count-power d)

    its : Held (bit_and (at m c) 511) d
    its = go (has (bit_and (at m c) 511) d) refl
      where
        go : (b : Bool) → has (bit_and (at m c) 511) d ≡ b → Held (bit_and (at m c) 511) d
        go true e = e
        go false e = absurd (w.some (ap count (only_none d (whole d t) e) ∙ count_none))

    peer : (e : ℕ) → Memᴰ e (peers c) → Held (at m e) d → ⊥
    peer e k s =
        none-held d (subst (λ (y : ℕ). Held y d) (w.apart one) ((held-meet (bit_and (at m c) 511) near d).1 (its, n.holds e d k l ((held-meet (at m c) 511 d).0 its).0 s)))

  pub not-due : (near : ℕ) → Near m c near → lone_due (bit_and (at m c) 511) near ≡ false → lone_cell g c m ≡ m
  unfolding lone_cell
  not-due near n t =
      each-idle (λ d. instance_taken g (lone c d)) (up_to 9) m
      (λ d k. no-loss d (λ a e p f. peer near n (idle (bit_and (at m c) 511) near (nine-lt (at m c)) t) d (in-up_to 9 d k) a e p))

-- ---- digits that lose nothing

-- no instance of a cell changes it
pub keeps-own : (g : List ℕ) (c d : ℕ) (m : List ℕ) → at (instance_taken g (lone c d) m) c ≡ at m c
unfolding step_of
keeps-own g c d m = take-off (is_open g) (lone_step c d) m c (not_own c)

module _ (g m : List ℕ) (c : ℕ) (h : c < 81) where
  -- what an open peer holds
  in-loose : (e d : ℕ) → Memᴰ e (peers c) → is_open g e ≡ true → Held (at m e) d → Held (loose_near g m c) d
  unfolding joined
  in-loose e d k f t =
      let p = peer-sees c e k in
      let q = sees-shared c e h p.0 p.1 in
      let j = q.second in
      held-sub d (sub_trans (union-at (at (unit_masks g m q.shared)) 9 j.place j.within) (in-around (loose_in g m) c q.shared q.within (member-in q.within q.first)))
      (subst (λ (x : ℕ). Held x d) (sym (unit-mask g m q.shared j.place j.within ∙ ap (λ (y : ℕ). open_mask g m y) j.is ∙ open-mask g m e p.0 ∙ cond-true (is_open g e) (at m e) 0 f)) t)

  -- as long as the cell stays as it is, and masks only shrink
  pub not-held-idle : (d : ℕ) → has (lone_held g m c) d ≡ false → (n : List ℕ) → Under n m → at n c ≡ at m c → instance_taken g (lone c d) n ≡ n
  not-held-idle d none n below own = no-loss g n c d (go (eqb (bit_and (at m c) 511) 0) refl)
    where
      go : (b : Bool) → eqb (bit_and (at m c) 511) 0 ≡ b → applies (lone_step c d) n ≡ true → (e : ℕ) → Memᴰ e (peers c) → is_open g e ≡ true → Held (at n e) d → ⊥
      go true b t e k f s =
          true≢false (sym (in-loose e d k f (held-sub d (below.at e) s)) ∙ sym (ap (λ (x : ℕ). has x d) (cond-true (eqb (bit_and (at m c) 511) 0) (loose_near g m c) (bit_and (at m c) 511) b)) ∙ none)
      go false b t e k f s =
          eqb-false (bit_and (at m c) 511) 0 b
          (only_none d (subst (λ (x : ℕ). Sub (bit_and x 511) (2 ^ d)) own (whole g n c d t))
          (sym (ap (λ (x : ℕ). has x d) (cond-false (eqb (bit_and (at m c) 511) 0) (loose_near g m c) (bit_and (at m c) 511) b)) ∙ none))
