-- What the cases share: a call on the fresh board of a grid by the values of its givens and masks, and settling by its sweeps. Assumes nothing.
use mathlib.Core.Path.{◌≡◌, refl, sym, ap, ◌∙◌}
use mathlib.Core.Bool.{false, not}
use mathlib.Core.List.{List}
use Prim.Native.Nat.{ℕ, suc, ◌+◌}
use lib.IntN.{ℤ}
use Rattle.steps.specs.Boards.{givens_of, fresh, same_masks}
use Rattle.steps.specs.Calls.{Call, Outcome, naked_pairs_call, box_line_call, x_wing_call, advanced_call, chain_call, wide, elimination_outcome, outcome}
use Rattle.steps.specs.Chains.{chains}
use Rattle.steps.specs.Loops.{each}
use Rattle.steps.specs.Passes.{Kind, Lone, Place, Pair, Pointing, Claiming, Cross, pass, sweep, settle_in, settle}
use Rattle.steps.specs.Ported.{naked_pairs, box_lines, x_wings}
use Rattle.candidates.proofs.Tests.{by-test}
use Rattle.steps.proofs.Masks.{same_refl}
use Rattle.cases.specs.Cases.{fresh_masks, on_fresh, Idle, AllIdle}

-- the givens and the fresh masks of a grid, written out
pub record Values (clues : List ℤ) (g m : List ℕ) : Type 0 where
  pub givens : givens_of clues ≡ g
  pub masks : fresh g ≡ m

module _ {clues : List ℤ} {g m : List ℕ} (v : Values clues g m) where
  pub fresh-value : fresh_masks clues ≡ m
  fresh-value = ap fresh v.givens ∙ v.masks

  pub call-value : (k : Call) → on_fresh k clues ≡ outcome k g m
  call-value k = rw (v.givens, v.masks)

  -- ---- passes that remove nothing

  pub idle : (k : Call) → outcome k g m ≡ elimination_outcome m m → Idle k clues
  idle k e =
      record {
        flag = ap (λ (o : Outcome). o.flag) (call-value k ∙ e) ∙ ap not (same_refl m);
        masks = ap (λ (o : Outcome). o.masks) (call-value k ∙ e) ∙ sym fresh-value;
      }

  pub all-idle : naked_pairs g m ≡ m → box_lines g m ≡ m → x_wings g m ≡ m → chains g m ≡ m → ((k : Kind) → pass g k m ≡ m) → AllIdle clues
  unfolding outcome
  all-idle np bl xw ch w =
      record {
        naked_pairs = idle naked_pairs_call (ap (elimination_outcome m) np);
        box_line = idle box_line_call (ap (elimination_outcome m) bl);
        x_wing = idle x_wing_call (ap (elimination_outcome m) xw);
        chain = idle chain_call (ap (elimination_outcome m) ch);
        wides = λ k. idle (wide k) (ap (elimination_outcome m) (w k));
      }

-- progress or not, on the fresh board `apply_advanced_techniques` leaves the fresh masks
pub advanced-fresh : (clues : List ℤ) → (on_fresh advanced_call clues).masks ≡ fresh_masks clues
unfolding outcome
advanced-fresh clues = by-test (λ (n : List ℕ). n ≡ fresh_masks clues) (on_fresh advanced_call clues).flag (fresh_masks clues) (fresh_masks clues) (λ t. refl) (λ t. refl)

-- ---- the six passes

pub every-pass : (g m : List ℕ) → pass g Lone m ≡ m → pass g Place m ≡ m → pass g Pair m ≡ m → pass g Pointing m ≡ m → pass g Claiming m ≡ m → pass g Cross m ≡ m → (k : Kind) → pass g k m ≡ m
every-pass g m l p q r s c Lone = l
every-pass g m l p q r s c Place = p
every-pass g m l p q r s c Pair = q
every-pass g m l p q r s c Pointing = r
every-pass g m l p q r s c Claiming = s
every-pass g m l p q r s c Cross = c

-- ---- settling

module _ (g : List ℕ) where
  pub sweep-by : (m : List ℕ) {a b c d e f : List ℕ} → pass g Lone m ≡ a → pass g Place a ≡ b → pass g Pair b ≡ c → pass g Pointing c ≡ d → pass g Claiming d ≡ e → pass g Cross e ≡ f → sweep g m ≡ f
  unfolding sweep each
  sweep-by m p q r s t u = ap (pass g Cross) (ap (pass g Claiming) (ap (pass g Pointing) (ap (pass g Pair) (ap (pass g Place) p ∙ q) ∙ r) ∙ s) ∙ t) ∙ u

  -- a sweep that changes nothing is the last
  pub last-sweep : (n : ℕ) (m : List ℕ) → sweep g m ≡ m → settle_in (suc n) g m ≡ record { sweeps = 1; left = m }
  unfolding settle_in
  last-sweep n m e = rw (e, same_refl m)

  -- one that changes something is not
  pub next-sweep : (n : ℕ) (m : List ℕ) {o : List ℕ} → sweep g m ≡ o → same_masks m o ≡ false → settle_in (suc n) g m ≡ record { sweeps = (settle_in n g o).sweeps + 1; left = (settle_in n g o).left }
  unfolding settle_in
  next-sweep n m e d = rw (e, d)

  pub settled-still : (m : List ℕ) → ((k : Kind) → pass g k m ≡ m) → settle g m ≡ record { sweeps = 1; left = m }
  settled-still m w = last-sweep 729 m (sweep-by m (w Lone) (w Place) (w Pair) (w Pointing) (w Claiming) (w Cross))
