-- Settling: it ends settled, with the sweeps and removals that it reports. Assumes nothing.
use mathlib.Core.Path.{◌≡◌, refl, sym, ap, ◌∙◌, subst}
use mathlib.Core.Logic.{◌≢◌}
use mathlib.Core.Bool.{false}
use mathlib.Core.List.Memᴰ
use mathlib.Core.List.{List, [], ◌∷◌, Memᴰ}
use mathlib.Core.Logic.{⊎_elim}
use Prim.Native.Nat.{ℕ, zero, suc, ◌+◌, ◌-◌, ◌≤◌, ◌<◌}
use native.Mathlib.Omega.{arith}
use lib.ListN.{length}
use Rattle.candidates.proofs.Tests.{by-test}
use Rattle.steps.specs.Boards.{is_open, Under, total, same_masks}
use Rattle.steps.specs.Instances.{Instance, step_of}
use Rattle.steps.specs.Loops.{each}
use Rattle.steps.specs.Passes.{Kind, Lone, Place, Pair, Pointing, Claiming, Cross, kinds, instances, instance_taken, pass, sweep, Settled, Sweeps, settle_in, swept}
use Rattle.steps.proofs.Loops.{each_keeps}
use Rattle.steps.proofs.Masks.{under-refl, under-trans, under-antisym, total-less, same-eq, differ}
use Rattle.steps.proofs.Reach.{Reach, reach-trans, reach-under, reach-length, pass-reach, sweep-reach}
use Rattle.steps.proofs.Steps.{take-under, take-length}

-- ---- a sweep that changes nothing leaves nothing to do

-- a loop that shrinks at each turn and ends where it began does nothing at any turn
pub each-still : {A : Type 0} (f : A → List ℕ → List ℕ) → ((x : A) (m : List ℕ) → Under (f x m) m) → ((x : A) (m : List ℕ) → length (f x m) ≡ length m)
    → (xs : List A) (m : List ℕ) → each f xs m ≡ m → (x : A) → Memᴰ x xs → f x m ≡ m
unfolding each
each-still f down long [] m e x k = absurd (Memᴰ.not-nil k)
each-still {A} f down long (y ∷ ys) m e x k =
    ⊎_elim (λ (q : x ≡ y). ap (λ (w : A). f w m) q ∙ first) (λ r. each-still f down long ys m (ap (each f ys) (sym first) ∙ e) x r) (Memᴰ.cases_cons k)
  where
    lower : (zs : List A) (n : List ℕ) → Under (each f zs n) n
    lower zs n = each_keeps f (λ o. Under o n) zs (λ z k o p. under-trans (down z o) p) n (under-refl n)

    first : f y m ≡ m
    first = under-antisym (long y m) (down y m) (subst (λ (n : List ℕ). Under n (f y m)) e (lower ys (f y m)))

-- what an induction over the sweeps shows of settling
pub record SettledIn (g m : List ℕ) (s : Sweeps) : Type 0 where
  pub ends : Settled g s.left
  pub reach : Reach g m s.left
  pub some : 0 < s.sweeps
  pub bound : s.sweeps + total s.left ≤ total m + 1
  pub final : s.left ≡ swept g (s.sweeps - 1) m
  pub stops : sweep g (swept g (s.sweeps - 1) m) ≡ swept g (s.sweeps - 1) m
  pub goes : (j : ℕ) → j < s.sweeps - 1 → sweep g (swept g j m) ≢ swept g j m

module _ (g : List ℕ) where
  pub all_kinds : (k : Kind) → Memᴰ k kinds
  all_kinds Lone = Memᴰ.head refl
  all_kinds Place = Memᴰ.tail (Memᴰ.head refl)
  all_kinds Pair = Memᴰ.tail (Memᴰ.tail (Memᴰ.head refl))
  all_kinds Pointing = Memᴰ.tail (Memᴰ.tail (Memᴰ.tail (Memᴰ.head refl)))
  all_kinds Claiming = Memᴰ.tail (Memᴰ.tail (Memᴰ.tail (Memᴰ.tail (Memᴰ.head refl))))
  all_kinds Cross = Memᴰ.tail (Memᴰ.tail (Memᴰ.tail (Memᴰ.tail (Memᴰ.tail (Memᴰ.head refl)))))

  pub sweep-settled : (m : List ℕ) → sweep g m ≡ m → Settled g m
  unfolding sweep pass
  sweep-settled m e = record { still = λ k x h. one k x h }
    where
      whole : (k : Kind) → pass g k m ≡ m
      whole k = each-still (pass g) (λ k n. reach-under g (pass-reach g k n)) (λ k n. reach-length g (pass-reach g k n)) kinds m e k (all_kinds k)

      one : (k : Kind) (x : Instance) → Memᴰ x (instances k) → instance_taken g x m ≡ m
      one k x h = each-still (instance_taken g) (λ y n. take-under (is_open g) (step_of y) n) (λ y n. take-length (is_open g) (step_of y) n) (instances k) m (whole k) x h

  -- ---- sweeps as module 9 counts them

  settles-now : (m : List ℕ) → m ≡ sweep g m → SettledIn g m (record { sweeps = 1; left = sweep g m })
  unfolding swept
  settles-now m e =
      record {
        ends = subst (λ (n : List ℕ). Settled g n) e (sweep-settled m (sym e));
        reach = sweep-reach g m;
        some = omega arith;
        bound = omega (arith, ap total e);
        final = sym e;
        stops = sym e;
        goes = λ j h. absurd (omega arith);
      }

  settles-later : (m : List ℕ) (s : Sweeps) → m ≢ sweep g m → total (sweep g m) < total m → SettledIn g (sweep g m) s → SettledIn g m (record { sweeps = s.sweeps + 1; left = s.left })
  unfolding swept
  settles-later m s d less t =
      record {
        ends = t.ends;
        reach = reach-trans g (sweep-reach g m) t.reach;
        some = omega arith;
        bound = omega (arith, t.bound);
        final = t.final ∙ sym (ap (λ (j : ℕ). swept g j m) again);
        stops = subst (λ (j : ℕ). sweep g (swept g j m) ≡ swept g j m) (sym again) t.stops;
        goes = goes;
      }
    where
      again : s.sweeps + 1 - 1 ≡ suc (s.sweeps - 1)
      again = omega (arith, t.some)

      goes : (j : ℕ) → j < s.sweeps + 1 - 1 → sweep g (swept g j m) ≢ swept g j m
      goes zero h = λ e. d (sym e)
      goes (suc j) h = t.goes j (omega arith)

  pub settles-in : (n : ℕ) (m : List ℕ) → total m < n → SettledIn g m (settle_in n g m)
  unfolding settle_in
  settles-in zero m h = absurd (omega arith)
  settles-in (suc n) m h =
      by-test (SettledIn g m) _ _ _ (λ t. settles-now m (same-eq m (sweep g m) t))
      (λ t. settles-later m (settle_in n g (sweep g m)) (differ m (sweep g m) t) (less t) (settles-in n (sweep g m) (omega (arith, less t))))
    where
      less : same_masks m (sweep g m) ≡ false → total (sweep g m) < total m
      less t = total-less (sweep g m) m (reach-length g (sweep-reach g m)) (reach-under g (sweep-reach g m)) (λ e. differ m (sweep g m) t (sym e))
