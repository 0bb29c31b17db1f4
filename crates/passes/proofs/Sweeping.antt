-- Settling, sweep by sweep: its count, and no more candidates than before. Assumes nothing.
use mathlib.Core.Path.{◌≡◌, refl, sym, ap, ◌∙◌}
use mathlib.Core.Logic.{◌≢◌}
use mathlib.Core.List.{List}
use Prim.Native.Nat.{ℕ, zero, suc, ◌+◌, ◌-◌, ◌≤◌, ◌<◌}
use native.Mathlib.Omega.{arith}
use Rattle.candidates.proofs.Tests.{cond-true, by-test}
use Rattle.steps.specs.Boards.{same_masks, total}
use Rattle.steps.specs.Difficulty.{added, removed_each, removed_in}
use Rattle.steps.specs.Passes.{kinds, sweep, Sweeps, settle_in}
use Rattle.steps.specs.StepLists.{sweep_instances}
use Rattle.steps.specs.code.Logs.{log_after}
use Rattle.steps.proofs.Masks.{total-under, same_refl, same-eq}
use Rattle.steps.proofs.Reach.{Reach, start, reach-trans, reach-under, reach-length, sweep-reach}
use Rattle.steps.proofs.StepLogs.{sweeps_of, log-sweep, log-last}
use Rattle.passes.specs.code.Rounds.{Swept}
use Rattle.passes.specs.code.Tallies.{tally_with, Tally}
use Rattle.passes.proofs.Tallies.{counts-next}

module _ (g : List ℕ) where
  -- ---- a sweep more

  again : ℕ → List ℕ → Sweeps
  again n m = record { sweeps = (settle_in n g (sweep g m)).sweeps + 1; left = (settle_in n g (sweep g m)).left }

  module _ (i : ℕ) (m : List ℕ) (h : i < 730) where
    one_more : 730 - i ≡ suc (730 - (i + 1))
    one_more = omega arith

    stops_at : sweep g m ≡ m → settle_in (730 - i) g m ≡ record { sweeps = 1; left = sweep g m }
    unfolding settle_in again
    stops_at e = ap (λ (n : ℕ). settle_in n g m) one_more ∙ cond-true (same_masks m (sweep g m)) _ (again (730 - (i + 1)) m) (rw e (same_refl m))

    goes_on : sweep g m ≢ m → settle_in (730 - i) g m ≡ again (730 - (i + 1)) m
    unfolding settle_in again
    goes_on d =
        ap (λ (n : ℕ). settle_in n g m) one_more
        ∙ by-test (λ (x : Sweeps). x ≡ again (730 - (i + 1)) m) (same_masks m (sweep g m)) (record { sweeps = 1; left = sweep g m }) (again (730 - (i + 1)) m) (λ t. absurd (d (sym (same-eq m (sweep g m) t)))) (λ _. refl)

    module _ {n : List ℕ} {idle : ℕ} (s : Swept g m n idle) where
      pub settle-stops : idle ≡ 6 → settle_in (730 - i) g m ≡ record { sweeps = 1; left = n }
      settle-stops e = stops_at (sym s.swept ∙ s.stops e) ∙ ap (λ (o : List ℕ). record { sweeps = 1; left = o }) (sym s.swept)

      pub settle_goes : idle < 6 → settle_in (730 - i) g m ≡ record { sweeps = (settle_in (730 - (i + 1)) g n).sweeps + 1; left = (settle_in (730 - (i + 1)) g n).left }
      unfolding again
      settle_goes l =
          goes_on (λ e. (s.goes l).0 (s.swept ∙ e))
          ∙ ap (λ (o : List ℕ). record { sweeps = (settle_in (730 - (i + 1)) g o).sweeps + 1; left = (settle_in (730 - (i + 1)) g o).left }) (sym s.swept)

      -- the log likewise
      module _ (l : List ℕ) {l₁ whole : List ℕ} (noted : l₁ ≡ log_after g sweep_instances m l) (all : log_after g (sweeps_of g (settle_in (730 - i) g m).sweeps) m l ≡ whole) where
        pub log-stops : idle ≡ 6 → l₁ ≡ whole
        log-stops e = noted ∙ sym (log-last g m l) ∙ ap (λ (x : Sweeps). log_after g (sweeps_of g x.sweeps) m l) (sym (settle-stops e)) ∙ all

        pub log-goes : idle < 6 → log_after g (sweeps_of g (settle_in (730 - (i + 1)) g n).sweeps) n l₁ ≡ whole
        log-goes k =
            let rest = (settle_in (730 - (i + 1)) g n).sweeps in
            ap (λ (o : List ℕ). log_after g (sweeps_of g rest) o l₁) s.swept ∙ ap (log_after g (sweeps_of g rest) (sweep g m)) noted
            ∙ sym (log-sweep g rest m l) ∙ ap (λ (x : Sweeps). log_after g (sweeps_of g x.sweeps) m l) (sym (settle_goes k)) ∙ all

      -- and the counts
      module _ {t u whole : List ℕ} (tally : Tally m t) (counted : u ≡ tally_with (removed_each g kinds m) n t) (all : added t (removed_in g (settle_in (730 - i) g m).sweeps m) ≡ whole) where
        pub counts-stop : idle ≡ 6 → added u (removed_in g 0 n) ≡ whole
        counts-stop e = counts-next g 0 tally s.swept counted (ap (λ (x : Sweeps). added t (removed_in g x.sweeps m)) (sym (settle-stops e)) ∙ all)

        pub counts-go : idle < 6 → added u (removed_in g (settle_in (730 - (i + 1)) g n).sweeps n) ≡ whole
        counts-go k =
            counts-next g (settle_in (730 - (i + 1)) g n).sweeps tally s.swept counted (ap (λ (x : Sweeps). added t (removed_in g x.sweeps m)) (sym (settle_goes k)) ∙ all)

  pub settle-ends : (i : ℕ) (m : List ℕ) → 730 ≤ i → settle_in (730 - i) g m ≡ record { sweeps = 0; left = m }
  unfolding settle_in
  settle-ends i m h =
      let e : 730 - i ≡ 0 = omega arith in
      ap (λ (n : ℕ). settle_in n g m) e

  -- ---- what settling leaves

  settle-reach : (n : ℕ) (m : List ℕ) → Reach g m (settle_in n g m).left
  unfolding settle_in again
  settle-reach zero m = start
  settle-reach (suc n) m =
      by-test (λ (s : Sweeps). Reach g m s.left) (same_masks m (sweep g m)) (record { sweeps = 1; left = sweep g m }) (again n m)
      (λ t. sweep-reach g m) (λ t. reach-trans g (sweep-reach g m) (settle-reach n (sweep g m)))

  pub settle-fewer : (n : ℕ) (m : List ℕ) → total (settle_in n g m).left ≤ total m
  settle-fewer n m = let r = settle-reach n m in total-under (settle_in n g m).left m (reach-length g r) (reach-under g r)
