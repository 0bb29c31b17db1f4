-- The effective steps of instances that run one after the other, and the log that loops of them leave. Assumes nothing.
use mathlib.Core.Path.{◌≡◌, refl, sym, ap, ◌∙◌}
use mathlib.Core.Bool.{Bool, true, false, cond}
use mathlib.Core.List.Memᴰ
use mathlib.Core.List.{List, [], ◌∷◌, ◌++◌, Memᴰ}
use mathlib.Core.Logic.{⊎_elim}
use Prim.Native.Nat.{ℕ, zero, suc, ◌+◌, ◌-◌, ◌≤◌, ◌<◌}
use native.Mathlib.Numerals.{add-one}
use native.Mathlib.Omega.{arith}
use lib.ListN.{length}
use Rattle.candidates.proofs.Tests.{by-test, cond-true, cond-false}
use Rattle.steps.specs.Boards.{is_open, same_masks, total}
use Rattle.steps.specs.Instances.{Instance, step_of}
use Rattle.steps.specs.Loops.{each, for, range, up_to}
use Rattle.steps.specs.Passes.{kinds, instances, instance_taken, pass, sweep, swept, Sweeps, settle_in, settle}
use Rattle.grid.proofs.Lists.{range-on, range-end}
use Rattle.steps.specs.StepLists.{step_bytes, sweep_instances, effective, settling_instances}
use Rattle.steps.specs.code.Logs.{noted, log_after}
use Rattle.steps.proofs.Loops.{each_append}
use Rattle.steps.proofs.Masks.{same-eq, same_refl, differ, total-less}
use Rattle.steps.proofs.Settling.{each-still}
use Rattle.steps.proofs.Steps.{take-under, take-length}
use Rattle.steps.proofs.Turns.{each_in}

module _ (g : List ℕ) where
  -- ---- effective steps

  -- one instance is logged or not
  pub effective-one : (x : Instance) (m : List ℕ) → effective g (x ∷ []) m ≡ cond (same_masks m (instance_taken g x m)) [] (x ∷ [])
  unfolding effective
  effective-one x m = refl

  -- those of two lists of instances, one after the other
  pub effective-append : (xs ys : List Instance) (m : List ℕ) → effective g (xs ++ ys) m ≡ effective g xs m ++ effective g ys (each (instance_taken g) xs m)
  unfolding effective each
  effective-append [] ys m = refl
  effective-append (x ∷ xs) ys m = go (same_masks m n) (effective-append xs ys n)
    where
      n : List ℕ
      n = instance_taken g x m

      later : List Instance
      later = effective g ys (each (instance_taken g) xs n)

      go : (t : Bool) → effective g (xs ++ ys) n ≡ effective g xs n ++ later → cond t (effective g (xs ++ ys) n) (x ∷ effective g (xs ++ ys) n) ≡ cond t (effective g xs n) (x ∷ effective g xs n) ++ later
      go true e = e
      go false e = ap (λ (l : List Instance). x ∷ l) e

  -- they are some of the instances
  pub effective-in : (xs : List Instance) (m : List ℕ) (x : Instance) → Memᴰ x (effective g xs m) → Memᴰ x xs
  unfolding effective
  effective-in [] m x k = absurd (Memᴰ.not-nil k)
  effective-in (y ∷ ys) m x k = go (same_masks m n) k (effective-in ys n x)
    where
      n : List ℕ
      n = instance_taken g y m

      go : (t : Bool) → Memᴰ x (cond t (effective g ys n) (y ∷ effective g ys n)) → (Memᴰ x (effective g ys n) → Memᴰ x ys) → Memᴰ x (y ∷ ys)
      go true k ih = Memᴰ.tail (ih k)
      go false k ih = ⊎_elim (λ e. Memᴰ.head e) (λ r. Memᴰ.tail (ih r)) (Memᴰ.cases_cons k)

  -- each of them removes a candidate
  pub effective-few : (xs : List Instance) (m : List ℕ) → length (effective g xs m) + total (each (instance_taken g) xs m) ≤ total m
  unfolding effective each
  effective-few [] m = omega arith
  effective-few (x ∷ xs) m = go (same_masks m n) refl (effective-few xs n)
    where
      n : List ℕ
      n = instance_taken g x m

      rest : List Instance
      rest = effective g xs n

      go : (t : Bool) → same_masks m n ≡ t → length rest + total (each (instance_taken g) xs n) ≤ total n → length (cond t rest (x ∷ rest)) + total (each (instance_taken g) xs n) ≤ total m
      go true t ih = omega (arith, ih, ap total (same-eq m n t))
      go false t ih = omega (arith, ih, total-less n m (take-length (is_open g) (step_of x) m) (take-under (is_open g) (step_of x) m) (λ e. differ m n t (sym e)))

  silent : (m : List ℕ) (xs : List Instance) → ((x : Instance) → Memᴰ x xs → instance_taken g x m ≡ m) → effective g xs m ≡ []
  unfolding effective
  silent m [] h = refl
  silent m (x ∷ xs) h =
      let n = instance_taken g x m in
      let e = h x (Memᴰ.head refl) in
      cond-true (same_masks m n) (effective g xs n) (x ∷ effective g xs n) (ap (same_masks m) e ∙ same_refl m) ∙ ap (effective g xs) e ∙ silent m xs (λ y k. h y (Memᴰ.tail k))

  -- a block of instances that leaves the masks alone has no effective step
  pub idle-silent : (xs : List Instance) (m : List ℕ) → each (instance_taken g) xs m ≡ m → effective g xs m ≡ []
  idle-silent xs m e = silent m xs (each-still (instance_taken g) (λ y n. take-under (is_open g) (step_of y) n) (λ y n. take-length (is_open g) (step_of y) n) xs m e)

  -- ---- the log of a loop: its effective steps are noted, block after block

  pub log-append : (xs ys : List Instance) (m l : List ℕ) → log_after g (xs ++ ys) m l ≡ log_after g ys (each (instance_taken g) xs m) (log_after g xs m l)
  unfolding log_after
  log-append xs ys m l =
      ap (λ (zs : List Instance). each (λ x. noted (step_bytes x)) zs l) (effective-append xs ys m)
      ∙ each_append (λ x. noted (step_bytes x)) (effective g xs m) (effective g ys (each (instance_taken g) xs m)) l

  -- a block of instances that leaves the masks alone notes nothing
  pub log-idle : (xs : List Instance) (m l : List ℕ) → each (instance_taken g) xs m ≡ m → log_after g xs m l ≡ l
  unfolding log_after each
  log-idle xs m l e = ap (λ (zs : List Instance). each (λ x. noted (step_bytes x)) zs l) (idle-silent xs m e)

  -- one instance that removes something, and one that does not
  pub log-one : (x : Instance) (m l : List ℕ) → same_masks m (instance_taken g x m) ≡ false → log_after g (x ∷ []) m l ≡ noted (step_bytes x) l
  unfolding log_after each
  log-one x m l t = ap (λ (zs : List Instance). each (λ y. noted (step_bytes y)) zs l) (effective-one x m ∙ cond-false (same_masks m (instance_taken g x m)) [] (x ∷ []) t)

  pub log-none : (x : Instance) (m l : List ℕ) → instance_taken g x m ≡ m → log_after g (x ∷ []) m l ≡ l
  unfolding each
  log-none x m l e = log-idle (x ∷ []) m l e

  -- a loop over blocks B, turn i being block i: what the log will be at its end stays the same
  module _ (B : ℕ → List Instance) (n i : ℕ) (m l : List ℕ) {whole : List ℕ} where
    pub log-done : {m₁ l₁ : List ℕ} → i < n → m₁ ≡ each (instance_taken g) (B i) m → l₁ ≡ log_after g (B i) m l → log_after g (for (range (n - i) i) B) m l ≡ whole → log_after g (for (range (n - (i + 1)) (i + 1)) B) m₁ l₁ ≡ whole
    unfolding for
    log-done {m₁} {l₁} h e k w =
        let rest = for (range (n - (i + 1)) (i + 1)) B in
        ap (λ (o : List ℕ). log_after g rest o l₁) e ∙ ap (log_after g rest (each (instance_taken g) (B i) m)) k
        ∙ sym (log-append (B i) rest m l) ∙ ap (λ (is : List ℕ). log_after g (for is B) m l) (sym (range-on n i h)) ∙ w

    pub log-over : n ≤ i → log_after g (for (range (n - i) i) B) m l ≡ whole → l ≡ whole
    unfolding log_after for effective each
    log-over h w = ap (λ (is : List ℕ). log_after g (for is B) m l) (sym (range-end n i h)) ∙ w

  -- ---- passes, sweeps and settling

  pub sweep-each : (m : List ℕ) → each (instance_taken g) sweep_instances m ≡ sweep g m
  unfolding sweep_instances sweep
  sweep-each m = each_in (instance_taken g) kinds instances (pass g) (λ k n. unfold pass in refl) m

  -- n sweeps
  abbrev pub sweeps_of : ℕ → List Instance
  sweeps_of n = for (up_to n) λ _. sweep_instances

  repeated : (B : List Instance) (n j k : ℕ) → for (range n j) (λ _. B) ≡ for (range n k) (λ _. B)
  unfolding for
  repeated B zero j k = refl
  repeated B (suc n) j k = ap (λ (xs : List Instance). B ++ xs) (repeated B n (suc j) (suc k))

  pub sweeps-more : (n : ℕ) → sweeps_of (suc n) ≡ sweep_instances ++ sweeps_of n
  unfolding for
  sweeps-more n = ap (λ (xs : List Instance). sweep_instances ++ xs) (repeated sweep_instances n 1 0)

  -- the log of one sweep, and then n more
  pub log-sweep : (n : ℕ) (m l : List ℕ) → log_after g (sweeps_of (n + 1)) m l ≡ log_after g (sweeps_of n) (sweep g m) (log_after g sweep_instances m l)
  log-sweep n m l =
      ap (λ (k : ℕ). log_after g (sweeps_of k) m l) (add-one n) ∙ ap (λ (xs : List Instance). log_after g xs m l) (sweeps-more n)
      ∙ log-append sweep_instances (sweeps_of n) m l ∙ ap (λ (o : List ℕ). log_after g (sweeps_of n) o (log_after g sweep_instances m l)) (sweep-each m)

  pub log-nothing : (m l : List ℕ) → log_after g (sweeps_of 0) m l ≡ l
  unfolding for log_after effective each
  log-nothing m l = refl

  -- the log of the last sweep
  pub log-last : (m l : List ℕ) → log_after g (sweeps_of 1) m l ≡ log_after g sweep_instances m l
  log-last m l = log-sweep 0 m l ∙ log-nothing (sweep g m) (log_after g sweep_instances m l)

  swept-from : (n k : ℕ) (m : List ℕ) → each (λ (_ : ℕ). sweep g) (range n k) m ≡ swept g n m
  unfolding each swept
  swept-from zero k m = refl
  swept-from (suc n) k m = swept-from n (suc k) (sweep g m)

  pub swept-each : (n : ℕ) (m : List ℕ) → each (instance_taken g) (sweeps_of n) m ≡ swept g n m
  swept-each n m = each_in (instance_taken g) (up_to n) (λ _. sweep_instances) (λ _. sweep g) (λ _. sweep-each) m ∙ swept-from n 0 m

  -- settling is so many sweeps
  pub settled-swept : (n : ℕ) (m : List ℕ) → (settle_in n g m).left ≡ swept g (settle_in n g m).sweeps m
  unfolding settle_in swept
  settled-swept zero m = refl
  settled-swept (suc n) m =
      by-test (λ (s : Sweeps). s.left ≡ swept g s.sweeps m) (same_masks m (sweep g m)) (record { sweeps = 1; left = sweep g m }) (record { sweeps = (settle_in n g (sweep g m)).sweeps + 1; left = (settle_in n g (sweep g m)).left })
      (λ t. refl) (λ t. settled-swept n (sweep g m) ∙ sym (ap (λ (j : ℕ). swept g j m) (add-one (settle_in n g (sweep g m)).sweeps)))

  pub settling-each : (m : List ℕ) → each (instance_taken g) (settling_instances g m) m ≡ (settle g m).left
  unfolding settling_instances
  settling-each m = swept-each (settle g m).sweeps m ∙ sym (settled-swept 730 m)
