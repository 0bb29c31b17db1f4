-- What is promised of the difficulty figure: `difficulties`. Assumes nothing.
use mathlib.Core.Path.{◌≡◌, refl, sym, ap, ap₂, ◌∙◌, subst}
use mathlib.Core.Bool.{Bool, true, false, cond}
use mathlib.Core.List.Memᴰ
use mathlib.Core.List.{List, [], ◌∷◌, ◌++◌, map, Memᴰ}
use mathlib.Core.Logic.{◌≢◌, ⊎_elim}
use Prim.Native.Nat.{ℕ, zero, suc, ◌+◌, ◌*◌, ◌/◌, ◌%◌, ◌≤◌, ◌<◌}
use native.Mathlib.Nat.{mod-lt, div-add-mod'}
use native.Mathlib.Omega.{arith}
use borrow.Author.Tests.{eqb-false}
use lib.Dec.{eqb}
use lib.ListN.{length, get_or}
use Rattle.candidates.proofs.Tests.{by-test}
use Rattle.stops.specs.Answer.{Answer, gives, stop, then}
use Rattle.stops.specs.declared.Stop.TheVariants.{NoOpenCell}
use Rattle.stops.proofs.Answers.{gives_same, stop-gives}
use Rattle.steps.specs.Boards.{Board, givens, is_open, same_masks, total, fresh}
use Rattle.steps.specs.Calls.{check_of}
use Rattle.steps.specs.Difficulty.{summed, added, removed_each, removed_in, pass_counts, kind_of, number, removed_by_steps, points_of, open_cells, Figure, figure_of, difficulty_of}
use Rattle.steps.specs.DifficultyPromises.{Difficulties}
use Rattle.steps.specs.Instances.{Instance, pair, cross, exchanged, step_of, lones, places, pairs, pointings, claimings, crosses}
use Rattle.steps.specs.Loops.{each, for, up_to, above}
use Rattle.steps.specs.Passes.{Kind, Lone, Place, Pair, Pointing, Claiming, Cross, kinds, instances, instance_taken, pass, sweep, swept, settle, removed_by}
use Rattle.steps.specs.StepLists.{sweep_instances, effective, settling_instances, settling_steps}
use Rattle.steps.proofs.Loops.{for-all}
use Rattle.steps.proofs.Masks.{same-eq, total-under}
use Rattle.steps.proofs.Reach.{reach-under, reach-length, pass-reach}
use Rattle.steps.proofs.Steps.{take-under, take-length}
use Rattle.steps.proofs.StepLogs.{effective-few, sweeps_of, sweeps-more, settled-swept, sweep-each}

module _ (g : List ℕ) where
  -- ---- the counts add up

  pass-fewer : (k : Kind) (m : List ℕ) → total (pass g k m) ≤ total m
  pass-fewer k m = let r = pass-reach g k m in total-under (pass g k m) m (reach-length g r) (reach-under g r)

  each-size : (ks : List Kind) (m : List ℕ) → length (removed_each g ks m) ≡ length ks
  unfolding removed_each
  each-size [] m = refl
  each-size (k ∷ ks) m = ap suc (each-size ks (pass g k m))

  each-sum : (ks : List Kind) (m : List ℕ) → summed (removed_each g ks m) + total (each (pass g) ks m) ≡ total m
  unfolding removed_each summed each
  each-sum [] m = omega arith
  each-sum (k ∷ ks) m = omega (arith, pass-fewer k m, each-sum ks (pass g k m))

added-size : (xs ys : List ℕ) → length xs ≡ length ys → length (added xs ys) ≡ length ys
unfolding added
added-size [] [] e = refl
added-size [] (y ∷ ys) e = absurd (omega (arith, e))
added-size (x ∷ xs) [] e = absurd (omega (arith, e))
added-size (x ∷ xs) (y ∷ ys) e = ap suc (added-size xs ys (omega (arith, e)))

added-sum : (xs ys : List ℕ) → length xs ≡ length ys → summed (added xs ys) ≡ summed xs + summed ys
unfolding added summed
added-sum [] [] e = refl
added-sum [] (y ∷ ys) e = absurd (omega (arith, e))
added-sum (x ∷ xs) [] e = absurd (omega (arith, e))
added-sum (x ∷ xs) (y ∷ ys) e = omega (arith, added-sum xs ys (omega (arith, e)))

added-at : (xs ys : List ℕ) (i : ℕ) → length xs ≡ length ys → get_or (added xs ys) i 0 ≡ get_or xs i 0 + get_or ys i 0
unfolding added
added-at [] [] i e = refl
added-at [] (y ∷ ys) i e = absurd (omega (arith, e))
added-at (x ∷ xs) [] i e = absurd (omega (arith, e))
added-at (x ∷ xs) (y ∷ ys) zero e = refl
added-at (x ∷ xs) (y ∷ ys) (suc i) e = added-at xs ys i (omega (arith, e))

six-list : (l : List ℕ) → length l ≡ 6 → l ≡ get_or l 0 0 ∷ get_or l 1 0 ∷ get_or l 2 0 ∷ get_or l 3 0 ∷ get_or l 4 0 ∷ get_or l 5 0 ∷ []
six-list [] e = absurd (omega (arith, e))
six-list (a ∷ []) e = absurd (omega (arith, e))
six-list (a ∷ b ∷ []) e = absurd (omega (arith, e))
six-list (a ∷ b ∷ c ∷ []) e = absurd (omega (arith, e))
six-list (a ∷ b ∷ c ∷ d ∷ []) e = absurd (omega (arith, e))
six-list (a ∷ b ∷ c ∷ d ∷ f ∷ []) e = absurd (omega (arith, e))
six-list (a ∷ b ∷ c ∷ d ∷ f ∷ h ∷ []) e = refl
six-list (a ∷ b ∷ c ∷ d ∷ f ∷ h ∷ j ∷ l) e = absurd (omega (arith, e))

-- ---- the kind of each instance of a pass

one : {x y : Instance} (k : Kind) → kind_of y ≡ k → Memᴰ x (y ∷ []) → kind_of x ≡ k
one k e at = ap kind_of (Memᴰ.eq_of_singleton at) ∙ e

-- loops of two, three and five numbers
module _ (k : Kind) where
  abbrev Of : Instance → Type 0
  Of x = kind_of x ≡ k

  four : (xs : List ℕ) (make : ℕ → ℕ → ℕ → ℕ → ℕ → Instance) → ((u i j a b : ℕ) → kind_of (make u i j a b) ≡ k) → (x : Instance)
      → Memᴰ x (for xs λ u. for (up_to 9) λ i. for (above i 9) λ j. for (up_to 9) λ a. for (above a 9) λ b. make u i j a b ∷ []) → kind_of x ≡ k
  four xs make e =
      for-all Of xs _ λ u _. for-all Of (up_to 9) _ λ i _. for-all Of (above i 9) _ λ j _. for-all Of (up_to 9) _ λ a _. for-all Of (above a 9) _ λ b _ x at. one k (e u i j a b) at

kind-in : (k : Kind) (x : Instance) → Memᴰ x (instances k) → kind_of x ≡ k
unfolding instances lones places pairs pointings claimings crosses kind_of
kind-in Lone = for-all (Of Lone) (up_to 81) _ λ c _. for-all (Of Lone) (up_to 9) _ λ d _ x at. one Lone refl at
kind-in Place = for-all (Of Place) (up_to 27) _ λ u _. for-all (Of Place) (up_to 9) _ λ d _. for-all (Of Place) (up_to 9) _ λ i _ x at. one Place refl at
kind-in Pair = four Pair (up_to 27) pair (λ u i j a b. refl)
kind-in Pointing = for-all (Of Pointing) (up_to 9) _ λ u _. for-all (Of Pointing) (up_to 9) _ λ d _. for-all (Of Pointing) (up_to 6) _ λ i _ x at. one Pointing refl at
kind-in Claiming = for-all (Of Claiming) (up_to 18) _ λ u _. for-all (Of Claiming) (up_to 9) _ λ d _. for-all (Of Claiming) (up_to 3) _ λ i _ x at. one Claiming refl at
kind-in Cross = λ x at. ⊎_elim (four Cross (up_to 9) cross (λ u i j a b. refl) x) (four Cross (up_to 9) exchanged (λ u i j a b. refl) x) (Memᴰ.append_cases _ at)

module _ (g : List ℕ) where
  pub six-counts : (n : ℕ) (m : List ℕ) → length (removed_in g n m) ≡ 6
  unfolding removed_in
  six-counts zero m = refl
  six-counts (suc n) m = added-size (removed_each g kinds m) (removed_in g n (sweep g m)) (each-size g kinds m ∙ sym (six-counts n (sweep g m))) ∙ six-counts n (sweep g m)

  sweeps-sum : (n : ℕ) (m : List ℕ) → summed (removed_in g n m) + total (swept g n m) ≡ total m
  unfolding removed_in swept sweep summed
  sweeps-sum zero m = omega arith
  sweeps-sum (suc n) m =
      omega (arith, added-sum (removed_each g kinds m) (removed_in g n (sweep g m)) (each-size g kinds m ∙ sym (six-counts n (sweep g m))), each-sum g kinds m, sweeps-sum n (sweep g m))

  pub counts-sum : (m : List ℕ) → summed (pass_counts g m) ≡ removed_by m (settle g m).left
  unfolding pass_counts
  counts-sum m = omega (arith, sweeps-sum (settle g m).sweeps m, ap total (settled-swept g 730 m))

  -- ---- by steps

  module _ (k : Kind) where
    counted : Instance → List ℕ → ℕ
    counted x m = cond (eqb (number (kind_of x)) (number k)) (removed_by m (instance_taken g x m)) 0

    -- instances that remove nothing count nothing
    by-effective : (xs : List Instance) (m : List ℕ) → removed_by_steps g k (effective g xs m) m ≡ removed_by_steps g k xs m
    unfolding removed_by_steps effective counted
    by-effective [] m = refl
    by-effective (x ∷ xs) m = go (same_masks m n) refl (by-effective xs n)
      where
        n : List ℕ
        n = instance_taken g x m

        later : List Instance
        later = effective g xs n

        go : (t : Bool) → same_masks m n ≡ t → removed_by_steps g k later n ≡ removed_by_steps g k xs n → removed_by_steps g k (cond t later (x ∷ later)) m ≡ counted x m + removed_by_steps g k xs n
        go true t ih =
            let e = same-eq m n t in
            let none : counted x m ≡ 0 = by-test (λ (z : ℕ). z ≡ 0) (eqb (number (kind_of x)) (number k)) (removed_by m n) 0 (λ _. omega (arith, ap total e)) (λ _. refl) in
            ap (removed_by_steps g k later) e ∙ omega (arith, ih, none)
        go false t ih = ap (λ (j : ℕ). counted x m + j) ih

    by_append : (xs ys : List Instance) (m : List ℕ) → removed_by_steps g k (xs ++ ys) m ≡ removed_by_steps g k xs m + removed_by_steps g k ys (each (instance_taken g) xs m)
    unfolding removed_by_steps each
    by_append [] ys m = omega arith
    by_append (x ∷ xs) ys m = omega (arith, by_append xs ys (instance_taken g x m))

    -- instances of one kind
    by_kind : (j : Kind) (xs : List Instance) → ((x : Instance) → Memᴰ x xs → kind_of x ≡ j) → (m : List ℕ) → removed_by_steps g k xs m ≡ cond (eqb (number j) (number k)) (removed_by m (each (instance_taken g) xs m)) 0
    unfolding removed_by_steps each
    by_kind j [] h m = by-test (λ (z : ℕ). 0 ≡ z) (eqb (number j) (number k)) (removed_by m m) 0 (λ _. omega arith) (λ _. refl)
    by_kind j (x ∷ xs) h m =
        ap₂ ◌+◌ (ap (λ (i : Kind). cond (eqb (number i) (number k)) (removed_by m n) 0) (h x (Memᴰ.head refl))) (by_kind j xs (λ y at. h y (Memᴰ.tail at)) n)
        ∙ go (eqb (number j) (number k))
      where
        n : List ℕ
        n = instance_taken g x m

        o : List ℕ
        o = each (instance_taken g) xs n

        go : (t : Bool) → cond t (removed_by m n) 0 + cond t (removed_by n o) 0 ≡ cond t (removed_by m o) 0
        go true = omega (arith, total-under n m (take-length (is_open g) (step_of x) m) (take-under (is_open g) (step_of x) m), effective-few g xs n)
        go false = refl

    by-pass : (j : Kind) (m : List ℕ) → removed_by_steps g k (instances j) m ≡ cond (eqb (number j) (number k)) (removed_by m (pass g j m)) 0
    unfolding pass
    by-pass j m = by_kind j (instances j) (kind-in j) m

    -- what the passes of this kind remove among these
    chosen : List Kind → List ℕ → ℕ
    chosen [] m = 0
    chosen (j ∷ js) m = cond (eqb (number j) (number k)) (removed_by m (pass g j m)) 0 + chosen js (pass g j m)

    by-passes : (js : List Kind) (m : List ℕ) → removed_by_steps g k (for js instances) m ≡ chosen js m
    unfolding removed_by_steps for chosen pass
    by-passes [] m = refl
    by-passes (j ∷ js) m = by_append (instances j) (for js instances) m ∙ ap₂ ◌+◌ (by-pass j m) (by-passes js (pass g j m))

  -- a sweep: the count of each kind stands at its number
  sweep-chosen : (k : Kind) (m : List ℕ) → chosen k kinds m ≡ get_or (removed_each g kinds m) (number k) 0
  unfolding chosen removed_each number
  sweep-chosen Lone m = omega arith
  sweep-chosen Place m = omega arith
  sweep-chosen Pair m = omega arith
  sweep-chosen Pointing m = omega arith
  sweep-chosen Claiming m = omega arith
  sweep-chosen Cross m = omega arith

  -- n sweeps
  sweeps-at : (k : Kind) (n : ℕ) (m : List ℕ) → removed_by_steps g k (sweeps_of g n) m ≡ get_or (removed_in g n m) (number k) 0
  unfolding removed_by_steps for removed_in sweep_instances number
  sweeps-at Lone zero m = refl
  sweeps-at Place zero m = refl
  sweeps-at Pair zero m = refl
  sweeps-at Pointing zero m = refl
  sweeps-at Claiming zero m = refl
  sweeps-at Cross zero m = refl
  sweeps-at k (suc n) m =
      ap (λ (xs : List Instance). removed_by_steps g k xs m) (sweeps-more g n) ∙ by_append k sweep_instances (sweeps_of g n) m
      ∙ ap₂ ◌+◌ (by-passes k kinds m ∙ sweep-chosen k m) (ap (removed_by_steps g k (sweeps_of g n)) (sweep-each g m) ∙ sweeps-at k n (sweep g m))
      ∙ sym (added-at (removed_each g kinds m) (removed_in g n (sweep g m)) (number k) (each-size g kinds m ∙ sym (six-counts n (sweep g m))))

  counts-at : (k : Kind) (m : List ℕ) → get_or (pass_counts g m) (number k) 0 ≡ removed_by_steps g k (settling_steps g m) m
  unfolding pass_counts settling_steps settling_instances
  counts-at k m = sym (by-effective k (settling_instances g m) m ∙ sweeps-at k (settle g m).sweeps m)

  pub counts-by-steps : (m : List ℕ) → pass_counts g m ≡ map (λ k. removed_by_steps g k (settling_steps g m) m) kinds
  unfolding number
  counts-by-steps m =
      let p = pass_counts g m in
      six-list p (unfold pass_counts in six-counts (settle g m).sweeps m)
      ∙ (λ i. counts-at Lone m i ∷ counts-at Place m i ∷ counts-at Pair m i ∷ counts-at Pointing m i ∷ counts-at Claiming m i ∷ counts-at Cross m i ∷ [])

-- ---- the figure

exact-figure : (p n : ℕ) → n ≢ 0 → (p ≡ p / n * n + p % n) × (p % n < n)
exact-figure p n h = (sym (div-add-mod' p n), mod-lt p (omega (arith, h)))

figure-exact : (b : Board) (f : Figure) → difficulty_of b ≡ gives f → (f.points ≡ f.quotient * f.cells + f.remainder) × (f.remainder < f.cells)
unfolding difficulty_of figure_of
figure-exact b f = go (check_of b) (eqb n 0) refl
  where
    g : List ℕ
    g = givens b

    n : ℕ
    n = open_cells g

    p : ℕ
    p = points_of (pass_counts g (fresh g))

    go : (a : Answer (Unit {0})) (t : Bool) → eqb n 0 ≡ t → then a (λ _. cond t (stop NoOpenCell) (gives (figure_of p n))) ≡ gives f → (f.points ≡ f.quotient * f.cells + f.remainder) × (f.remainder < f.cells)
    go (stop s) t e w = absurd (stop-gives w)
    go (gives u) true e w = absurd (stop-gives w)
    go (gives u) false e w = subst (λ (x : Figure). (x.points ≡ x.quotient * x.cells + x.remainder) × (x.remainder < x.cells)) (gives_same w) (exact-figure p n (eqb-false n 0 e))

pub difficulties : Difficulties
difficulties = record { sum = counts-sum; steps = counts-by-steps; exact = figure-exact }
