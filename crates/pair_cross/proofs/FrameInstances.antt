-- The turns of a search are the instances of its frames, one after the other. Assumes nothing.
use mathlib.Core.Path.{◌≡◌, refl, sym, ap, ◌∙◌, subst}
use mathlib.Core.Logic.{⊎_elim}
use mathlib.Core.List.{List}
use Prim.Native.Nat.{ℕ, ◌+◌, ◌*◌, ◌<◌}
use native.Mathlib.Nat.{zero-add}
use native.Mathlib.Omega.{arith}
use Rattle.grid.proofs.Lists.{each_same}
use Rattle.steps.specs.Boards.{is_open}
use Rattle.steps.specs.Instances.{cross, exchanged, step_of}
use Rattle.steps.specs.Loops.{each, up_to, above}
use Rattle.steps.specs.Passes.{instance_taken}
use Rattle.steps.specs.Steps.{Step, step_taken}
use Rattle.steps.proofs.Loops.{in-up_to, each-for}
use Rattle.steps.proofs.Turns.{each-one, each_in}
use Rattle.pair_cross.specs.code.Twos.{first_of, second_of, FirstLine, Framed, frame_step, frame_instance, lines_taken, frame_taken, cross_lines, lines_instances, line_instances, frame_instances, cross_instances}
use Rattle.pair_cross.specs.code.Lively.{pair_family, family_instances}
use Rattle.pair_cross.specs.declared.twos.Frame.{Frame}
use Rattle.pair_cross.specs.declared.twos.Frame.TheVariants.{Unit, Lines}
use Rattle.pair_cross.proofs.TwoNumbers.{each_two}

-- rows, and columns exchanged
cross-step : (d i j a b : ℕ) → step_of (cross d i j a b) ≡ frame_step (Lines 0 d) i j a b
unfolding step_of
cross-step d i j a b = sym (rw (zero-add i, zero-add j))

exchanged-step : (d i j a b : ℕ) → step_of (exchanged d i j a b) ≡ frame_step (Lines 9 d) i j a b
unfolding step_of
exchanged-step d i j a b = sym (rw (zero-add a, zero-add b))

pub instance-step : (F : Frame) → Framed F → (i j a b : ℕ) → step_of (frame_instance F i j a b) ≡ frame_step F i j a b
instance-step (Unit u) h i j a b = unfold step_of in refl
instance-step (Lines f d) h i j a b = ⊎_elim (λ e. told 0 e (cross-step d i j a b)) (λ e. told 9 e (exchanged-step d i j a b)) h.0
  where
    told : (x : ℕ) → f ≡ x → step_of (frame_instance (Lines x d) i j a b) ≡ frame_step (Lines x d) i j a b → step_of (frame_instance (Lines f d) i j a b) ≡ frame_step (Lines f d) i j a b
    told x e p = subst (λ (z : ℕ). step_of (frame_instance (Lines z d) i j a b) ≡ frame_step (Lines z d) i j a b) (sym e) p

module _ (g : List ℕ) where
  module _ (F : Frame) (framed : Framed F) where
    pub one-taken : (i j a b : ℕ) (m : List ℕ) → instance_taken g (frame_instance F i j a b) m ≡ step_taken (is_open g) (frame_step F i j a b) m
    one-taken i j a b m = ap (λ (s : Step). step_taken (is_open g) s m) (instance-step F framed i j a b)

    pub lines-each : (i j : ℕ) (m : List ℕ) → each (instance_taken g) (lines_instances F i j) m ≡ lines_taken g F i j m
    unfolding lines_instances lines_taken
    lines-each i j m =
        each-one (instance_taken g) (up_to 36) (λ q. frame_instance F i j (first_of q) (second_of q)) m
        ∙ each_same (λ q. instance_taken g (frame_instance F i j (first_of q) (second_of q))) (λ q. step_taken (is_open g) (frame_step F i j (first_of q) (second_of q))) (up_to 36) (λ q k. one-taken i j (first_of q) (second_of q)) m

    pub line-each : (i : ℕ) (m : List ℕ) → each (instance_taken g) (line_instances F i) m ≡ each (lines_taken g F i) (above i 9) m
    line-each i = each_in (instance_taken g) (above i 9) (lines_instances F i) (lines_taken g F i) (lines-each i)

    pub frame-each : (m : List ℕ) → each (instance_taken g) (frame_instances F) m ≡ frame_taken g F m
    unfolding frame_instances frame_taken
    frame-each m = each_in (instance_taken g) (up_to 9) (line_instances F) (λ i. each (lines_taken g F i) (above i 9)) line-each m ∙ each_two (lines_taken g F) m

  -- frames, one after the other
  frames-each : (F : ℕ → Frame) (n : ℕ) → ((k : ℕ) → k < n → Framed (F k)) → (m : List ℕ) → each (λ k. each (instance_taken g) (frame_instances (F k))) (up_to n) m ≡ each (λ k. frame_taken g (F k)) (up_to n) m
  frames-each F n framed = each_same (λ k. each (instance_taken g) (frame_instances (F k))) (λ k. frame_taken g (F k)) (up_to n) (λ k h. frame-each (F k) (framed k (in-up_to n k h)))

  pub units-each : (m : List ℕ) → each (λ u. each (instance_taken g) (frame_instances (Unit u))) (up_to 27) m ≡ each (λ u. frame_taken g (Unit u)) (up_to 27) m
  units-each = frames-each (λ u. Unit u) 27 (λ u h. h)

  pub family-each : (f : ℕ) → f < 3 → (m : List ℕ) → each (instance_taken g) (family_instances f) m ≡ pair_family g f m
  unfolding family_instances pair_family
  family-each f h m = each-for (instance_taken g) (up_to 9) (λ k. frame_instances (Unit (9 * f + k))) m ∙ frames-each (λ k. Unit (9 * f + k)) 9 (λ k l. omega arith) m

  pub cross-each : (f : ℕ) → FirstLine f → (m : List ℕ) → each (instance_taken g) (cross_instances f) m ≡ cross_lines g f m
  unfolding cross_instances cross_lines
  cross-each f w m = each-for (instance_taken g) (up_to 9) (λ d. frame_instances (Lines f d)) m ∙ frames-each (λ d. Lines f d) 9 (λ d l. (w, l)) m
