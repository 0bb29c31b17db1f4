-- Pair and Cross are loops over frames. Assumes nothing.
use mathlib.Core.Path.{◌≡◌, refl, ap, ap₂, ◌∙◌}
use mathlib.Core.Logic.{inl, inr}
use mathlib.Core.List.{List, [], ◌∷◌, ◌++◌}
use Prim.Native.Nat.{ℕ}
use Rattle.steps.specs.Instances.{Instance, pair, cross, exchanged, pairs, crosses}
use Rattle.steps.specs.Loops.{each, for, up_to, above}
use Rattle.steps.specs.Passes.{Pair, Cross, instances, instance_taken, pass}
use Rattle.steps.proofs.Loops.{each_append, each-for, for-same, nines}
use Rattle.pair_cross.specs.code.Twos.{first_of, second_of, frame_instance, frame_taken, cross_lines, lines_instances, frame_instances, cross_instances}
use Rattle.pair_cross.specs.code.Lively.{family_instances}
use Rattle.pair_cross.specs.declared.twos.Frame.{Frame}
use Rattle.pair_cross.specs.declared.twos.Frame.TheVariants.{Unit, Lines}
use Rattle.pair_cross.proofs.FrameInstances.{units-each, cross-each}

-- ---- the instances of the passes are those of the frames

-- two numbers, and two more for each two
twice : (ℕ → ℕ → ℕ → ℕ → Instance) → List Instance
twice h = for (up_to 9) λ i. for (above i 9) λ j. for (up_to 9) λ a. for (above a 9) λ b. h i j a b ∷ []

frame-list : (F : Frame) → twice (frame_instance F) ≡ frame_instances F
unfolding twice frame_instances
frame-list F = for-same _ _ (up_to 9) (λ i k. for-same _ _ (above i 9) (λ j l. two i j))
  where
    two : (i j : ℕ) → (for (up_to 9) λ a. for (above a 9) λ b. frame_instance F i j a b ∷ []) ≡ lines_instances F i j
    two i j = unfold for lines_instances first_of second_of in refl

pair-list : instances Pair ≡ for (up_to 27) λ u. frame_instances (Unit u)
unfolding instances pairs twice
pair-list = for-same (λ u. twice (pair u)) (λ u. frame_instances (Unit u)) (up_to 27) (λ u k. frame-list (Unit u))

-- rows, and columns exchanged
pub cross-list : instances Cross ≡ cross_instances 0 ++ cross_instances 9
unfolding instances crosses twice cross_instances
cross-list =
    ap₂ ◌++◌ (for-same (λ d. twice (cross d)) (λ d. frame_instances (Lines 0 d)) (up_to 9) (λ d k. frame-list (Lines 0 d)))
    (for-same (λ d. twice (exchanged d)) (λ d. frame_instances (Lines 9 d)) (up_to 9) (λ d k. frame-list (Lines 9 d)))

pub family-list : instances Pair ≡ for (up_to 3) family_instances
unfolding family_instances
family-list = pair-list ∙ nines (λ u. frame_instances (Unit u)) 3 (unfold for in refl)

-- ---- the passes

pub pair-pass : (g m : List ℕ) → pass g Pair m ≡ each (λ u. frame_taken g (Unit u)) (up_to 27) m
unfolding pass
pair-pass g m = ap (λ (xs : List Instance). each (instance_taken g) xs m) pair-list ∙ each-for (instance_taken g) (up_to 27) (λ u. frame_instances (Unit u)) m ∙ units-each g m

pub cross-pass : (g m : List ℕ) → pass g Cross m ≡ cross_lines g 9 (cross_lines g 0 m)
unfolding pass
cross-pass g m =
    ap (λ (xs : List Instance). each (instance_taken g) xs m) cross-list ∙ each_append (instance_taken g) (cross_instances 0) (cross_instances 9) m
    ∙ ap (each (instance_taken g) (cross_instances 9)) (cross-each g 0 (inl refl) m) ∙ cross-each g 9 (inr refl) (cross_lines g 0 m)
