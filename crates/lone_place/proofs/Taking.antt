-- The steps of Lone: an instance is taken where its test passes, and the pass by cells. Assumes nothing.
use mathlib.Core.Path.{◌≡◌, sym, ap, ◌∙◌}
use mathlib.Core.Bool.{Bool, true, false, and-true}
use mathlib.Core.List.{List, [], ◌∷◌}
use Prim.Native.Nat.{ℕ, ◌<◌}
use lib.Bits.{bit_and}
use lib.Dec.{eqb}
use Rattle.candidates.specs.Masks.{minus, count, single}
use Rattle.candidates.proofs.Counts.{test-none}
use Rattle.steps.specs.Boards.{is_open}
use Rattle.steps.specs.Instances.{lone, lone_step, step_of, lones}
use Rattle.steps.specs.Loops.{each, for, up_to}
use Rattle.steps.specs.Passes.{Lone, instances, instance_taken, pass}
use Rattle.steps.specs.Steps.{lacks, applies}
use Rattle.steps.proofs.Taking.{taken, left_alone}
use Rattle.steps.proofs.Turns.{each-one, each_in}
use Rattle.cells.specs.code.Places.{mask_at}
use Rattle.cells.proofs.Places.{mask_at_lem}
use Rattle.lone_place.specs.code.Turns.{peers_lose, lone_cell}

-- the test of an instance, as code makes it
abbrev pub lone_test : List ℕ → ℕ → ℕ → Bool
lone_test m c d = eqb (count (bit_and (mask_at m c) (minus 511 (single d)))) 0

lone-applies : (m : List ℕ) (c d : ℕ) → c < 81 → lone_test m c d ≡ applies (lone_step c d) m
lone-applies m c d h =
    sym (test-none (bit_and (mask_at m c) (minus 511 (single d))))
    ∙ ap (λ (x : ℕ). eqb (bit_and x (minus 511 (single d))) 0) (mask_at_lem m c h)
    ∙ sym (and-true (lacks m c (minus 511 (single d))))

module _ (g m : List ℕ) (c d : ℕ) (h : c < 81) where
  pub lone-taken : lone_test m c d ≡ true → peers_lose g c (single d) m ≡ instance_taken g (lone c d) m
  unfolding step_of peers_lose
  lone-taken t = taken (is_open g) (lone_step c d) m (sym (lone-applies m c d h) ∙ t)

  pub lone-left : lone_test m c d ≡ false → m ≡ instance_taken g (lone c d) m
  unfolding step_of
  lone-left t = left_alone (is_open g) (lone_step c d) m (sym (lone-applies m c d h) ∙ t)

pub lone-pass : (g m : List ℕ) → pass g Lone m ≡ each (lone_cell g) (up_to 81) m
unfolding pass instances lones lone_cell
lone-pass g m = each_in (instance_taken g) (up_to 81) (λ c. for (up_to 9) λ d. lone c d ∷ []) (lone_cell g) (λ c n. each-one (instance_taken g) (up_to 9) (lone c) n) m
