-- A step that is taken or not, by the test of its kind; the steps of Pointing, Claiming and Cross as code takes them are those of their instances. Assumes nothing.
use mathlib.Core.Path.{◌≡◌, sym, ap, ◌∙◌}
use mathlib.Core.Bool.{Bool, true, false}
use mathlib.Core.List.{List, [], ◌∷◌}
use mathlib.Core.Option.{Option, none, some}
use Prim.Native.Nat.{ℕ, ◌+◌, ◌-◌, ◌≤◌, ◌<◌}
use native.Mathlib.Nat.{zero-add}
use native.Mathlib.Omega.{arith}
use borrow.Author.Tests.{le-leb, lt-leb}
use lib.Dec.{leb}
use lib.ListN.{length, get_or, get_or-eq_default}
use Rattle.candidates.proofs.Tests.{cond-true, cond-false}
use Rattle.steps.specs.Boards.{is_open}
use Rattle.steps.specs.Instances.{Instance, pointing, claiming, cross, exchanged, line_of, locked_step, cross_step, step_of}
use Rattle.steps.specs.Passes.{instance_taken}
use Rattle.steps.specs.StepLists.{after_step}
use Rattle.steps.specs.Steps.{step_taken}
use Rattle.steps.specs.code.Decoding.{when, lone_by, place_by, pair_by, pointing_by, claiming_by, cross_by, exchanged_by, named_by, named_at}
use Rattle.cells.specs.code.Meets.{met_unit}
use Rattle.cells.proofs.Meetings.{met-box}
use Rattle.step_lists.proofs.Meetings.{line-met}

module _ (g m : List ℕ) where
  pub after-taken : {t : Bool} (x : Instance) → t ≡ true → instance_taken g x m ≡ after_step g (when t x) m
  after-taken {t} x e = sym (ap (λ (s : Option Instance). after_step g s m) (cond-true t (some x) none e))

  pub after-left : {t : Bool} (x : Instance) → t ≡ false → m ≡ after_step g (when t x) m
  after-left {t} x e = sym (ap (λ (s : Option Instance). after_step g s m) (cond-false t (some x) none e))

  -- ---- units by their numbers

  pub pointing-taken : (u d k : ℕ) → 18 ≤ u → u < 27 → k < 6 → step_taken (is_open g) (locked_step u (met_unit u k) d) m ≡ instance_taken g (pointing (u - 18) d k) m
  unfolding step_of
  pointing-taken u d k h l n =
      let z : u ≡ 18 + (u - 18) = omega arith in
      ap (λ (v : ℕ). step_taken (is_open g) (locked_step u v d) m) (line-met u k h l n) ∙ ap (λ (x : ℕ). step_taken (is_open g) (locked_step x (line_of (u - 18) k) d) m) z

  pub claiming-taken : (l d k : ℕ) → l < 18 → k < 3 → step_taken (is_open g) (locked_step l (met_unit l k) d) m ≡ instance_taken g (claiming l d k) m
  unfolding step_of
  claiming-taken l d k h n = ap (λ (v : ℕ). step_taken (is_open g) (locked_step l v d) m) (met-box {l = l} {k = k} h n)

  pub cross-is : (d i j a b : ℕ) → step_taken (is_open g) (cross_step d (0 + i) (0 + j) (9 + a) (9 + b)) m ≡ instance_taken g (cross d i j a b) m
  unfolding step_of
  cross-is d i j a b = λ t. step_taken (is_open g) (cross_step d (zero-add i t) (zero-add j t) (9 + a) (9 + b)) m

  pub exchanged-is : (d i j a b : ℕ) → step_taken (is_open g) (cross_step d (9 + i) (9 + j) (0 + a) (0 + b)) m ≡ instance_taken g (exchanged d i j a b) m
  unfolding step_of
  exchanged-is d i j a b = λ t. step_taken (is_open g) (cross_step d (9 + i) (9 + j) (zero-add a t) (zero-add b t)) m

  -- ---- by the kind

  module _ (p q r s t : ℕ) where
    abbrev kinds : List (Option Instance)
    kinds = lone_by p q r s t ∷ place_by p q r s t ∷ pair_by p q r s t ∷ pointing_by p q r s t ∷ claiming_by p q r s t ∷ cross_by p q r s t ∷ exchanged_by p q r s t ∷ []

    pub of-kind : (j : ℕ) {k : ℕ} → k ≡ j → after_step g (get_or kinds j none) m ≡ after_step g (named_by k p q r s t) m
    unfolding named_by
    of-kind j e = ap (λ (x : ℕ). after_step g (get_or kinds x none) m) (sym e)

    pub no_kind : (k : ℕ) → 7 ≤ k → m ≡ after_step g (named_by k p q r s t) m
    unfolding named_by
    no_kind k h = sym (ap (λ (x : Option Instance). after_step g x m) (get_or-eq_default kinds none {n = k} h))

  -- ---- six bytes of a list

  pub at-six : (bs : List ℕ) (n : ℕ) → n + 6 ≤ length bs → {k p q r s t : ℕ}
      → k ≡ get_or bs n 0 → p ≡ get_or bs (n + 1) 0 → q ≡ get_or bs (n + 2) 0 → r ≡ get_or bs (n + 3) 0 → s ≡ get_or bs (n + 4) 0 → t ≡ get_or bs (n + 5) 0
      → after_step g (named_by k p q r s t) m ≡ after_step g (named_at bs n) m
  unfolding named_at
  at-six bs n h k p q r s t =
      (λ i. after_step g (named_by (k i) (p i) (q i) (r i) (s i) (t i)) m)
      ∙ sym (ap (λ (x : Option Instance). after_step g x m)
      (cond-true (leb (n + 6) (length bs)) (named_by (get_or bs n 0) (get_or bs (n + 1) 0) (get_or bs (n + 2) 0) (get_or bs (n + 3) 0) (get_or bs (n + 4) 0) (get_or bs (n + 5) 0)) none (le-leb (n + 6) (length bs) h)))

  pub at-short : (bs : List ℕ) (n : ℕ) → length bs < n + 6 → m ≡ after_step g (named_at bs n) m
  unfolding named_at
  at-short bs n h =
      sym (ap (λ (x : Option Instance). after_step g x m)
      (cond-false (leb (n + 6) (length bs)) (named_by (get_or bs n 0) (get_or bs (n + 1) 0) (get_or bs (n + 2) 0) (get_or bs (n + 3) 0) (get_or bs (n + 4) 0) (get_or bs (n + 5) 0)) none (lt-leb (n + 6) (length bs) h)))
