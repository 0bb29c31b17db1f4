-- Place: the instances of a digit that pass their test, by the set of their places; the others do nothing. Assumes nothing.
use mathlib.Core.Path.{◌≡◌, refl, sym, ap, ◌∙◌}
use mathlib.Core.Bool.{Bool, true, false, cond}
use mathlib.Core.List.{List, [], ◌∷◌, Memᴰ}
use Prim.Native.Nat.{ℕ, ◌<◌}
use native.Mathlib.Omega.{arith}
use borrow.Author.Tests.{eqb-true}
use lib.Dec.{eqb, eqb→eq}
use Rattle.candidates.specs.Masks.{has, minus, count, single, lowest, tail, gather}
use Rattle.candidates.proofs.Held.{has-gather, held_below, held-sub}
use Rattle.candidates.proofs.Membership.{gather-lt}
use Rattle.candidates.proofs.Order.{minus-sub, sub-le}
use Rattle.candidates.proofs.Tests.{below, cond-false}
use Rattle.grid.specs.Units.{unit_cell}
use Rattle.steps.specs.Boards.{is_open}
use Rattle.steps.specs.Instances.{Instance, place}
use Rattle.steps.specs.Loops.{each, for, select, up_to}
use Rattle.steps.specs.Passes.{instance_taken}
use Rattle.steps.specs.StepLists.{effective}
use Rattle.steps.specs.Steps.{lose_at}
use Rattle.steps.specs.code.Logs.{log_after}
use Rattle.steps.proofs.Loops.{in-up_to}
use Rattle.steps.proofs.StepLogs.{log-append, log-none}
use Rattle.cells.specs.code.Places.{places_in, held_places}
use Rattle.cells.proofs.Rising.{places-on, lowest-place}
use Rattle.lone_place.specs.code.Turns.{place_turn, place_digit, digit_places}
use Rattle.lone_place.specs.code.Due.{turns_of}
use Rattle.lone_place.proofs.Blocks as blocks
use Rattle.lone_place.proofs.PlaceTurns.{taken, keeps}

-- ---- the places whose instances pass their test

turn-test : (x i : ℕ) → i < 9 → has (turns_of x) i ≡ eqb (minus x (single i)) 0
unfolding turns_of
turn-test x i h = has-gather (λ i. eqb (minus x (single i)) 0) 9 i h

turns-small : (x : ℕ) → turns_of x < 512
unfolding turns_of
turns-small x = omega (arith, gather-lt (λ i. eqb (minus x (single i)) 0) 9)

-- as code finds them, for every set of places
pub turns-are : (x : ℕ) → x < 512 → turns_of x ≡ cond (eqb x 0) 511 (cond (eqb (count x) 1) x 0)
unfolding turns_of gather lib.Count.ones
turns-are x h = eqb→eq (turns_of x) (cond (eqb x 0) 511 (cond (eqb (count x) 1) x 0)) (below 512 (λ x. eqb (turns_of x) (cond (eqb x 0) 511 (cond (eqb (count x) 1) x 0))) tt x h)

-- ---- instances that are passed over

module _ (g : List ℕ) (x : ℕ → Instance) (P : List ℕ → Type 0) (f : ℕ → Bool) where
  abbrev turns : List ℕ → List Instance
  turns is = for is λ i. x i ∷ []

  -- those that do nothing, where f says so
  passed_over_lem : (is : List ℕ) → ((i : ℕ) → Memᴰ i is → (n : List ℕ) → P n → P (instance_taken g (x i) n)) → ((i : ℕ) → Memᴰ i is → f i ≡ false → (n : List ℕ) → P n → instance_taken g (x i) n ≡ n)
      → (m k : List ℕ) → P m → (each (instance_taken g) (turns is) m ≡ each (instance_taken g) (turns (select f is)) m) × (log_after g (turns is) m k ≡ log_after g (turns (select f is)) m k)
  unfolding each for
  passed_over_lem [] keep idle m k p = (refl, refl)
  passed_over_lem (i ∷ is) keep idle m k p = go (f i) refl (passed_over_lem is (λ j o. keep j (Memᴰ.tail o)) (λ j o. idle j (Memᴰ.tail o)))
    where
      n : List ℕ
      n = instance_taken g (x i) m

      noted : List ℕ
      noted = log_after g (x i ∷ []) m k

      rest : List Instance
      rest = turns is

      some : List Instance
      some = turns (select f is)

      Same : List ℕ → List ℕ → Type 0
      Same o l = (each (instance_taken g) (turns is) o ≡ each (instance_taken g) (turns (select f is)) o) × (log_after g (turns is) o l ≡ log_after g (turns (select f is)) o l)

      go : (t : Bool) → f i ≡ t → ((o l : List ℕ) → P o → Same o l)
          → (each (instance_taken g) (turns is) n ≡ each (instance_taken g) (turns (cond (f i) (i ∷ select f is) (select f is))) m) × (log_after g (x i ∷ turns is) m k ≡ log_after g (turns (cond (f i) (i ∷ select f is) (select f is))) m k)
      go true e later =
          let w = later n noted (keep i (Memᴰ.head refl) m p) in
          rw e (w.0, log-append g (x i ∷ []) rest m k ∙ w.1 ∙ sym (log-append g (x i ∷ []) some m k))
      go false e later =
          let still = idle i (Memᴰ.head refl) e m p in
          let w = later m k p in
          rw e (
            ap (each (instance_taken g) rest) still ∙ w.0,
            log-append g (x i ∷ []) rest m k ∙ ap (λ (o : List ℕ). log_after g rest o noted) still ∙ ap (log_after g rest m) (log-none g (x i) m k still) ∙ w.1,
          )

-- ---- the instances of the places that are left

abbrev pub turns_left : ℕ → ℕ → ℕ → List Instance
turns_left u d x = for (places_in x) λ i. place u d i ∷ []

split : (u d x : ℕ) → 0 < x → x < 512 → turns_left u d x ≡ place u d (lowest x) ∷ turns_left u d (tail x)
unfolding for
split u d x p h = ap (λ (is : List ℕ). for is λ i. place u d i ∷ []) (places-on x p h)

-- those of the set x, which all pass their test, still make the masks M of m and the log K of k
pub record Turning (g : List ℕ) (u d x : ℕ) (m k M K : List ℕ) : Type 0 where
  pub small : x < 512
  pub passing : (i : ℕ) → has x i ≡ true → minus (held_places m u d) (single i) ≡ 0
  pub masks : each (instance_taken g) (turns_left u d x) m ≡ M
  pub log : log_after g (turns_left u d x) m k ≡ K

module _ (g : List ℕ) (u d : ℕ) (h : u < 27) (l : d < 9) where
  idle : (i : ℕ) → i < 9 → (n : List ℕ) → has (turns_of (held_places n u d)) i ≡ false → instance_taken g (place u d i) n ≡ n
  unfolding place_turn
  idle i o n t =
      taken g u d h l n i o
      ∙ cond-false (eqb (minus (held_places n u d) (single i)) 0) (lose_at (is_open g) (unit_cell u i) (minus 511 (single d)) n) n (sym (turn-test (held_places n u d) i o) ∙ t)

  kept : (i : ℕ) → i < 9 → (n : List ℕ) → held_places (instance_taken g (place u d i) n) u d ≡ held_places n u d
  kept i o n = ap (λ (z : List ℕ). held_places z u d) (taken g u d h l n i o) ∙ keeps g u d h l (held_places n u d) i n

  -- the others are passed over
  all_left : (m k : List ℕ)
      → (each (instance_taken g) (digit_places u d) m ≡ each (instance_taken g) (turns_left u d (turns_of (held_places m u d))) m) × (log_after g (digit_places u d) m k ≡ log_after g (turns_left u d (turns_of (held_places m u d))) m k)
  unfolding digit_places
  all_left m k =
      passed_over_lem g (place u d) (λ (n : List ℕ). held_places n u d ≡ held_places m u d) (has (turns_of (held_places m u d))) (up_to 9)
      (λ i o n e. kept i (in-up_to 9 i o) n ∙ e) (λ i o t n e. idle i (in-up_to 9 i o) n (ap (λ (x : ℕ). has (turns_of x) i) e ∙ t)) m k refl

  pub turning-start : (m k : List ℕ) {x : ℕ} → x ≡ turns_of (held_places m u d) → Turning g u d x m k (place_digit g u d m) (log_after g (digit_places u d) m k)
  turning-start m k {x} e = record {
    small = low;
    passing = λ i t. eqb-true (minus (held_places m u d) (single i)) 0 (sym (turn-test (held_places m u d) i (held_below x 9 i (omega (arith, low)) t)) ∙ ap (λ (y : ℕ). has y i) (sym e) ∙ t);
    masks = ap (λ (y : ℕ). each (instance_taken g) (turns_left u d y) m) e ∙ sym (all_left m k).0 ∙ sym (blocks.place-digit g u d m);
    log = ap (λ (y : ℕ). log_after g (turns_left u d y) m k) e ∙ sym (all_left m k).1;
  }
    where
      low : x < 512
      low = omega (arith, e, turns-small (held_places m u d))

  module _ {x : ℕ} {m k M K : List ℕ} (w : Turning g u d x m k M K) where
    pub turning-on : {y : ℕ} {n j : List ℕ} → 0 < x → n ≡ instance_taken g (place u d (lowest x)) m → j ≡ log_after g (place u d (lowest x) ∷ []) m k → y ≡ tail x → Turning g u d y n j M K
    unfolding each
    turning-on {y} {n} {j} p a b e = record {
      small = omega (arith, e, w.small, sub-le (minus-sub x (single (lowest x))));
      passing = λ i t.
          ap (λ (z : ℕ). minus z (single i)) (ap (λ (z : List ℕ). held_places z u d) a ∙ kept (lowest x) (lowest-place x p w.small) m)
          ∙ w.passing i (held-sub i (minus-sub x (single (lowest x))) (ap (λ (z : ℕ). has z i) (sym e) ∙ t));
      masks = ap (λ (z : ℕ). each (instance_taken g) (turns_left u d z) n) e ∙ ap (each (instance_taken g) rest) a ∙ sym (ap (λ (xs : List Instance). each (instance_taken g) xs m) all) ∙ w.masks;
      log = ap (λ (z : ℕ). log_after g (turns_left u d z) n j) e ∙ ap (λ (z : List ℕ). log_after g rest z j) a ∙ ap (log_after g rest (instance_taken g turn m)) b
          ∙ sym (log-append g (turn ∷ []) rest m k) ∙ sym (ap (λ (xs : List Instance). log_after g xs m k) all) ∙ w.log;
    }
      where
        turn : Instance
        turn = place u d (lowest x)

        rest : List Instance
        rest = turns_left u d (tail x)

        all : turns_left u d x ≡ place u d (lowest x) ∷ turns_left u d (tail x)
        all = split u d x p w.small

    pub turning-end : x ≡ 0 → (m ≡ M) × (k ≡ K)
    unfolding each for log_after effective
    turning-end e = (ap (λ (y : ℕ). each (instance_taken g) (turns_left u d y) m) (sym e) ∙ w.masks, ap (λ (y : ℕ). log_after g (turns_left u d y) m k) (sym e) ∙ w.log)
