-- Pointing and Claiming: their instances by units, digits and those that meet the unit; an instance by the places of the unit that hold its digit, which none of the unit's instances of that digit change. Assumes nothing.
use mathlib.Core.Path.{◌≡◌, refl, sym, ap, ◌∙◌, subst}
use mathlib.Core.Bool.{Bool, cond}
use mathlib.Core.List.{List, [], ◌∷◌}
use Prim.Native.Nat.{ℕ, zero, suc, ◌+◌, ◌-◌, ◌≤◌, ◌<◌}
use native.Mathlib.Decide.{dec_lt}
use native.Mathlib.Omega.{arith}
use borrow.Author.Tests.{lt-ltb, le-ltb}
use lib.Dec.{eqb, ltb}
use Rattle.candidates.specs.Masks.{has, minus, single, place_mask}
use Rattle.candidates.proofs.Tests.{by-test}
use Rattle.grid.specs.Units.{unit, unit_cell, in_unit}
use Rattle.grid.proofs.Lists.{mem-range, range-end, turn-done, each_same}
use Rattle.grid.proofs.Units.{cell_in}
use Rattle.steps.specs.Boards.{is_open}
use Rattle.steps.specs.Instances.{Instance, line_of, box_of, locked_step, pointing, claiming, step_of, pointings, claimings}
use Rattle.steps.specs.Loops.{each, for, range, up_to}
use Rattle.steps.specs.Passes.{Pointing, Claiming, instances, instance_taken, pass}
use Rattle.steps.specs.StepLists.{step_bytes}
use Rattle.steps.specs.Steps.{Step, lose_all, step_taken}
use Rattle.steps.specs.code.Logs.{log_after}
use Rattle.steps.proofs.Loops.{in-up_to, each-for}
use Rattle.steps.proofs.StepLogs.{log-idle, log-done}
use Rattle.steps.proofs.Turns.{each-alike, each-one, each_in}
use Rattle.cells.specs.code.Places.{lose_places, held_places}
use Rattle.cells.specs.code.Meets.{meetings, met_places, outside, met_unit, meet_turn, meet_turns}
use Rattle.cells.proofs.Places.{all-kept}
use Rattle.cells.proofs.HeldPlaces.{held_same, confined}
use Rattle.cells.proofs.Meetings.{three-boxes, six-lines, met-box, met-line, on-met, met-lose}
use Rattle.locked.specs.code.Locked.{met_instance, digit_instances, unit_instances, locked_digit, locked_unit}

-- ---- one unit and digit

module _ (g : List ℕ) (u d : ℕ) (h : u < 27) (l : d < 9) where
  abbrev loss : ℕ → ℕ
  loss e = cond (in_unit u e) 0 (single d)

  taken : (m : List ℕ) (k : ℕ) → k < meetings u → step_taken (is_open g) (locked_step u (met_unit u k) d) m ≡ meet_turn g u d (held_places m u d) k m
  unfolding step_taken meet_turn
  taken m k n =
      ap (λ (t : Bool). cond t (lose_all (is_open g) (unit (met_unit u k)) loss m) m) (confined m u d (in_unit (met_unit u k)) (met_places k) h (on-met u k h n))
      ∙ ap (λ (x : List ℕ). cond (eqb (minus (held_places m u d) (met_places k)) 0) x m) (sym (met-lose u k h n g d l m))

  -- what the unit holds of d stays
  pub keeps : (held k : ℕ) (m : List ℕ) → k < meetings u → held_places (meet_turn g u d held k m) u d ≡ held_places m u d
  unfolding meet_turn
  keeps held k m n =
      by-test (λ (x : List ℕ). held_places x u d ≡ held_places m u d) (eqb (minus held (met_places k)) 0) (lose_places (is_open g) (met_unit u k) (outside u k) (place_mask d) m) m
      (λ t. ap (λ (x : List ℕ). held_places x u d) (met-lose u k h n g d l m)
      ∙ held_same (lose_all (is_open g) (unit (met_unit u k)) loss m) m u d h
      (λ i o. ap (λ (x : ℕ). has x d) (all-kept (is_open g) loss (unit_cell u i) (ap (λ (t : Bool). cond t 0 (single d)) (cell_in u i h o)) (unit (met_unit u k)) m)))
      (λ t. refl)

  pub locked-digit : (m : List ℕ) → locked_digit g u d m ≡ meet_turns g u (meetings u) d (held_places m u d) m
  unfolding locked_digit meet_turns
  locked-digit m =
      (each-alike (λ k. step_taken (is_open g) (locked_step u (met_unit u k) d)) (meet_turn g u d (held_places m u d)) (λ (n : List ℕ). held_places n u d ≡ held_places m u d) (up_to (meetings u))
      (λ k i n e. (taken n k (in-up_to (meetings u) k i) ∙ ap (λ (x : ℕ). meet_turn g u d x k n) e, keeps (held_places m u d) k n (in-up_to (meetings u) k i) ∙ e)) m refl).0

-- ---- the instances

-- what holds of Claiming at a line and one of its boxes, and of Pointing at a box and one of its lines, holds of every instance
by_kind : (P : ℕ → ℕ → Instance → Type 0) (d : ℕ) → ((l k : ℕ) → l < 18 → k < 3 → P l (box_of l k) (claiming l d k)) → ((b k : ℕ) → b < 9 → k < 6 → P (18 + b) (line_of b k) (pointing b d k))
    → (u k : ℕ) → u < 27 → k < meetings u → P u (met_unit u k) (met_instance u d k)
unfolding met_instance
by_kind P d line block u k h n = go (dec_lt u 18)
  where
    go : Dec (u < 18) → P u (met_unit u k) (cond (ltb u 18) (claiming u d k) (pointing (u - 18) d k))
    go (yes l) =
        let j : k < 3 = omega (arith, three-boxes l, n) in
        rw (lt-ltb u 18 l, met-box l j) (line u k l j)
    go (no l) =
        let b : 18 ≤ u = omega arith in
        let j : k < 6 = omega (arith, six-lines b, n) in
        let z : 18 + (u - 18) ≡ u = omega arith in
        rw (le-ltb u 18 b)
        (subst (λ (v : ℕ). P v (met_unit v k) (pointing (u - 18) d k)) z (subst (λ (v : ℕ). P (18 + (u - 18)) v (pointing (u - 18) d k)) (sym (met-line (omega arith) j)) (block (u - 18) k (omega arith) j)))

instance-step : (u d k : ℕ) → u < 27 → k < meetings u → step_of (met_instance u d k) ≡ locked_step u (met_unit u k) d
unfolding step_of
instance-step u d = by_kind (λ u v x. step_of x ≡ locked_step u v d) d (λ l k h n. refl) (λ b k h n. refl) u

-- as it is noted
pub instance-bytes : (u d k : ℕ) → u < 27 → k < meetings u → {kind v : ℕ} → kind ≡ cond (ltb u 18) 4 3 → v ≡ met_unit u k → kind ∷ u ∷ (d + 1) ∷ v ∷ 0 ∷ 0 ∷ [] ≡ step_bytes (met_instance u d k)
unfolding step_bytes
instance-bytes u d k h n p q =
    rw (p, q)
    (by_kind (λ u v x. cond (ltb u 18) 4 3 ∷ u ∷ (d + 1) ∷ v ∷ 0 ∷ 0 ∷ [] ≡ step_bytes x) d (λ l k h n. ap (λ (t : Bool). cond t 4 3 ∷ l ∷ (d + 1) ∷ box_of l k ∷ 0 ∷ 0 ∷ []) (lt-ltb l 18 h))
    (λ b k h n. ap (λ (t : Bool). cond t 4 3 ∷ (18 + b) ∷ (d + 1) ∷ line_of b k ∷ 0 ∷ 0 ∷ []) (le-ltb (18 + b) 18 (omega arith))) u k h n)

-- those of the boxes and of the lines
pub pointings-are : for (range 9 18) unit_instances ≡ instances Pointing
unfolding for unit_instances digit_instances met_instance meetings instances pointings
pointings-are = refl

pub claimings-are : for (up_to 18) unit_instances ≡ instances Claiming
unfolding for unit_instances digit_instances met_instance meetings instances claimings
claimings-are = refl

module _ (g : List ℕ) where
  pub instance-taken : (u d k : ℕ) → u < 27 → d < 9 → k < meetings u → (m : List ℕ) {held : ℕ} → held ≡ held_places m u d → instance_taken g (met_instance u d k) m ≡ meet_turn g u d held k m
  instance-taken u d k h l n m is = rw is (ap (λ (s : Step). step_taken (is_open g) s m) (instance-step u d k h n) ∙ taken g u d h l m k n)

  pub digit-each : (u d : ℕ) → u < 27 → (m : List ℕ) → each (instance_taken g) (digit_instances u d) m ≡ locked_digit g u d m
  unfolding digit_instances locked_digit
  digit-each u d h m =
      each-one (instance_taken g) (up_to (meetings u)) (met_instance u d) m
      ∙ each_same (λ k. instance_taken g (met_instance u d k)) (λ k. step_taken (is_open g) (locked_step u (met_unit u k) d)) (up_to (meetings u))
      (λ k i s. ap (λ (e : Step). step_taken (is_open g) e s) (instance-step u d k h (in-up_to (meetings u) k i))) m

  pub unit-each : (u : ℕ) → u < 27 → (m : List ℕ) → each (instance_taken g) (unit_instances u) m ≡ locked_unit g u m
  unfolding unit_instances locked_unit
  unit-each u h = each_in (instance_taken g) (up_to 9) (digit_instances u) (locked_digit g u) (λ d. digit-each u d h)

  -- ---- units that lose nothing, passed over: those that are left still make the whole, of the masks and of the log

  module _ (first end : ℕ) (most : end ≤ 27) (m l : List ℕ) where
    abbrev pub Left : ℕ → Type 0
    Left s = (each (locked_unit g) (range (end - s) s) m ≡ each (locked_unit g) (range (end - first) first) m)
        × (log_after g (for (range (end - s) s) unit_instances) m l ≡ log_after g (for (range (end - first) first) unit_instances) m l)

    past : (n : ℕ) → ((u : ℕ) → first ≤ u → u < first + n → u < end → locked_unit g u m ≡ m) → Left (first + n)
    past zero idle =
        let e : first + 0 ≡ first = omega arith in
        rw e (refl, refl)
    past (suc n) idle =
        let e : first + suc n ≡ first + n + 1 = omega arith in
        rw e (go (dec_lt (first + n) end) (past n (λ u a b. idle u a (omega arith))))
      where
        same : first + n < end → each (instance_taken g) (unit_instances (first + n)) m ≡ m
        same h = unit-each (first + n) (omega arith) m ∙ idle (first + n) (omega arith) (omega arith) h

        go : Dec (first + n < end) → Left (first + n) → Left (first + n + 1)
        go (yes h) w = (
          turn-done (locked_unit g) end (first + n) h (sym (idle (first + n) (omega arith) (omega arith) h)) w.0,
          log-done g unit_instances end (first + n) m l h (sym (same h)) (sym (log-idle g (unit_instances (first + n)) m l (same h))) w.1,
        )
        go (no h) w =
            let none = range-end end (first + n + 1) (omega arith) ∙ sym (range-end end (first + n) (omega arith)) in
            (ap (λ (is : List ℕ). each (locked_unit g) is m) none ∙ w.0, ap (λ (is : List ℕ). log_after g (for is unit_instances) m l) none ∙ w.1)

    pub units-past : (s : ℕ) → first ≤ s → ((u : ℕ) → first ≤ u → u < s → u < end → locked_unit g u m ≡ m) → Left s
    units-past s h idle =
        let e : first + (s - first) ≡ s = omega arith in
        subst Left e (past (s - first) (λ u a b. idle u a (omega arith)))

  -- ---- the passes

  units-each : (n first : ℕ) → first + n ≤ 27 → (m : List ℕ) → each (instance_taken g) (for (range n first) unit_instances) m ≡ each (locked_unit g) (range n first) m
  units-each n first most m =
      each-for (instance_taken g) (range n first) unit_instances m
      ∙ each_same (λ u. each (instance_taken g) (unit_instances u)) (locked_unit g) (range n first) (λ u i. unit-each u (omega (arith, mem-range n first u i))) m

  pub pointing-pass : (m : List ℕ) → each (locked_unit g) (range 9 18) m ≡ pass g Pointing m
  unfolding pass
  pointing-pass m = sym (units-each 9 18 (omega arith) m) ∙ ap (λ (xs : List Instance). each (instance_taken g) xs m) pointings-are

  pub claiming-pass : (m : List ℕ) → each (locked_unit g) (up_to 18) m ≡ pass g Claiming m
  unfolding pass
  claiming-pass m = sym (units-each 18 0 (omega arith) m) ∙ ap (λ (xs : List Instance). each (instance_taken g) xs m) claimings-are
