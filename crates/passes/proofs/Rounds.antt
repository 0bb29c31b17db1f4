-- A sweep that is left once six passes in a row have removed nothing: none of the six removes anything then, and what was swept is a whole sweep. Assumes nothing.
use mathlib.Core.Path.{◌≡◌, refl, sym, ap, ◌∙◌}
use mathlib.Core.Logic.{◌≢◌, ◌⊎◌, inl, inr, ⊎_elim}
use mathlib.Core.List.{List}
use Prim.Native.Nat.{ℕ, ◌+◌, ◌-◌, ◌≤◌, ◌<◌}
use native.Mathlib.Decide.{ℕ_discrete, dec_lt}
use native.Mathlib.Omega.{arith}
use lib.ListN.{get_or, get_or-eq_default}
use Rattle.grid.proofs.Lists.{turn-done, turns-over}
use Rattle.steps.specs.Instances.{Instance}
use Rattle.steps.specs.Loops.{each, for, range, up_to}
use Rattle.steps.specs.Passes.{Cross, kinds, instances, instance_taken, pass, sweep, Settled}
use Rattle.steps.specs.StepLists.{sweep_instances}
use Rattle.steps.specs.code.Logs.{log_after}
use Rattle.steps.proofs.Loops.{each-idle, in-up_to}
use Rattle.steps.proofs.Masks.{under-antisym}
use Rattle.steps.proofs.Reach.{Reach, start, reach-trans, reach-under, reach-length, pass-reach}
use Rattle.steps.proofs.StepLogs.{log-idle}
use Rattle.steps.proofs.Turns.{each_in}
use Rattle.passes.specs.code.Rounds.{nth_kind, IdleTo, LastIdle, Swept}

-- the fifth and later ones
pub last-kind : (n : ℕ) → 5 ≤ n → nth_kind n ≡ Cross
unfolding nth_kind
last-kind n h = go (ℕ_discrete n 5)
  where
    go : Dec (n ≡ 5) → get_or kinds n Cross ≡ Cross
    go (yes e) = ap (λ (k : ℕ). get_or kinds k Cross) e
    go (no d) = get_or-eq_default kinds Cross {n = n} (omega (arith, d))

module _ (g : List ℕ) where
  -- the nth pass
  abbrev turn : ℕ → List ℕ → List ℕ
  turn n m = pass g (nth_kind n) m

  sweep-turns : (m : List ℕ) → sweep g m ≡ each turn (up_to 6) m
  unfolding sweep nth_kind each
  sweep-turns m = refl

  -- the instances of the nth pass
  abbrev pub pass_instances : ℕ → List Instance
  pass_instances n = instances (nth_kind n)

  pub sweep-blocks : for (up_to 6) pass_instances ≡ sweep_instances
  unfolding sweep_instances nth_kind for
  sweep-blocks = refl

  blocks-each : (ns : List ℕ) (m : List ℕ) → each (instance_taken g) (for ns pass_instances) m ≡ each turn ns m
  blocks-each ns m = each_in (instance_taken g) ns pass_instances turn (λ n o. unfold pass in refl) m

  -- what is removed does not come back
  stays : {m n o : List ℕ} → Reach g m n → Reach g n o → o ≡ m → n ≡ m
  stays a b e =
      under-antisym (reach-length g a) (reach-under g a) (rw (sym e) (reach-under g b))

  -- the masks n and the passes in a row that have removed nothing, after the first w passes of a sweep that began with m and q of them
  pub record Going (m : List ℕ) (q w i : ℕ) (n : List ℕ) : Type 0 where
    pub few : i ≤ 6
    pub reach : Reach g m n
    pub rest : each turn (range (6 - w) w) n ≡ sweep g m
    pub idle : IdleTo g w i n
    pub either : ((n ≡ m) × (i ≡ q + w)) ⊎ ((n ≢ m) × (i < w))

  pub going_start : (m : List ℕ) (q : ℕ) → q < 6 → Going m q 0 q m
  going_start m q h =
      record {
        few = omega arith;
        reach = start;
        rest = sym (sweep-turns m);
        idle = record { still = λ j a b. absurd (omega arith) };
        either = inl (refl, omega arith);
      }

  module _ {m n : List ℕ} {q w i : ℕ} (w6 : w < 6) (i6 : i < 6) (so : Going m q w i n) {o : List ℕ} (did : o ≡ turn w n) where
    on-reach : Reach g m o
    on-reach = reach-trans g so.reach (rw did (pass-reach g (nth_kind w) n))

    on-rest : each turn (range (6 - (w + 1)) (w + 1)) o ≡ sweep g m
    on-rest = turn-done turn 6 w w6 did so.rest

    -- a pass that removes nothing
    pub going-idle : o ≡ n → Going m q (w + 1) (i + 1) o
    going-idle e =
        record {
          few = omega arith;
          reach = on-reach;
          rest = on-rest;
          idle = record { still = λ j a b. passed j a b (ℕ_discrete j w) };
          either = ⊎_elim (λ p. inl (e ∙ p.0, omega (arith, p.1))) (λ p. inr ((λ x. p.0 (sym e ∙ x)), omega (arith, p.1))) so.either;
        }
      where
        passed : (j : ℕ) → w + 1 ≤ j + (i + 1) → j < w + 1 → Dec (j ≡ w) → turn j o ≡ o
        passed j a b (yes x) = ap (λ (k : ℕ). turn k o) x ∙ ap (turn w) e ∙ sym did
        passed j a b (no x) = ap (turn j) e ∙ so.idle.still j (omega arith) (omega (arith, x)) ∙ sym e

    -- a pass that removes something
    pub going-changed : o ≢ n → Going m q (w + 1) 0 o
    going-changed d =
        record {
          few = omega arith;
          reach = on-reach;
          rest = on-rest;
          idle = record { still = λ j a b. absurd (omega arith) };
          either = inr ((λ x. d (x ∙ sym (stays so.reach (rw did (pass-reach g (nth_kind w) n)) x))), omega arith);
        }

  module _ {m n : List ℕ} {q w i : ℕ} (w6 : w ≤ 6) (so : Going m q w i n) where
    -- six passes in a row have removed nothing
    pub swept-early : LastIdle g q m → i ≡ 6 → Swept g m n 6
    swept-early last i6 =
        record {
          few = omega arith;
          swept = same ∙ sym all-idle;
          stops = λ _. same;
          goes = λ h. absurd (omega (arith, h));
        }
      where
        quiet : (n ≡ m) × (i ≡ q + w)
        quiet = ⊎_elim (λ p. p) (λ p. absurd (omega (arith, p.1, i6))) so.either

        same : n ≡ m
        same = quiet.0

        none : (j : ℕ) → j < 6 → Dec (j < w) → turn j m ≡ m
        none j h (yes x) = ap (turn j) (sym same) ∙ so.idle.still j (omega (arith, i6)) x ∙ same
        none j h (no x) = last.still j (omega (arith, x, quiet.1, i6)) h

        all-idle : sweep g m ≡ m
        all-idle = sweep-turns m ∙ each-idle turn (up_to 6) m (λ j at. none j (in-up_to 6 j at) (dec_lt j w))

    -- settling is over: the passes that are left would remove nothing
    pub swept-over : Settled g n → i ≡ 0 → 0 < w → Swept g m n 5
    swept-over s i0 w0 =
        record {
          few = omega arith;
          swept = sym (each-idle turn (range (6 - w) w) n (λ j _. none j)) ∙ so.rest;
          stops = λ e. absurd (omega (arith, e));
          goes = λ _. (⊎_elim (λ p. absurd (omega (arith, p.1, i0, w0))) (λ p. p.0) so.either, record { still = λ j a b. none j });
        }
      where
        none : (j : ℕ) → turn j n ≡ n
        none j = unfold pass in each-idle (instance_taken g) (instances (nth_kind j)) n (s.still (nth_kind j))

    -- a sweep that is left so notes nothing more
    pub left-silent : {r : ℕ} → Swept g m n r → (l : List ℕ) → log_after g (for (range (6 - w) w) pass_instances) n l ≡ l
    left-silent s l = log-idle g (for (range (6 - w) w) pass_instances) n l (blocks-each (range (6 - w) w) n ∙ so.rest ∙ sym s.swept)

    -- six passes are done
    pub swept-end : 6 ≤ w → Swept g m n i
    swept-end h =
        record {
          few = so.few;
          swept = turns-over turn 6 w h so.rest;
          stops = λ e. ⊎_elim (λ p. p.0) (λ p. absurd (omega (arith, p.1, e))) so.either;
          goes = λ l. ⊎_elim (λ p. absurd (omega (arith, p.1, l))) (λ p. (p.0, record { still = λ j a b. so.idle.still j (omega arith) (omega arith) })) so.either;
        }
