-- What a round promises: of the solution it keeps digits alone, and demand 3's half on fillings does the rest. Assumes nothing.
use mathlib.Core.Path.{◌≡◌, refl, sym, ap, subst, ◌∙◌}
use mathlib.Core.Logic.{◌≢◌}
use mathlib.Core.Bool.{Bool, true, false, cond}
use mathlib.Core.List.{List, [], ◌∷◌}
use Prim.Native.Nat.{ℕ, zero, suc, ◌+◌, ◌/◌, ◌%◌, ◌≤◌, ◌<◌}
use native.Mathlib.Nat.{add-mod_right, mod-lt}
use native.Mathlib.Omega.{arith}
use borrow.Author.Tests.{le-leb, lt-ltb, le-ltb}
use lib.Dec.{leb}
use lib.IntN.{ℤ, pos}
use lib.ListN.{length, get_or, length-map}
use lib.Seq.{ext_get_or}
use Rattle.std.specs.Prelude.{Ok}
use Rattle.stops.specs.Answer.{gives, stop, then, passing}
use Rattle.stops.specs.declared.Stop.TheVariants.{BadPercentage, BadSolution}
use Rattle.stops.proofs.Answers.{gives_same, stop-gives}
use Rattle.candidates.proofs.Tests.{by-test, cond-true, cond-false}
use Rattle.grid.specs.Cells.{cells}
use Rattle.grid.specs.Fillings.{number_at, Digit, Correct, verified}
use Rattle.grid.proofs.Fillings.{verified-correct}
use Rattle.grid.proofs.Lists.{at-up_to, range_length, map_same}
use Rattle.steps.specs.Boards.{no_entries}
use Rattle.steps.specs.Boards as S
use Rattle.steps.specs.Calls.{Call, Clues, bad_clue, settling_call, without_ported, opened, run}
use Rattle.steps.specs.Fillings.{KeepsClues, InMasks}
use Rattle.steps.proofs.Entries.{no-entries}
use Rattle.steps.proofs.Lists.{play-run, run-fillings}
use Rattle.board.specs.Boards.{board_of, no_clues}
use Rattle.board.specs.declared.Board.{Board}
use Rattle.calls.specs.Replays.{calls_of}
use Rattle.calls.proofs.Demand3.{demand3}
use Rattle.trial_rounds.specs.Rounds.{state_after, next_state, is_kept, clue_of, clue_at, round_clues, round_of, percentage_check, solution_check, Makes}
use Rattle.trial_rounds.specs.Promises.{KeepsSolution, TrialRounds}

-- ---- the answer

-- a round was made: the verifier passes the solution
module _ (start percentage : ℕ) (solution : List ℤ) where
  made-clues : {clues : List ℤ} → gives clues ≡ round_of start percentage solution → (verified solution ≡ true) × (clues ≡ round_clues start percentage solution)
  unfolding round_of
  made-clues {clues} e = go (leb percentage 100) (verified solution) refl e
    where
      go : (t u : Bool) → verified solution ≡ u
          → gives clues ≡ passing (then (cond t (gives (tt {0})) (stop (BadPercentage percentage))) (λ _. cond u (gives (tt {0})) (stop BadSolution))) (round_clues start percentage solution)
          → (verified solution ≡ true) × (clues ≡ round_clues start percentage solution)
      go true true v e = (v, gives_same e)
      go true false v e = absurd (stop-gives (sym e))
      go false u v e = absurd (stop-gives (sym e))

  round-made : percentage ≤ 100 → verified solution ≡ true → round_of start percentage solution ≡ gives (round_clues start percentage solution)
  unfolding round_of
  round-made h v = rw (le-leb percentage 100 h, v)

  -- ---- the clues, one by one

  clues-length : length (round_clues start percentage solution) ≡ 81
  unfolding round_clues cells
  clues-length = length-map cells (clue_at start percentage solution) ∙ range_length 81 0

  at-cell : (c : ℕ) → c < 81 → get_or (round_clues start percentage solution) c (pos 0) ≡ clue_at start percentage solution c
  unfolding round_clues cells
  at-cell c h = at-up_to (clue_at start percentage solution) (pos 0) 81 c h

  digit-clue : (z : ℤ) → Digit z → bad_clue z ≡ false
  digit-clue z d = ap bad_clue d.is ∙ rw (le-leb d.digit 9 d.high)

  -- a clue is the solution's digit, or none
  clues-good : Correct solution → (c : ℕ) → c < 81 → bad_clue (clue_at start percentage solution c) ≡ false
  clues-good ok c h =
      by-test (λ (z : ℤ). bad_clue z ≡ false) (is_kept (state_after start (suc c)) percentage) (number_at solution c) (pos 0)
      (λ _. digit-clue (number_at solution c) (ok.digits c h)) (λ _. refl)

  clues-kept : (c : ℕ) → clue_at start percentage solution c ≢ pos 0 → number_at solution c ≡ clue_at start percentage solution c
  clues-kept c =
      by-test (λ (z : ℤ). z ≢ pos 0 → number_at solution c ≡ z) (is_kept (state_after start (suc c)) percentage) (number_at solution c) (pos 0)
      (λ _ _. refl) (λ _ n. absurd (n refl))

  round-clues : Correct solution → Clues (round_clues start percentage solution)
  round-clues ok = record { size = clues-length; good = λ c h. ap bad_clue (at-cell c h) ∙ clues-good ok c h }

  round_keeps : KeepsClues (round_clues start percentage solution) solution
  round_keeps = record { kept = λ c h n. clues-kept c (λ e. n (at-cell c h ∙ e)) ∙ sym (at-cell c h) }

-- ---- the promise

promised : (clues solution : List ℤ) → length solution ≡ 81 → verified solution ≡ true → Clues clues → KeepsClues clues solution → KeepsSolution clues solution
promised clues solution n v ok keeps =
    record {
      opens = ok;
      passes = v;
      correct = verified-correct solution n v;
      keeps = keeps;
      settling = λ B at. calls-keep (settling_call ∷ []) refl B (at ∙ play-run (settling_call ∷ []) (opened clues));
      lists = λ xs w B at entered.
          (demand3.fillings clues no_entries ok (no-entries clues) xs w B at solution n v).1
          (record { clues = subst (λ (l : List ℤ). KeepsClues l solution) (sym (demand3.printed clues no_entries xs B at)) keeps; entries = entered });
      replayed = λ ns w r e.
          let d = demand3.replays clues no_entries ok (no-entries clues) ns w.steps r e in
          (d.0, d.1, calls-keep (calls_of ns) w.none_of d.0 (d.2 ∙ play-run (calls_of ns) (opened clues)));
    }
  where
    -- calls alone, from the fresh board of the clues
    calls-keep : (ks : List Call) → without_ported ks ≡ true → (B : Board) → board_of B ≡ run ks (opened clues) → InMasks B.masks solution
    calls-keep ks w B at = subst (λ (b : S.Board). InMasks b.masks solution) (sym at) ((run-fillings clues ok ks w solution n v).1 keeps)

made : (start percentage : ℕ) (solution : List ℤ) → length solution ≡ 81 → (clues : List ℤ) → Makes start percentage solution (Ok clues) → KeepsSolution clues solution
made start percentage solution n clues e =
    let m = made-clues start percentage solution e in
    subst (λ (l : List ℤ). KeepsSolution l solution) (sym m.1)
    (promised (round_clues start percentage solution) solution n m.0
    (round-clues start percentage solution (verified-correct solution n m.0)) (round_keeps start percentage solution))

-- ---- 0 and 100 percent

none : (start : ℕ) (solution : List ℤ) → verified solution ≡ true → round_of start 0 solution ≡ gives no_clues
unfolding round_clues cells
none start solution v =
    round-made start 0 solution (omega arith) v
    ∙ ap gives (map_same (clue_at start 0 solution) (λ _. pos 0) cells
    (λ c _. let s = state_after start (suc c) in cond-false (is_kept s 0) (number_at solution c) (pos 0) (le-ltb (s / 65536 % 100) 0 (omega arith))))

all : (start : ℕ) (solution : List ℤ) → length solution ≡ 81 → verified solution ≡ true → round_of start 100 solution ≡ gives solution
all start solution n v =
    round-made start 100 solution (omega arith) v
    ∙ ap gives (ext_get_or (pos 0) (round_clues start 100 solution) solution (clues-length start 100 solution ∙ sym n)
    (λ c h. at-cell start 100 solution c (omega (arith, clues-length start 100 solution)) ∙ kept c))
  where
    kept : (c : ℕ) → clue_at start 100 solution c ≡ number_at solution c
    kept c =
        let s = state_after start (suc c) in
        cond-true (is_kept s 100) (number_at solution c) (pos 0) (lt-ltb (s / 65536 % 100) 100 (mod-lt (s / 65536) (omega arith)))

-- ---- the start's modulus

same-state : (start n : ℕ) → state_after (start + 2147483648) n ≡ state_after start n
unfolding state_after
same-state start zero = add-mod_right start 2147483648
same-state start (suc n) = ap next_state (same-state start n)

same : (start percentage : ℕ) (solution : List ℤ) → round_of (start + 2147483648) percentage solution ≡ round_of start percentage solution
unfolding round_of round_clues
same start percentage solution =
    ap (passing (then (percentage_check percentage) (λ _. solution_check solution)))
    (map_same (clue_at (start + 2147483648) percentage solution) (clue_at start percentage solution) cells
    (λ c _. ap (λ (s : ℕ). clue_of s percentage (number_at solution c)) (same-state start (suc c))))

pub trial-rounds : TrialRounds
trial-rounds = record { made = made; none = none; all = all; same = same }
