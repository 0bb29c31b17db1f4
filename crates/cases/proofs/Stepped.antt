-- Document 02, F-10: the steps of P10's settling, accepted; a step too many and a shorter last piece, refused. Assumes nothing.
use mathlib.Core.Path.{◌≡◌, refl, sym, ap, ◌∙◌}
use mathlib.Core.List.{List, [], ◌∷◌, ◌++◌, map, append-nil}
use mathlib.Core.Option.{Option}
use Prim.Native.Nat.{ℕ, ◌+◌, ◌*◌, ◌/◌, ◌≤◌}
use native.Mathlib.Omega.{arith}
use lib.IntN.{pos}
use lib.ListN.{length}
use Rattle.stops.specs.Answer as answers
use Rattle.stops.specs.Answer.{Answer, gives, stop, then, passing}
use Rattle.stops.specs.declared.Stop.{Stop}
use Rattle.stops.specs.declared.Stop.TheVariants.{BadStep, TooManySteps}
use Rattle.grid.specs.Units.{units, unit}
use Rattle.steps.specs.Boards.{Board, givens_of, givens, with_masks, fresh}
use Rattle.steps.specs.Calls.{Admitted, Outcome, settling_call, outcome, answer, left, check_of, opened, opened_with}
use Rattle.steps.specs.Instances.{Instance, pointing, pointings, step_of}
use Rattle.steps.specs.Loops.{each, for, up_to}
use Rattle.steps.specs.Passes.{Kind, Lone, Place, Pair, Pointing, Claiming, Cross, instances, instance_taken, pass, Sweeps}
use Rattle.steps.specs.StepLists.{step_bytes, sweep_instances, step_count, steps_of, follow, count_check, check_steps_of, effective, settling_instances, settling_steps, bytes_of}
use Rattle.steps.specs.Steps.{step_taken}
use Rattle.steps.specs.code.Decoding.{named_at, named_by}
use Rattle.steps.proofs.Entries.{givens-none}
use Rattle.steps.proofs.Fresh.{fresh-length}
use Rattle.steps.proofs.Lists.{opened-taken}
use Rattle.steps.proofs.StepLogs.{effective-append, idle-silent, sweep-each}
use Rattle.steps.proofs.StepPieces.{steps-at}
use Rattle.steps.proofs.StepPromises.{few-checked, step-lists}
use Rattle.cases.specs.Bytes.{p10_steps}
use Rattle.cases.specs.Cases.{CaseSteps, fresh_masks, on_fresh}
use Rattle.cases.specs.Grids.{p10}
use Rattle.cases.proofs.Entered.{p10-clues}
use Rattle.cases.proofs.Laws.{fresh-value}
use Rattle.cases.proofs.P10.{g, m, n, values, lone₁, place₁, pair₁, pointing₁, claiming, cross, sweep₁, sweep₂, settles}

-- ---- the steps of passes one after the other

three : List Instance
three = pointing 0 0 0 ∷ pointing 0 1 0 ∷ pointing 0 2 0 ∷ []

-- one pass, and those after it
next-pass : (k : Kind) (ks : List Kind) (a : List ℕ) {b : List ℕ} {xs ys : List Instance} → pass g k a ≡ b → effective g (instances k) a ≡ xs → effective g (for ks instances) b ≡ ys → effective g (for (k ∷ ks) instances) a ≡ xs ++ ys
unfolding for pass
next-pass k ks a {xs = xs} p e f =
    effective-append g (instances k) (for ks instances) a ∙ ap (λ (zs : List Instance). zs ++ effective g (for ks instances) (each (instance_taken g) (instances k) a)) e
    ∙ ap (λ (zs : List Instance). xs ++ zs) (ap (effective g (for ks instances)) p ∙ f)

-- a pass that removes nothing
still : (k : Kind) (a : List ℕ) → pass g k a ≡ a → effective g (instances k) a ≡ []
unfolding pass
still k a p = idle-silent g (instances k) a p

pointed : effective g (instances Pointing) m ≡ three
unfolding g m three effective instances pointings step_taken step_of each for unit units
pointed = refl

first-sweep : effective g sweep_instances m ≡ three
unfolding sweep_instances effective for three
first-sweep =
    next-pass Lone (Place ∷ Pair ∷ Pointing ∷ Claiming ∷ Cross ∷ []) m lone₁ (still Lone m lone₁)
    (next-pass Place (Pair ∷ Pointing ∷ Claiming ∷ Cross ∷ []) m place₁ (still Place m place₁)
    (next-pass Pair (Pointing ∷ Claiming ∷ Cross ∷ []) m pair₁ (still Pair m pair₁)
    (next-pass Pointing (Claiming ∷ Cross ∷ []) m pointing₁ pointed
    (next-pass Claiming (Cross ∷ []) n claiming (still Claiming n claiming) (next-pass Cross [] n cross (still Cross n cross) refl)))))

second-sweep : effective g (sweep_instances ++ []) n ≡ []
second-sweep = ap (λ (xs : List Instance). effective g xs n) (append-nil sweep_instances) ∙ idle-silent g sweep_instances n (sweep-each g n ∙ sweep₂)

own-steps : settling_steps g m ≡ three
unfolding settling_steps settling_instances for three
own-steps =
    ap (λ (s : Sweeps). effective g (for (up_to s.sweeps) (λ _. sweep_instances)) m) settles
    ∙ effective-append g sweep_instances (sweep_instances ++ []) m
    ∙ ap (λ (xs : List Instance). xs ++ effective g (sweep_instances ++ []) (each (instance_taken g) sweep_instances m)) first-sweep
    ∙ ap (λ (xs : List Instance). three ++ xs) (ap (effective g (sweep_instances ++ [])) (sweep-each g m ∙ sweep₁) ∙ second-sweep)

three-bytes : bytes_of three ≡ p10_steps
unfolding three bytes_of step_bytes for
three-bytes = refl

-- ---- the checker

b : Board
b = opened p10

opened-givens : givens b ≡ givens_of p10
unfolding b opened_with
opened-givens = givens-none p10

b-givens : givens b ≡ g
b-givens = opened-givens ∙ values.givens

b-fresh : b.masks ≡ fresh (givens b)
unfolding b opened_with
b-fresh = refl

taken : check_of b ≡ gives tt
unfolding b
taken = opened-taken p10 p10-clues

admitted : Admitted b
unfolding b opened_with
admitted = record { clues = p10-clues.size; entries = refl; masks = fresh-length (givens b); taken = taken }

own_value : settling_steps (givens_of p10) (fresh_masks p10) ≡ three
own_value = ap (λ (l : List ℕ). settling_steps l (fresh_masks p10)) values.givens ∙ ap (settling_steps g) (fresh-value values) ∙ own-steps

own-bytes : bytes_of (settling_steps (givens b) b.masks) ≡ p10_steps
own-bytes =
    ap bytes_of (ap (settling_steps (givens b)) b-fresh ∙ ap (λ (l : List ℕ). settling_steps l (fresh l)) b-givens ∙ ap (settling_steps g) values.masks ∙ own-steps) ∙ three-bytes

settled-board : left b (answer settling_call b) ≡ with_masks b (on_fresh settling_call p10).masks
unfolding answer
settled-board =
    ap (λ (w : Answer (Unit {0})). left b (passing w (outcome settling_call (givens b) b.masks))) taken
    ∙ ap (λ (o : Outcome). with_masks b o.masks) (ap (outcome settling_call (givens b)) b-fresh ∙ ap (λ (l : List ℕ). outcome settling_call l (fresh l)) opened-givens)

accepts : check_steps_of b p10_steps ≡ gives (with_masks b (on_fresh settling_call p10).masks)
accepts = ap (check_steps_of b) (sym own-bytes) ∙ step-lists.settling b admitted b-fresh ∙ ap gives settled-board

-- a list by what its steps answer from the masks written out
by-steps : (bs : List ℕ) → step_count bs ≤ 729 → {s : Stop} → follow g 0 (map (λ i. named_at bs (6 * i)) (up_to (step_count bs))) m ≡ stop s → check_steps_of b bs ≡ stop s
by-steps bs h e =
    few-checked b bs taken h
    ∙ ap (answers.map (with_masks b))
    (ap (λ (l : List ℕ). follow l 0 (steps_of bs) (fresh l)) b-givens ∙ ap (follow g 0 (steps_of bs)) values.masks
    ∙ ap (λ (ss : List (Option Instance)). follow g 0 ss m) (steps-at bs) ∙ e)

abbrev again : List ℕ
again = p10_steps ++ 3 ∷ 18 ∷ 3 ∷ 0 ∷ 0 ∷ 0 ∷ []

abbrev cut : List ℕ
cut = p10_steps ++ 3 ∷ 18 ∷ 3 ∷ []

again-stops : follow g 0 (map (λ i. named_at again (6 * i)) (up_to 4)) m ≡ stop (BadStep (pos 3))
unfolding g m follow named_at named_by step_taken step_of each unit units
again-stops = refl

cut-stops : follow g 0 (map (λ i. named_at cut (6 * i)) (up_to 4)) m ≡ stop (BadStep (pos 3))
unfolding g m follow named_at named_by step_taken step_of each unit units
cut-stops = refl

too_many : (bs : List ℕ) → length bs ≡ 4375 → check_steps_of b bs ≡ stop (TooManySteps (pos 730))
unfolding check_steps_of
too_many bs l =
    ap (λ (a : Answer (Unit {0})). then a (λ _. then (count_check (step_count bs)) (λ _. answers.map (with_masks b) (follow (givens b) 0 (steps_of bs) (fresh (givens b)))))) taken
    ∙ ap (λ (k : ℕ). then (count_check k) (λ _. answers.map (with_masks b) (follow (givens b) 0 (steps_of bs) (fresh (givens b))))) (ap (λ (k : ℕ). (k + 5) / 6) l)

pub steps-hold : CaseSteps
unfolding b three
steps-hold =
    record {
      own = own_value;
      bytes = three-bytes;
      accepted = accepts;
      twice = by-steps again (omega arith) again-stops;
      short = by-steps cut (omega arith) cut-stops;
      many = too_many;
      row15 = refl;
      row16 = refl;
    }
