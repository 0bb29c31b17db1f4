-- What is promised of step lists: `step-lists`. Assumes nothing.
use mathlib.Core.Path.{◌≡◌, refl, sym, ap, ◌∙◌, subst}
use mathlib.Core.Logic.{⊎_elim}
use mathlib.Core.Bool.{Bool, true, false, cond, not, ◌&&◌}
use mathlib.Core.List.Memᴰ
use mathlib.Core.List.{List, [], ◌∷◌, map, Memᴰ}
use mathlib.Core.Option.{Option, none, some}
use Prim.Native.Nat.{ℕ, ◌+◌, ◌*◌, ◌≤◌}
use native.Mathlib.Omega.{arith}
use borrow.Author.Tests.{not-true, le-leb}
use lib.Dec.{leb}
use lib.IntN.{pos}
use lib.ListN.{length, take, drop}
use Rattle.stops.specs.Answer as answers
use Rattle.stops.specs.Answer.{Answer, gives, stop, then, passing}
use Rattle.stops.specs.declared.Stop.TheVariants.{BadStep, TooManySteps}
use Rattle.stops.proofs.Answers.{gives_same, stop-gives}
use Rattle.candidates.proofs.Tests.{both, both_left, both_right, cond-true}
use Rattle.steps.specs.Boards.{Board, givens, with_masks, fresh, is_open, same_masks, total}
use Rattle.steps.specs.Calls.{Admitted, check_of, settling_call, outcome, answer, left, opened_with}
use Rattle.steps.specs.Instances.{Instance, step_of}
use Rattle.steps.specs.Loops.{each, up_to}
use Rattle.steps.specs.Passes.{instance_taken, changed, settle, removed_by}
use Rattle.steps.specs.StepLists.{sweep_instances, step_named, step_count, steps_of, is_good, after_step, follow, count_check, check_steps_of, effective, settling_instances, settling_steps, bytes_of}
use Rattle.steps.specs.StepPromises.{Listed, Follows, done, next, StepLists}
use Rattle.steps.specs.Steps.{applies}
use Rattle.steps.proofs.Fillings.{reach-inside}
use Rattle.steps.proofs.Fresh.{fresh-admissible, total-most}
use Rattle.steps.proofs.Lists.{Good, Keeping, admitted-good, board-givens, keeping-fillings}
use Rattle.steps.proofs.Loops.{in-for}
use Rattle.steps.proofs.Masks.{same-eq, same_refl, differ}
use Rattle.steps.proofs.Reach.{Reach, start, reach-trans, reach-admissible}
use Rattle.steps.proofs.Reach as reach
use Rattle.steps.proofs.StepBytes.{names, six-bytes, sweep-in}
use Rattle.steps.proofs.StepLogs.{effective-in, effective-few, settling-each}
use Rattle.steps.proofs.StepPieces.{bytes_steps, bytes-length, byte-below}
use Rattle.steps.proofs.Taking.{left_alone}
use Rattle.steps.proofs.Wide.{module8}

-- ---- steps that are followed

-- a step that removes something has a condition that holds, so code asks for the removal alone
pub good-changes : (g : List ℕ) (s : Option Instance) (m : List ℕ) → is_good g s m ≡ changed m (after_step g s m)
good-changes g none m = sym (ap not (same_refl m))
good-changes g (some x) m = go (applies (step_of x) m) refl
  where
    go : (t : Bool) → applies (step_of x) m ≡ t → (t && changed m (instance_taken g x m)) ≡ changed m (instance_taken g x m)
    go true t = refl
    go false t = sym (ap not (ap (same_masks m) (sym (left_alone (is_open g) (step_of x) m t)) ∙ same_refl m))

-- all steps that are named are instances
abbrev AllListed : List (Option Instance) → Type 0
AllListed ss = (x : Instance) → Memᴰ (some x) ss → Listed x

steps-listed : (bs : List ℕ) → AllListed (steps_of bs)
unfolding steps_of
steps-listed bs x k = go (up_to (step_count bs)) k
  where
    go : (is : List ℕ) → Memᴰ (some x) (map (λ i. step_named (take 6 (drop (6 * i) bs))) is) → Listed x
    go [] k = absurd (Memᴰ.not-nil k)
    go (i ∷ is) k = ⊎_elim (λ e. ((names (take 6 (drop (6 * i) bs)) x).0 (sym e)).0) (go is) (Memᴰ.cases_cons k)

module _ (g : List ℕ) where
  follows : (ss : List (Option Instance)) → AllListed ss → (i : ℕ) (m o : List ℕ) → follow g i ss m ≡ gives o → Follows g m ss o
  unfolding follow
  follows [] all i m o e = subst (λ (n : List ℕ). Follows g m [] n) (gives_same e) done
  follows (none ∷ ss) all i m o e = absurd (stop-gives e)
  follows (some x ∷ ss) all i m o e = go (is_good g (some x) m) refl e (follows ss (λ y k. all y (Memᴰ.tail k)) (i + 1) (instance_taken g x m) o)
    where
      l : Listed x
      l = all x (Memᴰ.head refl)

      go : (t : Bool) → is_good g (some x) m ≡ t → cond t (follow g (i + 1) ss (instance_taken g x m)) (stop (BadStep (pos i))) ≡ gives o
          → (follow g (i + 1) ss (instance_taken g x m) ≡ gives o → Follows g (instance_taken g x m) ss o) → Follows g m (some x ∷ ss) o
      go true t e ih =
          next x l ((module8.instance l.kind x l.listed g m).test.0 (both_left (applies (step_of x) m) (changed m (instance_taken g x m)) t))
          (λ q. differ m (instance_taken g x m) (not-true (same_masks m (instance_taken g x m)) (both_right (applies (step_of x) m) (changed m (instance_taken g x m)) t)) (sym q)) (ih e)
      go false t e ih = absurd (stop-gives e)

  followed : {ss : List (Option Instance)} {m o : List ℕ} → Follows g m ss o → (i : ℕ) → follow g i ss m ≡ gives o
  unfolding follow
  followed done i = refl
  followed (next {m = m} {o = o} {ss = ss} x l c n r) i =
      cond-true (is_good g (some x) m) (follow g (i + 1) ss (instance_taken g x m)) (stop (BadStep (pos i)))
      (both ((module8.instance l.kind x l.listed g m).test.1 c) (differs (same_masks m (instance_taken g x m)) refl)) ∙ followed r (i + 1)
    where
      differs : (t : Bool) → same_masks m (instance_taken g x m) ≡ t → not t ≡ true
      differs true t = absurd (n (sym (same-eq m (instance_taken g x m) t)))
      differs false t = refl

  follows-reach : {ss : List (Option Instance)} {m o : List ℕ} → Follows g m ss o → Reach g m o
  follows-reach done = start
  follows-reach (next x l c n r) = reach-trans g (reach.next start l.kind x l.listed) (follows-reach r)

  -- effective steps are followed to the masks that their instances leave
  effective-followed : (xs : List Instance) (i : ℕ) (m : List ℕ) → follow g i (map some (effective g xs m)) m ≡ gives (each (instance_taken g) xs m)
  unfolding effective follow each
  effective-followed [] i m = refl
  effective-followed (x ∷ xs) i m = go (same_masks m n) refl (λ i. effective-followed xs i n)
    where
      n : List ℕ
      n = instance_taken g x m

      rest : List Instance
      rest = effective g xs n

      go : (t : Bool) → same_masks m n ≡ t → ((i : ℕ) → follow g i (map some rest) n ≡ gives (each (instance_taken g) xs n)) → follow g i (map some (cond t rest (x ∷ rest))) m ≡ gives (each (instance_taken g) xs n)
      go true t ih = ap (follow g i (map some rest)) (same-eq m n t) ∙ ih i
      go false t ih =
          cond-true (is_good g (some x) m) (follow g (i + 1) (map some rest) n) (stop (BadStep (pos i))) (good-changes g (some x) m ∙ ap not t) ∙ ih (i + 1)

-- ---- the checker on a board that is not refused

module _ (b : Board) (bs : List ℕ) (ok : check_of b ≡ gives tt) where
  abbrev verdict : Answer (List ℕ)
  verdict = follow (givens b) 0 (steps_of bs) (fresh (givens b))

  pub few-checked : step_count bs ≤ 729 → check_steps_of b bs ≡ answers.map (with_masks b) verdict
  unfolding check_steps_of
  few-checked h =
      ap (λ (a : Answer (Unit {0})). then a (λ _. then (count_check (step_count bs)) (λ _. answers.map (with_masks b) verdict))) ok
      ∙ ap (λ (a : Answer (Unit {0})). then a (λ _. answers.map (with_masks b) verdict)) (cond-true (leb (step_count bs) 729) (gives tt) (stop (TooManySteps (pos (step_count bs)))) (le-leb (step_count bs) 729 h))

  -- an accepted list was followed to the masks of the final board
  pub answered : (o : Board) → check_steps_of b bs ≡ gives o → (n : List ℕ) × (verdict ≡ gives n) × (with_masks b n ≡ o)
  unfolding check_steps_of
  answered o e = counted (leb (step_count bs) 729) (sym (ap (λ (a : Answer (Unit {0})). then a (λ _. then (count_check (step_count bs)) (λ _. answers.map (with_masks b) verdict))) ok) ∙ e)
    where
      final : (a : Answer (List ℕ)) → verdict ≡ a → answers.map (with_masks b) a ≡ gives o → (n : List ℕ) × (verdict ≡ gives n) × (with_masks b n ≡ o)
      final (gives n) p e = (n, p, gives_same e)
      final (stop s) p e = absurd (stop-gives e)

      counted : (t : Bool) → then (cond t (gives (tt {0})) (stop (TooManySteps (pos (step_count bs))))) (λ _. answers.map (with_masks b) verdict) ≡ gives o → (n : List ℕ) × (verdict ≡ gives n) × (with_masks b n ≡ o)
      counted true e = final verdict refl e
      counted false e = absurd (stop-gives e)

-- ---- settling's own list

module _ (b : Board) (a : Admitted b) where
  abbrev g : List ℕ
  g = givens b

  -- no more steps than candidates that settling removed
  few : length (settling_steps g b.masks) ≤ removed_by b.masks (settle g b.masks).left
  unfolding settling_steps
  few = omega (arith, effective-few g (settling_instances g b.masks) b.masks, ap total (settling-each g b.masks))

  most : length (settling_steps g b.masks) ≤ 729
  most = omega (arith, few, total-most g b.masks (board-givens b) (admitted-good b a).masks)

  settling-listed : (x : Instance) → Memᴰ x (settling_steps g b.masks) → Listed x
  unfolding settling_steps settling_instances
  settling-listed x k =
      let w = in-for (up_to (settle g b.masks).sweeps) (λ _. sweep_instances) x (effective-in g (settling_instances g b.masks) b.masks x k) in
      sweep-in x w.2

  settling-accepted : b.masks ≡ fresh g → check_steps_of b (bytes_of (settling_steps g b.masks)) ≡ gives (left b (answer settling_call b))
  unfolding settling_steps answer outcome
  settling-accepted e =
      few-checked b (bytes_of xs) a.taken (omega (arith, bytes-length xs, most))
      ∙ ap (answers.map (with_masks b))
      (ap (λ (ss : List (Option Instance)). follow g 0 ss (fresh g)) (bytes_steps xs settling-listed) ∙ ap (follow g 0 (map some xs)) (sym e)
      ∙ effective-followed g (settling_instances g b.masks) 0 b.masks ∙ ap gives (settling-each g b.masks))
      ∙ sym (ap (λ (w : Answer (Unit {0})). gives (left b (passing w (outcome settling_call g b.masks)))) a.taken)
    where
      xs : List Instance
      xs = settling_steps g b.masks

-- ---- fillings

final-good : (b o : Board) (bs : List ℕ) → Admitted b → check_steps_of b bs ≡ gives o → Good Keeping o
final-good b o bs a e =
    let w = answered b bs a.taken o e in
    let r = follows-reach (givens b) (follows (givens b) (steps_of bs) (steps-listed bs) 0 (fresh (givens b)) w.0 w.1) in
    let ok = admitted-good b a in
    subst (Good Keeping) w.2
    (record {
      clues = ok.clues;
      entries = ok.entries;
      masks = record { admissible = reach-admissible (givens b) r (fresh-admissible (givens b)); fillings = λ p F i. reach-inside (givens b) p F i r };
    })

pub step-lists : StepLists
unfolding opened_with
step-lists = record {
  names = names;
  six = six-bytes;
  bytes = byte-below;
  accepted = λ g m o bs. (follows g (steps_of bs) (steps-listed bs) 0 m o, λ r. followed g r 0);
  empty = λ b ok. few-checked b [] ok (omega arith) ∙ (unfold follow steps_of in refl);
  few = few;
  most = most;
  settling = settling-accepted;
  fillings = λ b o bs a e. keeping-fillings o (final-good b o bs a e);
}
