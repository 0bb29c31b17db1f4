-- `passes::settle_handed` meets its contract on a board that the check passes. Assumes nothing.
use mathlib.Core.Path.{ap, ap₂, ◌∙◌}
use mathlib.Core.List.{List}
use Prim.Native.Nat.{ℕ}
use Rattle.stops.specs.Answer.{Answer, gives, map, value_or}
use Rattle.steps.specs.Boards as S
use Rattle.steps.specs.Calls.{Outcome, settling_call, outcome, left}
use Rattle.steps.specs.Difficulty.{pass_counts}
use Rattle.steps.specs.Passes.{settle, removed_by}
use Rattle.steps.specs.StepLists.{settling_instances}
use Rattle.steps.specs.code.Logs.{log_after}
use Rattle.board.specs.Boards.{handed}
use Rattle.board.proofs.Answered.{answers}
use Rattle.passes.specs.Settlings.{counts_of}
use Rattle.passes.specs.code.Handed.{log_left, counts_left}
use Rattle.passes.specs.declared.Counts.{Counts}
use Rattle.passes.proofs.settle_handed.Goals as goal

counted : ℕ → ℕ → Answer Counts
counted s r = gives (record { sweeps = s; removed = r })

-- the masks, the log and the counts, by what the call answers
masks_back : S.Board → Answer Outcome → List ℕ
masks_back b a = (left b a).masks

log_back : S.Board → List ℕ → Answer Outcome → List ℕ
log_back b l a = value_or l (map (λ _. log_after (S.givens b) (settling_instances (S.givens b) b.masks) b.masks l) a)

counts_back : S.Board → List ℕ → Answer Outcome → List ℕ
counts_back b k a = value_or k (map (λ _. pass_counts (S.givens b) b.masks) a)

pub returns : goal.returns
unfolding outcome counted masks_back log_back log_left counts_back counts_left
returns c =
    let a = c.args in
    let b = handed a.clues.now a.entries.now a.masks.now in
    let m = a.masks.now in
    let s = c.settle.ensures in
    let same = c.givens_of-givens.ensures in
    let sweeps = s.sweeps_value ∙ ap (λ (g : List ℕ). (settle g m).sweeps) same in
    let masks = s.masks_after ∙ ap (λ (g : List ℕ). (settle g m).left) same in
    let e = answers settling_call b c.in_ok-check_given.ensures in record {
      result_value = ap₂ counted sweeps (s.removed_value ∙ ap (removed_by m) masks) ∙ ap (map counts_of) e;
      masks_after = masks ∙ ap (masks_back b) e;
      log_after = s.log_after ∙ ap (λ (g : List ℕ). log_after g (settling_instances g m) m a.log.now) same ∙ ap (log_back b a.log.now) e;
      counts_after = s.counts_after ∙ ap (λ (g : List ℕ). pass_counts g m) same ∙ ap (counts_back b a.counts.now) e;
    }
