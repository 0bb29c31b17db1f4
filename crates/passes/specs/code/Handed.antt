-- What settling leaves of what it is lent: masks, a log and the counts of the six passes, each as it was beside a refusal.
use Rattle.std.specs.Prelude.{List, ℕ}
use Rattle.stops.specs.Answer.{map, value_or}
use Rattle.steps.specs.Boards as S
use Rattle.steps.specs.Calls.{settling_call, answer, left}
use Rattle.steps.specs.Difficulty.{pass_counts}
use Rattle.steps.specs.StepLists.{settling_instances}
use Rattle.steps.specs.code.Logs.{log_after}

abbrev pub masks_left : S.Board → List ℕ
masks_left b = (left b (answer settling_call b)).masks

unfoldable pub log_left : S.Board → List ℕ → List ℕ
log_left b l = value_or l (map (λ _. log_after (S.givens b) (settling_instances (S.givens b) b.masks) b.masks l) (answer settling_call b))

unfoldable pub counts_left : S.Board → List ℕ → List ℕ
counts_left b k = value_or k (map (λ _. pass_counts (S.givens b) b.masks) (answer settling_call b))
