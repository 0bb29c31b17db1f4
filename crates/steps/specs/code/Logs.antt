-- The log that the wide passes are lent: 729 places of six bytes, a step in each, then how many steps there are as two bytes, the lower one first.
use Rattle.std.specs.Prelude.{cond, List, ℕ, ◌+◌, ◌*◌, ◌/◌, ◌%◌, ltb, set}
use Rattle.steps.specs.Boards.{at}
use Rattle.steps.specs.Instances.{Instance}
use Rattle.steps.specs.Loops.{each}
use Rattle.steps.specs.StepLists.{step_bytes, effective}

abbrev pub steps_noted : List ℕ → ℕ
steps_noted l = at l 4374 + 256 * at l 4375

-- six bytes from place i on
unfoldable pub put_six : ℕ → List ℕ → List ℕ → List ℕ
put_six i bs l = set (set (set (set (set (set l i (at bs 0)) (i + 1) (at bs 1)) (i + 2) (at bs 2)) (i + 3) (at bs 3)) (i + 4) (at bs 4)) (i + 5) (at bs 5)

-- the number of steps is n
unfoldable pub put_count : ℕ → List ℕ → List ℕ
put_count n l = set (set l 4374 (n % 256)) 4375 (n / 256)

-- one more step, by its bytes; a full log stays as it is
unfoldable pub noted : List ℕ → List ℕ → List ℕ
noted bs l = let n = steps_noted l in cond (ltb n 729) (put_count (n + 1) (put_six (6 * n) bs l)) l

-- the log after these instances, one after the other: those that remove something are noted
unfoldable pub log_after : List ℕ → List Instance → List ℕ → List ℕ → List ℕ
log_after g xs m l = each (λ x. noted (step_bytes x)) (effective g xs m) l
