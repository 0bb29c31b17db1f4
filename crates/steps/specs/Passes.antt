-- The wide passes and settling (modules 8 and 9; document 02, F-5).
use Rattle.std.specs.Prelude.{◌≡◌, Bool, cond, not, ℕ, zero, suc, ◌+◌, ◌-◌}
use mathlib.Core.List.{List, [], ◌∷◌, Memᴰ}
use Rattle.steps.specs.Boards.{is_open, same_masks, total}
use Rattle.steps.specs.Instances.{Instance, step_of, lones, places, pairs, pointings, claimings, crosses}
use Rattle.steps.specs.Loops.{each}
use Rattle.steps.specs.Steps.{step_taken}

-- the wide passes (the paper's term for the passes that read clue cells too)
pub data Kind : Type 0 where
  Lone Place Pair Pointing Claiming Cross : Kind

-- "a sweep has six passes", Claiming "run after Pointing"
abbrev pub kinds : List Kind
kinds = Lone ∷ Place ∷ Pair ∷ Pointing ∷ Claiming ∷ Cross ∷ []

unfoldable pub instances : Kind → List Instance
instances Lone = lones
instances Place = places
instances Pair = pairs
instances Pointing = pointings
instances Claiming = claimings
instances Cross = crosses

-- the masks after one instance
abbrev pub instance_taken : List ℕ → Instance → List ℕ → List ℕ
instance_taken g x m = step_taken (is_open g) (step_of x) m

-- the masks after a pass
unfoldable pub pass : List ℕ → Kind → List ℕ → List ℕ
pass g k m = each (instance_taken g) (instances k) m

unfoldable pub sweep : List ℕ → List ℕ → List ℕ
sweep g m = each (pass g) kinds m

-- the masks after j sweeps
unfoldable pub swept : List ℕ → ℕ → List ℕ → List ℕ
swept g zero m = m
swept g (suc j) m = swept g j (sweep g m)

-- "A pass returns whether it removed anything."
abbrev pub changed : List ℕ → List ℕ → Bool
changed m n = not (same_masks m n)

-- "Settled now means that no instance of the six removes anything"
pub record Settled (g m : List ℕ) : Type 0 where
  pub still : (k : Kind) (x : Instance) → Memᴰ x (instances k) → instance_taken g x m ≡ m

-- what settling leaves, and how many sweeps it took
pub record Sweeps : Type 0 where
  pub sweeps : ℕ
  pub left : List ℕ

-- "sweep until one removes nothing", that last sweep counted; at most n sweeps
unfoldable pub settle_in : ℕ → List ℕ → List ℕ → Sweeps
settle_in zero g m = record { sweeps = 0; left = m }
settle_in (suc n) g m =
    let swept = sweep g m in
    let more = settle_in n g swept in
    cond (same_masks m swept) (record { sweeps = 1; left = swept }) (record { sweeps = more.sweeps + 1; left = more.left })

-- 730 sweeps are enough, by a theorem: every one but the last removes one of at most 729 candidates
abbrev pub settle : List ℕ → List ℕ → Sweeps
settle g m = settle_in 730 g m

-- "Over all 81 masks, candidates left plus removed equal those before the call."
abbrev pub removed_by : List ℕ → List ℕ → ℕ
removed_by m n = total m - total n
