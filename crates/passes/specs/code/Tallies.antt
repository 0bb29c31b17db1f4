-- The tally of settling: six counts, what each pass has removed, and then the candidates that are left.
use Rattle.std.specs.Prelude.{◌≡◌, List, [], ◌∷◌, ◌++◌, ℕ, ◌+◌, ◌-◌, length, set}
use Rattle.std.specs.Int.{w64}
use Rattle.std.proofs.Common.{Fits}
use Rattle.steps.specs.Boards.{at, total}
use Rattle.steps.specs.Difficulty.{summed, added}

-- the pass of number w leaves so many candidates
unfoldable pub tallied : ℕ → ℕ → List ℕ → List ℕ
tallied w left t = set (set t w (at t w + (at t 6 - left))) 6 left

-- six counts more, and the candidates of m left
unfoldable pub tally_with : List ℕ → List ℕ → List ℕ → List ℕ
tally_with counts m t = added t counts ++ total m ∷ []

-- a tally beside the masks m; what is counted and what is left are together what there was at the start, which a machine's number holds
pub record Tally (m t : List ℕ) : Type 0 where
  pub size : length t ≡ 7
  pub left : at t 6 ≡ total m
  pub few : Fits w64 (summed t)
