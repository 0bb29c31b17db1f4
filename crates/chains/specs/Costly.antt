-- What the chain pass can cost: "The published chain has strong links at its ends; this one begins weak, so it can cost a filling."
use Rattle.std.specs.Prelude.{◌≡◌, true, List, [], ◌∷◌, ℤ, pos, replicate, set}
use Rattle.grid.specs.Fillings.{verified}
use Rattle.steps.specs.Calls.{chain_call, opened, run}
use Rattle.steps.specs.Fillings.{KeepsClues, InMasks}

-- a correct filling that keeps the clues: it is in the fresh masks, and no more in those after one chain pass
pub record Lost (clues filling : List ℤ) : Type 0 where
  pub correct : verified filling ≡ true
  pub keeps : KeepsClues clues filling
  pub before : InMasks (opened clues).masks filling
  pub after : InMasks (run (chain_call ∷ []) (opened clues)).masks filling → ⊥

-- clues 1 at cell 0, 1 at cell 12, 2 at cell 24, all else open
unfoldable pub three_clues : List ℤ
three_clues = set (set (set (replicate 81 (pos 0)) 0 (pos 1)) 12 (pos 1)) 24 (pos 2)
