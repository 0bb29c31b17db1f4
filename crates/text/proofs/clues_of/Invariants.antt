-- `text::clues_of` meets its contract. Assumes nothing.
use mathlib.Core.Path.{◌≡◌}
use lib.ListN.{get_or}
use Rattle.text.specs.Texts.{byte_clue, clues_of}
use Rattle.grid.proofs.Fills.{filled}
use Rattle.text.proofs.clues_of.Given as goal

abbrev pub invariant-loop-index : goal.invariant-loop-index
invariant-loop-index l = filled (λ i. byte_clue (get_or l.text i 0)) 81 l.index l.clues ≡ clues_of l.text
