-- `text::put_text` meets its contract. Assumes nothing.
use mathlib.Core.Path.{◌≡◌}
use mathlib.Core.List.{◌++◌}
use lib.IntN.{pos}
use lib.ListN.{length, get_or, drop}
use Rattle.text.specs.Texts.{clue_byte, text_of}
use Rattle.grid.proofs.Fills.{filled}
use Rattle.text.proofs.put_text.Given as goal

abbrev pub invariant-loop-cell : goal.invariant-loop-cell
invariant-loop-cell l = (length l.out ≡ length l.initial.out) × (filled (λ c. clue_byte (get_or l.grid c (pos 0))) 81 l.cell l.out ≡ text_of l.grid ++ drop 81 l.initial.out)
