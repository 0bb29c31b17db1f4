-- `output::Pen::push_word` meets its contract. The invariant: the bytes that are left still make all of the word. Assumes nothing.
use mathlib.Core.List.{[], ◌∷◌}
use Rattle.std.proofs.Common.{◌≡◌, drop}
use Rattle.steps.specs.Loops.{each}
use Rattle.output.specs.code.Tapes.{append}
use Rattle.output.specs.code.Pens.{writes}
use Rattle.output.proofs.Pen.push_word.Given as goal

abbrev pub invariant-loop-byte : goal.invariant-loop-byte
invariant-loop-byte g l = each (λ b p. writes (append g.row.N (b ∷ [])) p) (drop l.byte-index l.word) l.self ≡ writes (append g.row.N l.word) l.initial.self
