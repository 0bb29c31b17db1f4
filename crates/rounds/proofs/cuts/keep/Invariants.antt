-- `rounds::cuts::keep` meets its contract. Assumes nothing. The invariant: the bytes that are left still make all of it, on the same lent bytes.
use mathlib.Core.Path.{◌≡◌}
use lib.ListN.{drop}
use Rattle.steps.specs.Loops.{each}
use Rattle.rounds.specs.code.Cuts.{line_with, held, kept_one}
use Rattle.rounds.proofs.cuts.keep.Given as goal

abbrev pub invariant-loop-byte : goal.invariant-loop-byte
invariant-loop-byte l = (l.pen.bytes.ghost_name ≡ l.initial.pen.bytes.ghost_name) × (each kept_one (drop l.byte-index l.bytes) (held l.pen.bytes.now (line_with l.pen.end l.grid l.parted l.last l.line.passed)) ≡ each kept_one l.bytes (held l.initial.pen.bytes.now (line_with l.initial.pen.end l.initial.grid l.initial.parted l.initial.last l.line.passed)))
