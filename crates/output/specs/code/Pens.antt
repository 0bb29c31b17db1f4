-- The pen that the code writes with, as a tape.
use Rattle.std.specs.Prelude.{ℕ}
use Rattle.output.specs.declared.Pen.{Pen}
use Rattle.output.specs.code.Tapes.{Tape, tape}

module _ {room : ℕ} where
  abbrev pub tape_of : Pen room → Tape
  tape_of p = tape p.bytes.now p.end

  -- the pen after it changed its tape so: it is on the same lent bytes
  abbrev pub writes : (Tape → Tape) → Pen room → Pen room
  writes f p =
      let t = f (tape_of p) in
      record { bytes = record p.bytes { now = t.bytes }; end = t.end }
