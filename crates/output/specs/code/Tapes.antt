-- Bytes that are written one after the other into lent ones.
use Rattle.std.specs.Prelude.{cond, List, ℕ, ◌+◌, ltb, set}
use Rattle.steps.specs.Loops.{each}

-- the lent bytes, and how many of them are written
pub record Tape : Type 0 where
  pub bytes : List ℕ
  pub end : ℕ

abbrev pub tape : List ℕ → ℕ → Tape
tape bytes end = record { bytes = bytes; end = end }

-- one more byte; a full tape, of so many bytes, stays as it is
unfoldable pub pushed : ℕ → Tape → ℕ → Tape
pushed room t b = cond (ltb t.end room) (tape (set t.bytes t.end b) (t.end + 1)) t

-- a list of bytes after those that are written
unfoldable pub append : ℕ → List ℕ → Tape → Tape
append room bs t = each (λ b t. pushed room t b) bs t
