-- The sections of a record (module 14; document 02, F-8): a count, and then an entry of two bytes for each of its candidates. A section stands for 81 sets of
-- digits, one for each cell. A candidate is numbered 9 times its cell + the place of its digit, so that (cell, digit) rises as its number does.
use Rattle.std.specs.Prelude.{Bool, cond, ◌&&◌, List, [], ◌∷◌, ◌++◌, ℕ, zero, suc, ◌+◌, ◌-◌, ◌*◌, ◌/◌, ◌%◌, leb, ℤ, pos, length, get_or, set, replicate}
use Rattle.std.proofs.lemmas.List.Edits.{sets}
use Rattle.stops.specs.Answer.{Answer, gives, stop, then}
use Rattle.stops.specs.declared.Stop.{Stop}
use Rattle.stops.specs.declared.Stop.TheVariants.{RecordBytes, RecordEntry, NotFresh}
use Rattle.candidates.specs.Masks.{has, single, union}
use Rattle.steps.specs.Boards.{at}
use Rattle.steps.specs.Loops.{select, up_to}
use Rattle.record.specs.declared.sections.Section.{Section}
use Rattle.record.specs.declared.sections.Section.TheVariants.{Digits, Removed}

-- ---- what the sections differ in

-- "clue count (1 byte)", of entries "the same form"; "removed count (2 bytes, low first)"
abbrev pub width : Section → ℕ
width Digits = 1
width Removed = 2

-- the lowest candidate that may follow: "cells rising" for clues and entries, (cell, digit) "rising" for removals
abbrev pub after : Section → ℕ → ℕ
after Digits k = 9 * (k / 9 + 1)
after Removed k = k + 1

-- the stop of an entry whose candidate the section may not have: "01's 8 also covers an entry on a clue cell and 01's 9 a removal on an entered one"
abbrev pub outside : Section → ℤ → Stop
outside Digits = RecordEntry
outside Removed = NotFresh

-- ---- writing

abbrev pub in_sets : List ℕ → ℕ → Bool
in_sets s k = has (at s (k / 9)) (k % 9)

-- the candidates of 81 sets, rising
unfoldable pub candidates : List ℕ → List ℕ
candidates s = select (in_sets s) (up_to 729)

-- "cell and digit bytes"
abbrev pub entry_bytes : List ℕ → List ℕ
entry_bytes [] = []
entry_bytes (k ∷ ks) = k / 9 ∷ (k % 9 + 1) ∷ entry_bytes ks

-- a number in w bytes, "low first"
abbrev pub low_first : ℕ → ℕ → List ℕ
low_first zero n = []
low_first (suc w) n = n % 256 ∷ low_first w (n / 256)

unfoldable pub section_bytes : Section → List ℕ → List ℕ
section_bytes k s = low_first (width k) (length (candidates s)) ++ entry_bytes (candidates s)

-- bytes that are written one after the other, from an offset on
abbrev pub stored : List ℕ → ℕ → List ℕ → List ℕ
stored bs i xs = sets bs i xs

-- ---- reading

-- the number that stands in the w bytes from an offset on
abbrev pub number_at : ℕ → List ℕ → ℕ → ℕ
number_at zero bs i = 0
number_at (suc w) bs i = get_or bs i 0 + 256 * number_at w bs (i + 1)

-- the candidate of an entry
abbrev pub named : ℕ → ℕ → ℕ
named c d = 9 * c + (d - 1)

-- none of "cell above 80, digit outside 1 to 9, not rising"
abbrev pub well_formed : ℕ → ℕ → ℕ → Bool
well_formed low c d = leb c 80 && leb 1 d && leb d 9 && leb low (named c d)

-- what a "whole entry" with these bytes gives at offset i: a bad one is a stop, "then" one that the section may not have; `free` are the sets that it may have
abbrev pub entry_of : Section → List ℕ → ℕ → ℕ → ℕ → ℕ → Answer ℕ
entry_of k free low i c d =
    cond (well_formed low c d) (cond (has (at free c) (d - 1)) (gives (named c d)) (stop (outside k (pos i)))) (stop (RecordEntry (pos i)))

-- "bytes missing", with "the record's length"; a half entry is missing bytes
unfoldable pub entry_at : Section → List ℕ → List ℕ → ℕ → ℕ → Answer ℕ
entry_at k free bs low i =
    cond (leb (i + 2) (length bs)) (entry_of k free low i (get_or bs i 0) (get_or bs (i + 1) 0)) (stop (RecordBytes (pos (length bs))))

-- the sets with one candidate more
abbrev pub with : List ℕ → ℕ → List ℕ
with s k = set s (k / 9) (union (at s (k / 9)) (single (k % 9)))

-- the sets of a section that was read, and the offset after it
pub record SectionRead : Type 0 where
  pub sets : List ℕ
  pub next : ℕ

abbrev pub with_sets : List ℕ → ℕ → SectionRead
with_sets s i = record { sets = s; next = i }

-- n more entries
unfoldable pub read_entries : Section → List ℕ → List ℕ → ℕ → ℕ → ℕ → List ℕ → Answer SectionRead
read_entries k free bs zero low i s = gives (with_sets s i)
read_entries k free bs (suc n) low i s = then (entry_at k free bs low i) λ e. read_entries k free bs n (after k e) (i + 2) (with s e)

-- 81 empty sets
abbrev pub no_sets : List ℕ
no_sets = replicate 81 0

unfoldable pub read_section : Section → List ℕ → List ℕ → ℕ → Answer SectionRead
read_section k free bs i =
    cond (leb (i + width k) (length bs)) (read_entries k free bs (number_at (width k) bs i) 0 (i + width k) no_sets) (stop (RecordBytes (pos (length bs))))
