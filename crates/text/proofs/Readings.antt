-- Reader, opener and writer together: what is read is opened, what was written is read back, and what was read is written as its canonical text. Assumes nothing.
use mathlib.Core.Path.{◌≡◌, refl, sym, ap, ◌∙◌}
use mathlib.Core.Bool.{Bool, false, cond, not, true≢false}
use mathlib.Core.List.{List}
use mathlib.Core.Option.{Option, none, some}
use Prim.Native.Nat.{ℕ, ◌+◌, ◌-◌, ◌≤◌, ◌<◌}
use native.Mathlib.Decide.{ℕ_discrete, dec_lt}
use native.Mathlib.Omega.{arith}
use borrow.Author.Tests.{ne_eqb, not-true}
use lib.Dec.{T, eqb, eqb→eq}
use lib.IntN.{ℤ, pos}
use lib.ListN.{length, get_or, take, drop, length-map, get_or-map}
use lib.Seq.{ext_get_or, take_at}
use Rattle.stops.specs.Answer.{Answer, gives, passing, stop_at}
use Rattle.stops.specs.declared.Stop.TheVariants.{OtherByte, BadClue}
use Rattle.stops.proofs.Answers.{stop-gives}
use Rattle.candidates.proofs.Tests.{cond-false, T_true, all_below, below, implies, implied}
use Rattle.grid.specs.Cells.{cells}
use Rattle.grid.proofs.Cells.{at_cells}
use Rattle.steps.specs.Boards.{digit_of}
use Rattle.steps.specs.Calls.{bad_clue, opened}
use Rattle.steps.specs.Calls.{Clues}
use Rattle.steps.proofs.Check.{digit-small, good-digit}
use Rattle.steps.proofs.Searches.{cells-none, none-cells}
use Rattle.board.specs.Boards.{open_of}
use Rattle.text.specs.Texts.{byte_cell, no_cell, is_other, cell_clue, byte_clue, first_other, clues_of, parse_of, clue_byte, text_of, write_of, written, plain_byte, canonical}
use Rattle.board.proofs.Checks.{clues-open}
use Rattle.text.proofs.Texts.{wrong-length, right-length, long-enough, over, digit}

-- ---- what the reader accepts

-- 81 bytes, each a cell, and the clues that they stand for
pub record Reads (t : List ℕ) (z : List ℤ) : Type 0 where
  pub size : length t ≡ 81
  pub plain : (i : ℕ) → i < 81 → is_other (get_or t i 0) ≡ false
  pub is : clues_of t ≡ z

module _ (t : List ℕ) (z : List ℤ) where
  pub accepted : parse_of t ≡ gives z → Reads t z
  unfolding parse_of
  accepted e = go (ℕ_discrete (length t) 81)
    where
      cells-read : (r : Option ℕ) → passing (stop_at OtherByte r) (clues_of t) ≡ gives z → (r ≡ none) × (clues_of t ≡ z)
      cells-read none e = (refl, cc)
      cells-read (some i) e = absurd (stop-gives e)

      go : Dec (length t ≡ 81) → Reads t z
      go (yes h) =
          let w = cells-read (first_other t) (right-length t h ∙ e) in
          record { size = h; plain = none-cells (λ i. is_other (get_or t i 0)) w.0; is = w.1 }
      go (no h) = absurd (stop-gives (wrong-length t h ∙ e))

  pub accepts : Reads t z → parse_of t ≡ gives z
  accepts r = sym (right-length t r.size) ∙ ap (λ (o : Option ℕ). passing (stop_at OtherByte o) (clues_of t)) (cells-none (λ i. is_other (get_or t i 0)) r.plain) ∙ ap gives r.is

-- ---- a byte that stands for a cell, and the byte of a clue

plain-below : (b : ℕ) → is_other b ≡ false → b < 58
plain-below b e = go (dec_lt b 58)
  where
    go : Dec (b < 58) → b < 58
    go (yes h) = h
    go (no h) = absurd (true≢false (ap no_cell (over b (λ q. omega (arith, q)) (omega arith) (omega arith)) ∙ e))

-- a test of every byte that stands for a cell
pub plain-test : (f : ℕ → Bool) → T (all_below 58 (λ b. implies (not (is_other b)) (f b))) → (b : ℕ) → is_other b ≡ false → T (f b)
plain-test f t b e = implied (not (is_other b)) (f b) (below 58 (λ b. implies (not (is_other b)) (f b)) t b (plain-below b e)) (ap not e)

byte-good : (b : ℕ) → is_other b ≡ false → bad_clue (byte_clue b) ≡ false
byte-good b e = not-true (bad_clue (byte_clue b)) (T_true _ (plain-test (λ b. not (bad_clue (byte_clue b))) tt b e))

byte-back : (b : ℕ) → is_other b ≡ false → clue_byte (byte_clue b) ≡ plain_byte b
byte-back b e = eqb→eq (clue_byte (byte_clue b)) (plain_byte b) (plain-test (λ b. eqb (clue_byte (byte_clue b)) (plain_byte b)) tt b e)

digit-cell : (d : ℕ) → d ≤ 9 → byte_cell (cond (eqb d 0) 46 (d + 48)) ≡ some d
digit-cell d h = go (ℕ_discrete d 0)
  where
    go : Dec (d ≡ 0) → byte_cell (cond (eqb d 0) 46 (d + 48)) ≡ some d
    go (yes e) = rw (e)
    go (no n) =
        let k : d + 48 - 48 ≡ d = omega arith in
        ap byte_cell (cond-false (eqb d 0) 46 (d + 48) (ne_eqb d 0 n)) ∙ sym (digit (d + 48) (λ q. omega (arith, q)) (omega arith) (omega arith)) ∙ ap some k

pub clue-cell : (z : ℤ) → byte_cell (clue_byte z) ≡ some (digit_of z)
clue-cell z = digit-cell (digit_of z) (digit-small z)

-- ---- reading and opening

module _ (t : List ℕ) (z : List ℤ) (e : parse_of t ≡ gives z) where
  clue-at : (c : ℕ) → c < 81 → get_or z c (pos 0) ≡ byte_clue (get_or t c 0)
  clue-at c h = ap (λ (l : List ℤ). get_or l c (pos 0)) (sym (accepted t z e).is) ∙ at_cells (pos 0) (λ i. byte_clue (get_or t i 0)) c h

  pub read-clues : Clues z
  unfolding cells
  read-clues = record {
    size = ap length (sym (accepted t z e).is);
    good = λ c h. ap bad_clue (clue-at c h) ∙ byte-good (get_or t c 0) ((accepted t z e).plain c h);
  }

  -- what the reader accepts, the opener opens
  pub read-opens : open_of z ≡ gives (opened z)
  read-opens = clues-open z read-clues

  -- and the writer writes as its canonical text
  pub read-writes : text_of z ≡ canonical t
  unfolding cells
  read-writes = ext_get_or 0 (text_of z) (canonical t) (sym (length-map t plain_byte ∙ (accepted t z e).size)) one
    where
      one : (c : ℕ) → c < length (text_of z) → get_or (text_of z) c 0 ≡ get_or (canonical t) c 0
      one c h =
          at_cells 0 (λ c. clue_byte (get_or z c (pos 0))) c h ∙ ap clue_byte (clue-at c h) ∙ byte-back (get_or t c 0) ((accepted t z e).plain c h)
          ∙ sym (get_or-map plain_byte t c 0)

-- ---- writing and reading

module _ (z : List ℤ) (ok : Clues z) where
  byte_of : (i : ℕ) → i < 81 → byte_cell (get_or (text_of z) i 0) ≡ some (digit_of (get_or z i (pos 0)))
  byte_of i h = ap byte_cell (at_cells 0 (λ c. clue_byte (get_or z c (pos 0))) i h) ∙ clue-cell (get_or z i (pos 0))

  pub writes-read : parse_of (text_of z) ≡ gives z
  unfolding cells
  writes-read = accepts (text_of z) z (record { size = refl; plain = λ i h. ap no_cell (byte_of i h); is = ext_get_or (pos 0) (clues_of (text_of z)) z (sym ok.size) one })
    where
      one : (c : ℕ) → c < length (clues_of (text_of z)) → get_or (clues_of (text_of z)) c (pos 0) ≡ get_or z c (pos 0)
      one c h =
          at_cells (pos 0) (λ i. byte_clue (get_or (text_of z) i 0)) c h ∙ ap cell_clue (byte_of c h) ∙ good-digit (get_or z c (pos 0)) (ok.good c h)

  -- the first 81 lent bytes, read again
  pub written_read : (lent : List ℕ) → 81 ≤ length lent → parse_of (take 81 (written (write_of 81 z (length lent)) (text_of z) lent)) ≡ gives z
  unfolding cells
  written_read lent h =
      ap (λ (w : Answer ℕ). parse_of (take 81 (written w (text_of z) lent))) (sym (long-enough 81 z (length lent) h) ∙ ap (λ (o : Option ℕ). passing (stop_at BadClue o) 81) (cells-none (λ c. bad_clue (get_or z c (pos 0))) ok.good))
      ∙ ap parse_of (take_at (text_of z) (drop 81 lent) 81 refl) ∙ writes-read
