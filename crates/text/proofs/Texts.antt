-- Grids as text: what a byte stands for, and what the reader and the writer answer. Assumes nothing.
use mathlib.Core.Path.{◌≡◌, sym, ap, ◌∙◌}
use mathlib.Core.List.{List, ◌++◌}
use mathlib.Core.Option.{Option, none, some}
use Prim.Native.Nat.{ℕ, ◌-◌, ◌≤◌, ◌<◌}
use native.Mathlib.Decide.{dec_le}
use native.Mathlib.Omega.{arith}
use borrow.Author.Tests.{eq-eqb, ne_eqb, le-leb, lt-leb}
use lib.Dec.{eqb, leb}
use lib.IntN.{ℤ, pos}
use lib.ListN.{length, drop}
use Rattle.stops.specs.Answer.{Answer, gives, stop, passing, stop_at}
use Rattle.stops.specs.declared.Stop.TheVariants.{TextLength, OtherByte, BadClue, TooFewBytes}
use Rattle.stops.proofs.Answers.{gives_same, stop-gives}
use Rattle.candidates.proofs.Tests.{cond-true, cond-false}
use Rattle.steps.specs.Calls.{first_bad_clue}
use Rattle.text.specs.Texts.{byte_cell, first_other, clues_of, parse_of, write_of, written}

-- ---- a byte

module _ (b : ℕ) where
  pub point : b ≡ 46 → some 0 ≡ byte_cell b
  point e = rw (eq-eqb b 46 e)

  module _ (n : b ≡ 46 → ⊥) where
    pub under : b < 48 → none ≡ byte_cell b
    under h = rw (ne_eqb b 46 n, lt-leb 48 b h)

    pub over : 48 ≤ b → 57 < b → none ≡ byte_cell b
    over l h = rw (ne_eqb b 46 n, le-leb 48 b l, lt-leb b 57 h)

    pub digit : 48 ≤ b → b ≤ 57 → some (b - 48) ≡ byte_cell b
    digit l h = rw (ne_eqb b 46 n, le-leb 48 b l, le-leb b 57 h)

-- ---- the reader

module _ (t : List ℕ) where
  pub wrong-length : (length t ≡ 81 → ⊥) → stop (TextLength (pos (length t))) ≡ parse_of t
  unfolding parse_of
  wrong-length n = sym (cond-false (eqb (length t) 81) _ (stop (TextLength (pos (length t)))) (ne_eqb (length t) 81 n))

  pub right-length : length t ≡ 81 → passing (stop_at OtherByte (first_other t)) (clues_of t) ≡ parse_of t
  unfolding parse_of
  right-length h = sym (cond-true (eqb (length t) 81) _ (stop (TextLength (pos (length t)))) (eq-eqb (length t) 81 h))

-- ---- a writer of m bytes

module _ (m : ℕ) (z : List ℤ) (n : ℕ) where
  pub too_short : n < m → stop (TooFewBytes (pos n)) ≡ write_of m z n
  unfolding write_of
  too_short h = sym (cond-false (leb m n) _ (stop (TooFewBytes (pos n))) (lt-leb m n h))

  pub long-enough : m ≤ n → passing (stop_at BadClue (first_bad_clue z)) m ≡ write_of m z n
  unfolding write_of
  long-enough h = sym (cond-true (leb m n) _ (stop (TooFewBytes (pos n))) (le-leb m n h))

  pub wrote-all : {k : ℕ} → gives k ≡ write_of m z n → (k ≡ m) × (m ≤ n)
  unfolding write_of
  wrote-all {k} e = go (dec_le m n)
    where
      counted : (o : Option ℕ) → gives k ≡ passing (stop_at BadClue o) m → k ≡ m
      counted none e = gives_same e
      counted (some c) e = absurd (stop-gives (sym e))

      go : Dec (m ≤ n) → (k ≡ m) × (m ≤ n)
      go (yes h) = (counted (first_bad_clue z) (e ∙ sym (long-enough h)), h)
      go (no h) = absurd (stop-gives (too_short (omega arith) ∙ sym e))

  -- what stands in the lent bytes after it
  module _ (bytes lent : List ℕ) where
    pub bytes-written : {k : ℕ} {out : List ℕ} → gives k ≡ write_of m z n → out ≡ bytes ++ drop m lent → out ≡ written (write_of m z n) bytes lent
    bytes-written {k} e put =
        put ∙ ap (λ (j : ℕ). bytes ++ drop j lent) (sym (wrote-all e).0) ∙ ap (λ (a : Answer ℕ). written a bytes lent) e
