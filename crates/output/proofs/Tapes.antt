-- Bytes one after the other on a tape: lists of them joined, and lists that have room for all. Assumes nothing.
use mathlib.Core.Path.{◌≡◌, sym, ap, ◌∙◌}
use mathlib.Core.List.{List, [], ◌∷◌, ◌++◌, append_assoc, append-nil}
use Prim.Native.Nat.{ℕ, ◌+◌, ◌≤◌, ◌<◌}
use native.Mathlib.Omega.{arith}
use borrow.Author.Tests.{lt-ltb}
use lib.Dec.{ltb}
use lib.ListN.{length, set, length-append}
use Rattle.candidates.proofs.Tests.{cond-true}
use Rattle.steps.specs.Loops.{each}
use Rattle.steps.proofs.Loops.{each_append}
use Rattle.output.specs.Lent.{over}
use Rattle.output.specs.code.Tapes.{Tape, tape, pushed, append}
use Rattle.output.proofs.Lent.{over-push}

module _ (room : ℕ) where
  -- one list and then another, from what each made of the tape before it
  pub joined : (xs ys : List ℕ) (t : Tape) {a r : Tape} → a ≡ append room xs t → r ≡ append room ys a → r ≡ append room (xs ++ ys) t
  unfolding append
  joined xs ys t l m = m ∙ ap (append room ys) l ∙ sym (each_append (λ b t. pushed room t b) xs ys t)

-- ---- a list that stands over the lent bytes

module _ (room : ℕ) (lent : List ℕ) where
  abbrev standing : List ℕ → Tape
  standing xs = tape (over xs lent) (length xs)

  push-on : (xs : List ℕ) (b : ℕ) → length xs < room → pushed room (standing xs) b ≡ standing (xs ++ (b ∷ []))
  unfolding pushed
  push-on xs b h =
      cond-true (ltb (length xs) room) (tape (set (over xs lent) (length xs) b) (length xs + 1)) (standing xs) (lt-ltb (length xs) room h)
      ∙ same (over-push xs lent b) (sym (length-append xs (b ∷ [])))
    where
      same : {x y : List ℕ} {m n : ℕ} → x ≡ y → m ≡ n → tape x m ≡ tape y n
      same p q = cc

  append-on : (xs ys : List ℕ) → length xs + length ys ≤ room → append room ys (standing xs) ≡ standing (xs ++ ys)
  unfolding append each
  append-on xs [] h = ap standing (sym (append-nil xs))
  append-on xs (y ∷ ys) h =
      ap (append room ys) (push-on xs y (omega arith)) ∙ append-on (xs ++ (y ∷ [])) ys (omega (arith, length-append xs (y ∷ [])))
      ∙ ap standing (append_assoc xs (y ∷ []) ys)

  -- a list that has room stands there
  pub stands : (ys : List ℕ) → length ys ≤ room → append room ys (tape lent 0) ≡ tape (over ys lent) (length ys)
  stands ys h = append-on [] ys (omega arith)
