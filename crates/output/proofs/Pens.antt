-- What a pen made of its tape, step after step. Assumes nothing.
use mathlib.Core.Path.{◌≡◌, refl, ap, ◌∙◌}
use mathlib.Core.List.{List, [], ◌∷◌, ◌++◌, map}
use Prim.Native.Nat.{ℕ, ◌≤◌}
use denote.MutBor.{MutBor}
use lib.ListN.{length}
use Rattle.steps.specs.Loops.{each}
use Rattle.output.specs.declared.Pen.{Pen}
use Rattle.output.specs.Lent.{over}
use Rattle.output.specs.code.Tapes.{Tape, tape, append}
use Rattle.output.specs.code.Pens.{tape_of, writes}
use Rattle.output.proofs.Tapes.{joined, stands}

module _ {room : ℕ} where
  -- byte by byte
  pub writes-each : (bs : List ℕ) (p : Pen room) → each (λ b p. writes (append room (b ∷ [])) p) bs p ≡ writes (append room bs) p
  unfolding append each
  writes-each [] p = refl
  writes-each (b ∷ bs) p = writes-each bs (writes (append room (b ∷ [])) p)

  -- a byte for each number of a list
  pub writes-map : (f : ℕ → ℕ) (ns : List ℕ) (p : Pen room) → each (λ n p. writes (append room (f n ∷ [])) p) ns p ≡ writes (append room (map f ns)) p
  unfolding append each
  writes-map f [] p = refl
  writes-map f (n ∷ ns) p = writes-map f ns (writes (append room (f n ∷ [])) p)

  -- one list and then another
  pub writes-joined : (xs ys : List ℕ) (p : Pen room) {q r : Pen room} → q ≡ writes (append room xs) p → r ≡ writes (append room ys) q → r ≡ writes (append room (xs ++ ys)) p
  writes-joined xs ys p l m =
      m ∙ ap (writes (append room ys)) l ∙ ap (λ (t : Tape). writes (λ _. t) p) (joined room xs ys (tape_of p) refl refl)

  -- a list that has room, from the first lent byte on
  pub written : (bs : List ℕ) {lent : MutBor (List ℕ)} {p q : Pen room} → p ≡ record { bytes = lent; end = 0 } → q ≡ writes (append room bs) p → length bs ≤ room → (q.bytes.ghost_name ≡ lent.ghost_name) × (q.bytes.now ≡ over bs lent.now) × (q.end ≡ length bs)
  written bs {lent} {p} {q} e w h =
      let on : q ≡ writes (append room bs) (record { bytes = lent; end = 0 }) = w ∙ ap (writes (append room bs)) e in
      let there : append room bs (tape lent.now 0) ≡ tape (over bs lent.now) (length bs) = stands room lent.now bs h in
      (ap (λ (p : Pen room). p.bytes.ghost_name) on, ap (λ (p : Pen room). p.bytes.now) on ∙ ap (λ (t : Tape). t.bytes) there, ap (λ (p : Pen room). p.end) on ∙ ap (λ (t : Tape). t.end) there)
