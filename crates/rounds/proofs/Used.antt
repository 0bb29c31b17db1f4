-- How much of a piece a call uses: some of it, and no more than there is. Assumes nothing.
use mathlib.Core.Path.{◌≡◌, refl, subst, sym}
use mathlib.Core.Bool.{Bool, true, false, cond}
use mathlib.Core.List.{List, [], ◌∷◌}
use Prim.Native.Nat.{ℕ, suc, ◌+◌, ◌≤◌, ◌<◌}
use native.Mathlib.Omega.{arith}
use borrow.Author.Tests.{ltb-true, ltb-false}
use lib.Dec.{eqb, ltb}
use lib.ListN.{length, get_or, take}
use Rattle.candidates.proofs.Tests.{by-test}
use Rattle.rounds.specs.declared.cuts.State.{State}
use Rattle.rounds.specs.declared.cuts.Out.TheVariants.{Piece, Lent}
use Rattle.rounds.specs.code.Cuts.{state_with, fed_with, fresh_line, passed_line, done_bytes, done_state, line_end, is_passed, pass_on, keep_on, fed}

pub end-most : (xs : List ℕ) → line_end xs ≤ length xs
unfolding line_end
end-most [] = omega arith
end-most (b ∷ bs) = by-test (λ (n : ℕ). n ≤ suc (length bs)) (eqb b 10) 0 (suc (line_end bs)) (λ t. omega arith) (λ t. omega (arith, end-most bs))

module _ (s : State) (piece : List ℕ) where
  abbrev n : ℕ
  n = line_end piece

  pub used-is : (fed s piece).used ≡ cond (ltb n (length piece)) (n + 1) n
  unfolding fed pass_on
  used-is = go (is_passed s.line (get_or piece 0 0)) (ltb n (length piece))
    where
      k : State
      k = keep_on s (take n piece)

      go : (p q : Bool) → (cond p (cond q (fed_with (state_with s.kept fresh_line s.tally) (n + 1) (Piece (n + 1))) (fed_with (state_with s.kept (passed_line s.line) s.tally) n (Piece n))) (cond q (fed_with (done_state k) (n + 1) (Lent (length (done_bytes k)))) (fed_with k n (Lent 0)))).used ≡ cond q (n + 1) n
      go true true = refl
      go true false = refl
      go false true = refl
      go false false = refl

  pub used-within : (fed s piece).used ≤ length piece
  used-within = subst (λ (k : ℕ). k ≤ length piece) (sym used-is) (by-test (λ (k : ℕ). k ≤ length piece) (ltb n (length piece)) (n + 1) n (λ t. omega (arith, ltb-true n (length piece) t)) (λ t. end-most piece))

  pub used-some : 0 < length piece → 0 < (fed s piece).used
  used-some h = subst (λ (k : ℕ). 0 < k) (sym used-is) (by-test (λ (k : ℕ). 0 < k) (ltb n (length piece)) (n + 1) n (λ t. omega arith) (λ t. omega (arith, ltb-false n (length piece) t)))
