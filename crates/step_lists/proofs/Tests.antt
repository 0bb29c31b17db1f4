-- Tests one after the other, as code goes through them. Assumes nothing.
use mathlib.Core.Path.{◌≡◌, sym, ap, ◌∙◌}
use mathlib.Core.Bool.{Bool, true, false, ◌&&◌}
use Prim.Native.Nat.{ℕ, ◌+◌, ◌-◌, ◌≤◌}
use native.Mathlib.Omega.{arith}
use borrow.Author.Tests.{lt-ltb, ltb-true}
use lib.Dec.{ltb}
use Rattle.candidates.proofs.Tests.{bool_iff}

-- the first test passed, and the others say r
pub passed : {a b r : Bool} → a ≡ true → r ≡ b → r ≡ (a && b)
passed {a} {b} e q = q ∙ sym (ap (λ (t : Bool). t && b) e)

-- it did not
pub failed : {a : Bool} (b : Bool) → a ≡ false → false ≡ (a && b)
failed {a} b e = sym (ap (λ (t : Bool). t && b) e)

-- among the nine from f on
pub nine-from : (f v : ℕ) → f ≤ v → ltb (v - f) 9 ≡ ltb v (f + 9)
nine-from f v h =
    bool_iff (ltb (v - f) 9) (ltb v (f + 9)) (λ t. lt-ltb v (f + 9) (omega (arith, ltb-true (v - f) 9 t))) (λ t. lt-ltb (v - f) 9 (omega (arith, ltb-true v (f + 9) t)))
