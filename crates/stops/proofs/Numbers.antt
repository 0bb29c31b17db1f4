-- Numbers in an `i64`: a signed number that fits is kept by a cast, and so is an unsigned one below 2 ^ 63.
use mathlib.Core.Path.{◌≡◌, sym, ap, subst, ◌∙◌}
use Prim.Native.Nat.{ℕ, ◌<◌, ◌^◌}
use lib.IntN.{ℤ, pos}
use mir.Syntax.{w32, w64}
use mir.Val.{SFits, to_z, of_z}
use mir.Facts.{sfits_widen, to_z-of_z, to_z_pos}

pub widens : {z : ℤ} → SFits w32 z → SFits w64 (to_z w32 (of_z w32 z))
widens {z} fits = subst (SFits w64) (sym (to_z-of_z fits)) (sfits_widen {w = w32} tt fits)

pub widened : {z : ℤ} → SFits w32 z → to_z w64 (of_z w64 (to_z w32 (of_z w32 z))) ≡ z
widened {z} fits = ap (λ (y : ℤ). to_z w64 (of_z w64 y)) (to_z-of_z fits) ∙ to_z-of_z {w = w64} (sfits_widen {w = w32} tt fits)

pub small : {n : ℕ} → n < 2 ^ 63 → to_z w64 n ≡ pos n
small {n} below = to_z_pos w64 {n = n} below
