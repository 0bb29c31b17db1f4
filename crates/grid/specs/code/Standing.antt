-- The verifier's loops, between two cells.
use Rattle.std.specs.Prelude.{◌≡◌, Bool, true, List, ℕ, ℤ}
use Rattle.grid.specs.Marks.{marks_after, fine}

-- r says whether the first k numbers are fine; as long as they are, ms are the marks after them
pub record Standing (g : List ℤ) (k : ℕ) (r : Bool) (ms : List ℕ) : Type 0 where
  pub answer : r ≡ fine g k
  pub marks : r ≡ true → ms ≡ marks_after g k
