-- The check of a handed board beside its fresh masks, which the code makes once.
use Rattle.std.specs.Prelude.{Bool, true, false, List, ℕ, eqb}
use Rattle.std.proofs.Math.Option.{Option, none, some}
use Rattle.grid.specs.Cells.{cells}
use Rattle.steps.specs.Boards.{at, given}
use Rattle.steps.specs.Calls.{misfit}
use Rattle.steps.specs.Loops.{first}

-- whether a search finds anything
abbrev pub is_found : Option ℕ → Bool
is_found none = false
is_found (some n) = true

-- a mask beside the fresh one and the given digit
abbrev pub misfit_of : ℕ → ℕ → ℕ → Bool
misfit_of x f d = misfit x f (eqb d 0)

-- the first mask that stands wrong beside the fresh ones
abbrev pub first_misfit : List ℕ → List ℕ → List ℕ → Option ℕ
first_misfit g f m = first (λ c. misfit_of (at m c) (at f c) (given g c)) cells
