-- Pointing and Claiming by units and digits, and where they may lose anything: a box and the lines that meet it, a line and the boxes that meet it.
use Rattle.std.specs.Prelude.{◌≡◌, Bool, false, cond, List, [], ◌∷◌, ℕ, ◌-◌, ◌<◌, ltb}
use Rattle.candidates.specs.Masks.{has}
use Rattle.steps.specs.Boards.{is_open}
use Rattle.steps.specs.Instances.{Instance, pointing, claiming, locked_step}
use Rattle.steps.specs.Loops.{each, for, range, up_to}
use Rattle.steps.specs.Steps.{step_taken}
use Rattle.cells.specs.code.Meets.{meetings, met_unit}
use Rattle.lanes.specs.code.Lanes.{Alike}

-- the instance of u, d and the k-th unit that meets u; those of a digit; and those of a unit
unfoldable pub met_instance : ℕ → ℕ → ℕ → Instance
met_instance u d k = cond (ltb u 18) (claiming u d k) (pointing (u - 18) d k)

unfoldable pub digit_instances : ℕ → ℕ → List Instance
digit_instances u d = for (up_to (meetings u)) λ k. met_instance u d k ∷ []

unfoldable pub unit_instances : ℕ → List Instance
unit_instances u = for (up_to 9) (digit_instances u)

-- the same, as they change the masks

unfoldable pub locked_digit : List ℕ → ℕ → ℕ → List ℕ → List ℕ
locked_digit g u d m = each (λ k. step_taken (is_open g) (locked_step u (met_unit u k) d)) (up_to (meetings u)) m

unfoldable pub locked_unit : List ℕ → ℕ → List ℕ → List ℕ
locked_unit g u m = each (locked_digit g u) (up_to 9) m

-- the units of Pointing, which are the boxes, and of Claiming, which are the lines
unfoldable pub units_of : Bool → List ℕ
units_of boxes = cond boxes (range 9 18) (range 18 0)

-- the instances of a digit that is not due lose nothing, as long as the masks hold it where they do in m
pub record DigitSkips (g m : List ℕ) (u due : ℕ) : Type 0 where
  pub idle : (d : ℕ) → d < 9 → has due d ≡ false → (n : List ℕ) → Alike d n m → locked_digit g u d n ≡ n
