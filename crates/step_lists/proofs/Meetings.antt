-- Pointing and Claiming by a unit and those that meet it: their parts, and their steps. Assumes nothing.
use mathlib.Core.Path.{◌≡◌, sym, ap, ◌∙◌}
use mathlib.Core.Bool.{◌&&◌}
use Prim.Native.Nat.{ℕ, ◌+◌, ◌-◌, ◌≤◌, ◌<◌}
use native.Mathlib.Omega.{arith}
use lib.Dec.{eqb}
use Rattle.steps.specs.Instances.{line_of, box_of}
use Rattle.steps.specs.code.Decoding.{is_digit, no_parts, line_in, box_in}
use Rattle.steps.proofs.StepBytes.{line-few, box-few}
use Rattle.cells.specs.code.Meets.{met_unit}
use Rattle.cells.proofs.Meetings.{met-box, met-line}
use Rattle.step_lists.specs.code.Taking.{is_met}

-- a line of a box
pub line-met : (u k : ℕ) → 18 ≤ u → u < 27 → k < 6 → met_unit u k ≡ line_of (u - 18) k
line-met u k h l n =
    let z : 18 + (u - 18) ≡ u = omega arith in
    ap (λ (x : ℕ). met_unit x k) (sym z) ∙ met-line {b = u - 18} {k = k} (omega arith) n

met-as : (d u k v y z : ℕ) {w : ℕ} → met_unit u k ≡ w → is_met u k v d y z ≡ (is_digit d && (eqb w v && no_parts y z))
met-as d u k v y z e = ap (λ (x : ℕ). is_digit d && (eqb x v && no_parts y z)) e

pub met-pointing : (u d l y z : ℕ) {k : ℕ} → k ≡ line_in l → 18 ≤ u → u < 27 → is_met u k l d y z ≡ (is_digit d && (eqb (line_of (u - 18) (line_in l)) l && no_parts y z))
met-pointing u d l y z {k} e h n =
    ap (λ (x : ℕ). is_met u x l d y z) e ∙ met-as d u (line_in l) l y z (line-met u (line_in l) h n (line-few l))

pub met-claiming : (l d u y z : ℕ) {k : ℕ} → k ≡ box_in l u → l < 18 → is_met l k u d y z ≡ (is_digit d && (eqb (box_of l (box_in l u)) u && no_parts y z))
met-claiming l d u y z {k} e h = ap (λ (x : ℕ). is_met l x u d y z) e ∙ met-as d l (box_in l u) u y z (met-box {l = l} {k = box_in l u} h (box-few l u))
