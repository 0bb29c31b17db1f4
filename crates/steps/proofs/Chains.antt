-- The chain pass takes an admissible board to an admissible one. Assumes nothing.
use mathlib.Core.Path.{◌∙◌}
use mathlib.Core.List.{List}
use mathlib.Core.Option.{Option, none, some}
use Prim.Native.Nat.{ℕ}
use Rattle.candidates.specs.Masks.{single}
use Rattle.steps.specs.Boards.{is_open, Admissible}
use Rattle.steps.specs.Chains.{chain_end, lose_found, chain_digit, chains}
use Rattle.steps.specs.Loops.{up_to}
use Rattle.steps.specs.Steps.{lose_at}
use Rattle.steps.proofs.Loops.{each_keeps}
use Rattle.steps.proofs.Masks.{under-trans}
use Rattle.steps.proofs.Steps.{shut-keeps, lose-length, lose-under}

lose-admissible : (g : List ℕ) (e k : ℕ) (m : List ℕ) → Admissible g m → Admissible g (lose_at (is_open g) e k m)
lose-admissible g e k m a =
    record {
      size = lose-length (is_open g) e k m ∙ a.size;
      under = under-trans (lose-under (is_open g) e k m) a.under;
      clues = λ c f. shut-keeps (is_open g) e k m c f ∙ a.clues c f;
    }

found-admissible : (g : List ℕ) (d : ℕ) (m : List ℕ) (o : Option ℕ) → Admissible g m → Admissible g (lose_found g d m o)
found-admissible g d m none a = a
found-admissible g d m (some e) a = lose-admissible g e (single d) m a

pub chains-admissible : (g m : List ℕ) → Admissible g m → Admissible g (chains g m)
unfolding chains chain_digit
chains-admissible g m a = each_keeps (chain_digit g) (Admissible g) (up_to 9) (λ d k n. found-admissible g d n (chain_end g n d)) m a
