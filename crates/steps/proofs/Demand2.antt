-- Demand 2, by the laws of the fresh masks, of the verifier and of the ported passes. Assumes nothing.
use Rattle.grid.proofs.Fillings.{verified-correct, correct-verified}
use Rattle.steps.specs.Calls.{outcome}
use Rattle.steps.specs.Demand2.{Demand2}
use Rattle.steps.proofs.Fresh.{mask-small}
use Rattle.steps.proofs.FreshDigits.{fresh-masks}
use Rattle.steps.proofs.PublishedPasses.{naked-pairs, box-lines, x-wings}
use Rattle.steps.proofs.Reports.{naked-singles, hidden-singles}

pub demand2 : Demand2
unfolding outcome
demand2 =
    record {
      fresh_masks = fresh-masks;
      verifier = λ f n. (verified-correct f n, correct-verified f);
      naked_singles = λ g m ok a. naked-singles g m (mask-small g ok a.under);
      hidden_singles = hidden-singles;
      naked_pairs = λ g m ok a. naked-pairs g ok m a;
      box_lines = box-lines;
      x_wings = x-wings;
    }
