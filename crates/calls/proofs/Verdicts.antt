-- What the verdict means, from demand 3's half on fillings. Assumes nothing.
use Rattle.steps.specs.Fillings.{Keeps}
use Rattle.board.specs.Boards.{board_of}
use Rattle.board.proofs.VerdictSays.{verdict-says}
use Rattle.calls.specs.Verdicts.{VerdictMeans}
use Rattle.calls.proofs.Demand3.{demand3}

pub verdict-means : VerdictMeans
verdict-means =
    record {
      lists = λ clues entries ok en xs n B at. verdict-says B.masks (Keeps (board_of B)) (demand3.fillings clues entries ok en xs n B at);
      replayed = λ clues entries ok en ns n r e. let d = demand3.replayed_fillings clues entries ok en ns n r e in (d.0, d.1, verdict-says d.0.masks (Keeps (board_of d.0)) d.2);
    }
