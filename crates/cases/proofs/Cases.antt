-- The published cases hold of the definitions. Assumes nothing.
use Rattle.cases.specs.Cases.{Cases}
use Rattle.cases.proofs.P1.{p1-holds}
use Rattle.cases.proofs.P2to6.{p2-holds, p3-holds, p4-holds, p5-holds, p6-holds}
use Rattle.cases.proofs.P7.{p7-holds}
use Rattle.cases.proofs.P8.{p8-holds, p9-holds}
use Rattle.cases.proofs.P10.{p10-holds}
use Rattle.cases.proofs.P11.{p11-holds}
use Rattle.cases.proofs.Full.{full-holds}
use Rattle.cases.proofs.Claimed.{claimed-holds}
use Rattle.cases.proofs.Entered.{entries-hold, equal-holds}
use Rattle.cases.proofs.Recorded.{records-hold}
use Rattle.cases.proofs.Clothed.{clothes-hold}
use Rattle.cases.proofs.Stepped.{steps-hold}
use Rattle.cases.proofs.Figured.{difficulty-holds}

pub cases : Cases
cases =
    record {
      one = p1-holds;
      two = p2-holds;
      three = p3-holds;
      four = p4-holds;
      five = p5-holds;
      six = p6-holds;
      seven = p7-holds;
      eight = p8-holds;
      nine = p9-holds;
      ten = p10-holds;
      eleven = p11-holds;
      full = full-holds;
      claiming = claimed-holds;
      entries = entries-hold;
      equal = equal-holds;
      records = records-hold;
      clothes = clothes-hold;
      steps = steps-hold;
      difficulty = difficulty-holds;
    }
