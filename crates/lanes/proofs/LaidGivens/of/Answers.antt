-- `lanes::LaidGivens::of` meets its contract: lanes that hold nothing are of no masks. Assumes nothing.
use Rattle.lanes.proofs.Spots.{none-laid}
use Rattle.lanes.proofs.LaidGivens.of.Goals as goal

pub lay-requires : goal.lay-requires
lay-requires c = none-laid
