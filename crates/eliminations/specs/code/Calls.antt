-- The call that an elimination of the code is.
use Rattle.steps.specs.Calls.{Call, box_line_call, chain_call, naked_pairs_call, wide, x_chain_call, x_wing_call}
use Rattle.steps.specs.Passes.{Claiming, Cross, Lone, Pair, Place, Pointing}
use Rattle.eliminations.specs.declared.Elimination.{Elimination}
use Rattle.eliminations.specs.declared.Elimination.TheVariants as by

abbrev pub call_of : Elimination → Call
call_of by.NakedPairs = naked_pairs_call
call_of by.BoxLine = box_line_call
call_of by.XWing = x_wing_call
call_of by.Lone = wide Lone
call_of by.Place = wide Place
call_of by.Pair = wide Pair
call_of by.Pointing = wide Pointing
call_of by.Claiming = wide Claiming
call_of by.Cross = wide Cross
call_of by.Chains = chain_call
call_of by.XChains = x_chain_call
