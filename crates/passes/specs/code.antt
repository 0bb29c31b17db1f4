-- How the code goes about it: nothing here needs belief.
pub mod Rounds
pub mod Over
pub mod Tallies
pub mod Handed
