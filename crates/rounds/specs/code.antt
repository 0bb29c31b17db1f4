-- How the code goes about it: nothing here needs belief.
pub mod Kept
pub mod Cuts
