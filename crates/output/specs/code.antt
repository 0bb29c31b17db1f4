-- How the code goes about it: nothing here needs belief.
pub mod Tapes
pub mod Pens
