-- How the code goes about it: nothing here needs belief.
pub mod Turns
pub mod Due
