-- How the code goes about it: nothing here needs belief.
pub mod Fitting
pub mod Parts
