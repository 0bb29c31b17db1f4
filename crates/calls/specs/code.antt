-- How the code goes about it: nothing here needs belief.
pub mod Unchecked
pub mod QuietSteps
