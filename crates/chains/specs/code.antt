-- How the code goes about it: nothing here needs belief.
pub mod Links
pub mod XLinks
