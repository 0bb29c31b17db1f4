-- How the code goes about it: nothing here needs belief.
pub mod Twos
pub mod Lively
pub mod Spots
pub mod Search
