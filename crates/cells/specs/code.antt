-- How the code goes about it: nothing here needs belief.
pub mod Places
pub mod Unions
pub mod Meets
pub mod Notes
