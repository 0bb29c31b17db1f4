pub mod Ratings
pub mod code
