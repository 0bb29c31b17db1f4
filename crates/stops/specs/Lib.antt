pub mod Stops
pub mod Answer
