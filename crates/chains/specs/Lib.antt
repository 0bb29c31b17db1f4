pub mod Costly
pub mod code
