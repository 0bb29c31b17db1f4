pub mod Settlings
pub mod code
