pub mod Decimals
pub mod Lent
pub mod code
