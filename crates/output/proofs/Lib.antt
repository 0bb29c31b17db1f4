pub mod Decimals
pub mod Lent
pub mod Pens
pub mod Tapes
