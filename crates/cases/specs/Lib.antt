pub mod Grids
pub mod Bytes
pub mod Cases
