pub mod Sections
pub mod Records
pub mod Moves
pub mod Laws
pub mod code
