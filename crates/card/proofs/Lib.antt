pub mod Joins
pub mod Cards
pub mod Printed
pub mod Verdicts
mod CellBytes
pub mod Newlines
mod Signs
