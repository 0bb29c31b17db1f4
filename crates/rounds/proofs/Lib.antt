mod Kept
mod Cutting
mod Grids
mod Held
mod Outcomes
mod Feeding
pub mod Whole
pub mod RightAnswers
pub mod Short
mod Used
