pub mod Boards
pub mod Entering
pub mod Verdicts
pub mod code
