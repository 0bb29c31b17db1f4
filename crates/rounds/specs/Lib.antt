pub mod Lines
pub mod Answers
pub mod Rounds
pub mod Summaries
pub mod code
pub mod Promises
