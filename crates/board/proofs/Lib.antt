pub mod Signs
pub mod Taken
pub mod Flags
pub mod Checks
pub mod Answered
pub mod VerdictSays
