pub mod StepNumbers
pub mod Replays
pub mod Demand3
pub mod Verdicts
pub mod code
