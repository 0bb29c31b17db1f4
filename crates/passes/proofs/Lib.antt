pub mod Rounds
pub mod Tallies
pub mod Sweeping
pub mod StepValues
pub mod Finished
