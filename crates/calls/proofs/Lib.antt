pub mod Numbers
pub mod Arms
pub mod Runs
pub mod Positions
pub mod Demand3
pub mod Verdicts
pub mod Unchecked
