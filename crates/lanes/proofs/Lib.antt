pub mod Spots
pub mod LaneUnits
pub mod Turns
pub mod Families
