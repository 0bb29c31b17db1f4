pub mod Tests
pub mod Meetings
pub mod Instances
pub mod Named
pub mod Following
pub mod Checks
