pub mod LockedTurns
pub mod LockedDue
pub mod RestTable
pub mod RestDue
pub mod FirstDue
