pub mod Listing
pub mod Trails
pub mod Searching
pub mod Holders
pub mod XWalks
pub mod XMarks
pub mod XLosses
pub mod Costly
