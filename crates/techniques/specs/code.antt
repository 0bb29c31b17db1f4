-- How the code goes about it: nothing here needs belief.
pub mod NakedPairs
pub mod BoxLines
pub mod XWings
pub mod Singles
pub mod Pushes
pub mod Searches
