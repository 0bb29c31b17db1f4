pub mod Lists
pub mod Fills
pub mod Unions
pub mod Units
pub mod Cells
pub mod PeerRows
mod SameRows
pub mod Pigeonhole
pub mod Fillings
pub mod Marks
mod Standing
