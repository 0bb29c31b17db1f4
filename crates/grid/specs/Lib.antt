pub mod Lists
pub mod Cells
pub mod Units
pub mod PeerRows
pub mod Fillings
pub mod Marks
pub mod code
