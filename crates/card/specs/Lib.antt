pub mod Layout
pub mod Cards
