mod Moves
mod SixKinds
mod Incidence
mod Changed
mod SettledBoards
mod Givens
mod OneDigit
mod OneDigitPasses
mod NakedPairs
mod Labels
pub mod OtherClothes
