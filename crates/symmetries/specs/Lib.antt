pub mod Changes
pub mod OtherClothes
