pub mod Texts
pub mod Readings
pub mod Gathering
pub mod SheetAnswers
pub mod SheetLaws
