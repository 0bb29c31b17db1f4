pub mod Texts
pub mod Sheets
pub mod SheetLaws
