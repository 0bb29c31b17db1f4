pub mod Techniques
pub mod Reports
pub mod code
