pub mod Eliminations
pub mod code
