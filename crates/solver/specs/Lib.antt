pub mod Modes
pub mod Searched
