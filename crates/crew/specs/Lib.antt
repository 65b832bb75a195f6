pub mod Solved
pub mod Working
