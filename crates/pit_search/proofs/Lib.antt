pub mod Marking
pub mod Searching
pub mod Solvers
