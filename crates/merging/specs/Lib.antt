pub mod Solved
pub mod Replayed
pub mod Order
pub mod Parts
pub mod Reduced
