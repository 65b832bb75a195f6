pub mod Problem
pub mod Schedule
pub mod WholeBlocks
pub mod Bound
pub mod ExampleSchedules
