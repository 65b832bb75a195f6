pub mod Sums
pub mod Grid
pub mod Levels
pub mod Bounded
pub mod ExampleSchedules
pub mod OneBound
pub mod WholeBlocks
