pub mod Columns
pub mod FactorText
pub mod ByMode
