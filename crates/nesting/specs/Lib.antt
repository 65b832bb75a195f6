pub mod FactorList
pub mod Prices
pub mod Grown
pub mod Parametric
pub mod Outermost
pub mod Within
pub mod Planned
