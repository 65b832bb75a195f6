pub mod Certificate
pub mod Check
pub mod Reaching
