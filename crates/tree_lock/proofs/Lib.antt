pub mod Deciding
pub mod Serving
pub mod Passes
