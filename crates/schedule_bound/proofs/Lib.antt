pub mod Nodes
pub mod Bounding
