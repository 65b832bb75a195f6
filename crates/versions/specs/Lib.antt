pub mod ListIds
pub mod ArcList
pub mod Published
