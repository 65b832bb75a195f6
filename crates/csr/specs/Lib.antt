pub mod Count
pub mod Rows
pub mod View
pub mod Shared
pub mod Built
pub mod Transposed
pub mod Queue
pub mod Left
