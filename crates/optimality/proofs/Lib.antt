pub mod OfTree
pub mod Adding
pub mod Found
pub mod Visiting
pub mod Spreading
pub mod SameSet
pub mod Checked
pub mod Sending
