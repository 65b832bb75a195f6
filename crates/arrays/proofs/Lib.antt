pub mod Encoding
pub mod Repeats
pub mod Marking
pub mod Numbered
pub mod OneMine
pub mod Taking
pub mod MarkedShells
pub mod Certifying
