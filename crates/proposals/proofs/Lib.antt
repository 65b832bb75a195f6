pub mod Dealing
pub mod Drawing
pub mod Holders
pub mod Seated
pub mod Table
pub mod Turns
pub mod Workers
