pub mod Refused
pub mod Words
pub mod FirstFault
