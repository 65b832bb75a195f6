pub mod FirstFound
pub mod Meeting
pub mod Seats
pub mod Working
