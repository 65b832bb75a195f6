pub mod DrawSeats
pub mod Drawn
pub mod Law
pub mod Ledger
pub mod BoardIds
pub mod Seats
