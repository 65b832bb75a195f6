pub mod PublishedJournal
pub mod HolderState
pub mod Served
