pub mod MemoryRelations
pub mod SolvedFiles
