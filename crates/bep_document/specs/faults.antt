-- The faults of a document that have a place: a definition for each kind.
pub mod Judge
pub mod Walks
pub mod Twice
pub mod Unshared
pub mod Records
pub mod Sequences
pub mod Links
