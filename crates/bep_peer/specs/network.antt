-- A cluster as it is kept.
pub mod Network
pub mod Sharing
pub mod Agreed
