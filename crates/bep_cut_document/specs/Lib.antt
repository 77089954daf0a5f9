-- The cut that a document writes down.
pub mod Sorting
pub mod Written
pub mod AsWritten
pub mod Trees
pub mod Told
pub mod Room
pub mod inner
