pub mod Applying
pub mod Begin
pub mod Counts
pub mod Reached
pub mod Unhidden
pub mod Why
pub mod inner
