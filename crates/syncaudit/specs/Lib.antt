pub mod Mode
pub mod Outcome
