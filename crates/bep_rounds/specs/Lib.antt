pub mod Rounds
pub mod Finding
