pub mod Mode
pub mod Turns
pub mod Told
