pub mod Legible
pub mod Lines
pub mod Text
