pub mod Lines
pub mod Lived
pub mod Beside
pub mod Told
