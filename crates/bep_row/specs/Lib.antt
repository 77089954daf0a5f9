pub mod Row
pub mod Fits
pub mod Plain
