mod Kept
pub mod Order
mod Stands
pub mod ThreeParts
pub mod Whole
pub mod Reading
mod AllRows
pub mod ListRead
mod Plain
