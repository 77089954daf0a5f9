pub mod Listed
pub mod Text
pub mod Cell
pub mod Faults
pub mod Reading
