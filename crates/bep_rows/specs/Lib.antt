pub mod Names
pub mod Standing
pub mod Stream
pub mod Row
pub mod Plain
pub mod AllRows
pub mod ListRead
