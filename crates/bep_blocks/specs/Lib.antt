pub mod BlocksError
pub mod Plain
pub mod Matching
pub mod Laws
pub mod Workers
