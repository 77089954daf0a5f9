pub mod Fault
pub mod read
pub mod faults
pub mod Reading
pub mod Faultless
pub mod Short
pub mod Laws
pub mod inner
