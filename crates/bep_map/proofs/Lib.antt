pub mod MapFacts
pub mod Lent
