pub mod Adding
pub mod AddFacts
pub mod Distinct
pub mod DistinctFacts
pub mod KeptFacts
pub mod PlaceFacts
