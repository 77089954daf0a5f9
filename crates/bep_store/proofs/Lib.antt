pub mod InsertFacts
pub mod KeptFacts
pub mod NodeFacts
