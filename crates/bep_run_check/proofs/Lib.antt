pub mod NextFacts
pub mod Walking
pub mod ListDone
pub mod WalkLists
