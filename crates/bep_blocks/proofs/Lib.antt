pub mod PlainFacts
pub mod MatchingFacts
pub mod HashesFacts
mod WorkersFacts
