mod ListedFacts
pub mod RecordFacts
mod MadeFacts
pub mod FaultFacts
mod ReadingFacts
