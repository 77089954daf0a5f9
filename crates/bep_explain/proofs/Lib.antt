pub mod FailureFacts
pub mod RowFacts
pub mod Gathered
pub mod Results
pub mod OneFact
pub mod LooseFacts
pub mod AboutFacts
pub mod TwoContents
pub mod NameSays
pub mod RowLists
pub mod GroupFound
mod UnwonFacts
pub mod JsonFacts
pub mod LinesFacts
