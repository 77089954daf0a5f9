pub mod FaultlessFacts
pub mod RangeFacts
pub mod InsertFacts
pub mod StartFacts
pub mod told
mod EmptyStores
