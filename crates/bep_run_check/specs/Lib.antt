pub mod Log
pub mod inner
