-- What follows where no fault is found.
pub mod JudgeFacts
pub mod SeenFacts
pub mod RisingFacts
pub mod RecordTests
pub mod LastFacts
pub mod NoFault
pub mod Flights
pub mod TwiceFacts
pub mod UnsharedFacts
pub mod RecordsFacts
pub mod SequencesFacts
pub mod LinksFacts
