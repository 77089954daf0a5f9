-- What only private contracts say: no public contract rests on it.
pub mod Chosen
pub mod Conflict
pub mod Ending
pub mod Overriding
pub mod Sound
pub mod Start
pub mod Found
pub mod Reverting
pub mod Finish
pub mod Wanted
pub mod Calls
