-- What only private contracts say: no public contract rests on it.
pub mod Dropping
pub mod Tally
pub mod Starting
pub mod Unchanged
pub mod Kept
pub mod Ending
pub mod Tickets
pub mod Looking
