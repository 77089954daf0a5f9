-- What only private contracts say: no public contract rests on it.
pub mod InRange
pub mod Text
pub mod Passed
pub mod Numbered
