-- What only private contracts say: no public contract rests on it.
pub mod Known
pub mod Stored
