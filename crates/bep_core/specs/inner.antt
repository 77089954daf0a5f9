-- What only private contracts say: no public contract rests on it.
pub mod Between
pub mod Over
pub mod Restart
pub mod Within
