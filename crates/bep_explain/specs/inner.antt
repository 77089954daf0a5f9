-- What only private contracts say: no public contract rests on it.
pub mod Added
pub mod Lines
pub mod Rows
pub mod Says
