-- What only private contracts say: no public contract rests on it.
pub mod Rule
