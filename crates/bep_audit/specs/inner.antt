-- What only private contracts say: no public contract rests on it.
pub mod Faultless
pub mod Foreign
pub mod Held
pub mod Known
pub mod Missing
pub mod Search
pub mod Walk
