-- What only private contracts say: no public contract rests on it.
pub mod Digits
pub mod Filled
pub mod Joined
pub mod Nodes
pub mod Records
pub mod Said
