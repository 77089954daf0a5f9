-- What only private contracts say: no public contract rests on it.
pub mod Weight
pub mod Ascending
pub mod Known
pub mod Unmet
pub mod Found
pub mod Line
pub mod Records
pub mod Asked
pub mod Alike
pub mod HindranceOrder
pub mod Says
pub mod Behind
