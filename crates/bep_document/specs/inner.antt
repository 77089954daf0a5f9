-- What only private contracts say: no public contract rests on it.
pub mod Few
pub mod Cuts
pub mod Documents
pub mod Texts
pub mod Flights
pub mod Links
pub mod Views
pub mod Shares
pub mod Folders
pub mod Rows
