-- What is told of each thing, by what is told of its members.
pub mod Cuts
pub mod Documents
pub mod Readings
pub mod Flights
pub mod Links
pub mod Views
pub mod Shares
pub mod Folders
pub mod Rows
