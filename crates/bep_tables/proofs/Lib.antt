pub mod Found
mod GroupFacts
pub mod Tables
mod Values
mod Added
mod Known
mod Finite
mod Said
mod ListingFacts
mod Regrouped
mod Rooms
mod Rising
