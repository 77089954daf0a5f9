pub mod Kept
pub mod Alike
pub mod OnlyFacts
mod AsksAlike
mod AskedOfParts
mod Merged
mod FirstVerdicts
mod Documents
