pub mod Same
pub mod Text
pub mod Found
pub mod Named
mod NumberedFacts
pub mod Signed
pub mod Walking
pub mod OneValue
pub mod Digits
pub mod Passing
