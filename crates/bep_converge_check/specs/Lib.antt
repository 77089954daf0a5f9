pub mod Hindrance
pub mod Hindrances
pub mod SoMany
pub mod Progress
pub mod inner
