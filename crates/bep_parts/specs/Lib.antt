pub mod Parts
pub mod FirstVerdict
pub mod Document
pub mod Laws
