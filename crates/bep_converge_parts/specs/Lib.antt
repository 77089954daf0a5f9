pub mod FirstVerdict
pub mod Laws
