pub mod Played
pub mod Beside
pub mod Told
pub mod Laws
pub mod inner
