pub mod FromCut
pub mod Laws
