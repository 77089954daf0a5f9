pub mod Parts
pub mod View
pub mod Laws
pub mod Chair
pub mod inner
