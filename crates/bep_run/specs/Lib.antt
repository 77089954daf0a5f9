pub mod Based
pub mod Origin
pub mod Quiet
pub mod Settling
pub mod Why
pub mod inner
