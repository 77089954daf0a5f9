pub mod Lines
pub mod Convergence
pub mod Status
pub mod inner
