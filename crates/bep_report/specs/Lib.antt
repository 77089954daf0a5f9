pub mod Certificate
pub mod Input
pub mod Output
pub mod Report
pub mod inner
