pub mod Link
pub mod LinkError
pub mod Side
