pub mod Standing
pub mod Pairs
pub mod Converging
pub mod Stays
pub mod Explained
