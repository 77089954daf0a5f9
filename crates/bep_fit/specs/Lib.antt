pub mod Merge
pub mod Logs
pub mod Fit
pub mod Replayed
pub mod FitLaws
pub mod Walk
pub mod Examples
