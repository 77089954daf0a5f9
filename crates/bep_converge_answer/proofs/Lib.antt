pub mod ConvergingSaid
pub mod ProgressTold
