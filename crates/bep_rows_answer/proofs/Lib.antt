mod Above
pub mod Alone
pub mod Asked
pub mod Ended
mod FirstByte
mod LineFacts
pub mod MoreRows
pub mod Settled
mod SoFar
mod Streamed
mod CountFacts
mod Given
