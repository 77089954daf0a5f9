pub mod SettledSaid
pub mod FirmSaid
pub mod Statuses
mod OneAnswer
pub mod UnderWinners
pub mod LineText
