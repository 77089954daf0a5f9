pub mod ModeFacts
pub mod TurnsFacts
