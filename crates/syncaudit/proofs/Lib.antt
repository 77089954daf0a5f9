pub mod StatusFacts
pub mod OneMode
pub mod SaysFacts
