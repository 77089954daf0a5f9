pub mod Choice
pub mod Need
