pub mod View
pub mod Read
pub mod Names
pub mod Number
pub mod Walk
pub mod inner
