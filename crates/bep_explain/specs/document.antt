-- What is explained of a document.
pub mod Explained
pub mod FirmExplained
pub mod Told
pub mod UnderWinners
