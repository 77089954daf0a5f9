-- What holds of what is read.
pub mod DevicesFacts
pub mod Readers
pub mod RowsFirst
pub mod RangeFacts
pub mod ShortFacts
pub mod DevicesKnown
