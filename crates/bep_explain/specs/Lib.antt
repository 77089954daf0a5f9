pub mod Annotated
pub mod document
pub mod FirmTold
pub mod Found
pub mod Loose
pub mod Told
pub mod Unwon
pub mod inner
