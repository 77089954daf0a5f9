-- What the tree of a document says: a definition for each thing that stands in it.
pub mod Few
pub mod Views
pub mod Shares
pub mod Folders
pub mod Devices
pub mod Links
pub mod Checks
