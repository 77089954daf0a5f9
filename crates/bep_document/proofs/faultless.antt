-- No fault is found where there is none.
pub mod NoneFound
pub mod NothingTwice
pub mod Shared
pub mod Good
pub mod Numbered
pub mod Linked
pub mod FewDevices
pub mod Found
