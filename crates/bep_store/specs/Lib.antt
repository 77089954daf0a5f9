pub mod FaultStore
pub mod Kept
pub mod Range
pub mod Store
pub mod StoreError
pub mod Sure
