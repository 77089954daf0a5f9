pub mod CalmFacts
pub mod Faultless
pub mod Verdicts
pub mod Winners
pub mod Deciding
pub mod VersionsDecided
pub mod CutDecided
pub mod FirstFault
pub mod VerdictFound
pub mod WithoutFacts
pub mod StaysFacts
pub mod FirmFacts
pub mod FirmVerdicts
mod TwoDevices
