pub mod Whole
pub mod RunCut
pub mod OneRun
pub mod inner
