mod PlayFacts
mod StepText
mod SettledEnd
mod OneEnd
pub mod ReachedOn
