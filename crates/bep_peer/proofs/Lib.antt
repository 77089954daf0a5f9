mod BeginFacts
mod ConfigFacts
pub mod Mapped
pub mod Keeping
pub mod RowsKeep
mod OthersKept
mod OwnFacts
mod Cursors
mod FirstRequest
mod LastSequence
mod StepFacts
mod SharingFacts
mod AnnounceFacts
mod AskFacts
mod SessionFacts
mod SoundFacts
mod Refusals
mod WithinFacts
mod Steady
mod ScanFacts
mod ContentsFacts
pub mod CopyFacts
mod RestartFacts
mod ResetFacts
mod ViewTaken
mod DeliverFacts
mod RenewFacts
mod MemberFacts
mod ReadFacts
mod RequestFacts
mod ResponseFacts
mod SentFacts
mod Unrefused
pub mod Numbers
pub mod Changed
pub mod Members
