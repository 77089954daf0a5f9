-- What a device does in one of its folders under a ticket, and what is logged of it (this project's profile).
use Rattle.std.specs.Prelude.{◌≡◌, ◌↔◌, ℕ, true, false, Option, Some, None, Result, IsErr}
use Rattle.bep_model.specs.Tables.{Folder, FileName}
use Rattle.bep_machine.specs.declared.moved.Moved.{Moved}
use Rattle.bep_machine.specs.declared.step.Step.{Step}
use Rattle.bep_machine.specs.Answer.{Row}
use Rattle.bep_machine.specs.Replica.{Replica}
use Rattle.bep_peer.specs.declared.error.PeerError.{PeerError}
use Rattle.bep_peer.specs.Member.{Member, Remains, tables_of, untold}
use Rattle.bep_peer.specs.PeerError.{Gives}
use Rattle.bep_peer.specs.Within.{GainsCopyIn, StepWithin}
use Rattle.bep_log.specs.declared.error.LogError.{LogError}
use Rattle.bep_log.specs.Event.{event_told}
use Rattle.bep_log.specs.LoggedPeer.{LoggedMember, Tells}
use Rattle.bep_log.specs.Ticket.{UnderTicket}

-- what an action makes of a device, which tells what it did, and what it answers
abbrev pub Does : Type 1
Does = Member → Member → Result Moved PeerError → Type 0

-- the folder's replica makes the row, at the call of its store that failed
abbrev pub MakesIn : Folder → (Option ℕ → Replica → Row Replica) → Does
MakesIn folder row old new answer = Gives (StepWithin folder (row new.trace.failed) old) new answer

-- the trace tells of a copy of this name exactly where one was kept; no action but the end of a pull keeps one
abbrev pub MayGain : Option FileName → Folder → Member → Member → Type 0
MayGain None folder old new = new.trace.copied ≡ false
MayGain (Some name) folder old new = (new.trace.copied ≡ true) ↔ GainsCopyIn folder name old new

-- The device made the action, and one event tells of it, the one that happened, if the action was done, or kept a copy and
-- then failed. After another error no table changed, and nothing was logged.
pub record ActsIn (name : Option FileName) (folder : Folder) (does : Does) (step : Step) (ticket : ℕ) (old new : LoggedMember) (answer : Result Moved PeerError) : Type 0 where
  -- the device as the action left it, before what it tells was taken
  pub left : Member
  pub now : new.now ≡ untold left
  pub made : does old.now left answer
  pub rest : Remains old.now left
  pub copied : MayGain name folder old.now left
  pub kept : IsErr answer → left.trace.copied ≡ false → tables_of left ≡ tables_of old.now
  pub told : Tells ticket (event_told step answer left.trace) old new

-- an action in a folder under a ticket; the name is the one of which it may keep a copy
abbrev pub LogsIn : Option FileName → Folder → Does → Step → ℕ → LoggedMember → LoggedMember → Result Moved LogError → Type 0
LogsIn name folder does step ticket old new = UnderTicket ticket old.log old.last (new ≡ old) (ActsIn name folder does step ticket old new)
