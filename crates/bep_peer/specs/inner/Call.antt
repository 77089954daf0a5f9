-- What a call of a device's folder does, and what the device makes of its answer (this project's profile).
use Rattle.std.specs.Prelude.{◌≡◌, ◌⊎◌, ◌↔◌, ⊤, ℕ, true, false, Option, Some, None, Result, Err, IsErr, IsErrOf, IfOk, IfErr}
use Rattle.std.specs.FinMap.{get}
use Rattle.bep_map.specs.NameMap.{ByName}
use Rattle.bep_record.specs.declared.node.NodeParts.{NodeParts}
use Rattle.bep_model.specs.Tables.{Device, Folder, FileName}
use Rattle.bep_machine.specs.declared.moved.Moved.{Moved}
use Rattle.bep_machine.specs.declared.refusal.Refusal.TheVariants.{NotShared}
use Rattle.bep_machine.specs.Answer.{Row}
use Rattle.bep_machine.specs.Local.{EditRow, OverrideRow, RemoveRow, RevertRow, ScanRow}
use Rattle.bep_machine.specs.Pull.{FinishRow, StartPullRow}
use Rattle.bep_machine.specs.Replica.{Replica, node_at}
use Rattle.bep_folder.specs.Commit.{Commits}
use Rattle.bep_folder.specs.Finish.{GainsCopy}
use Rattle.bep_folder.specs.Held.{Held}
use Rattle.bep_folder.specs.Makes.{Makes, Stays, CountsFaults}
use Rattle.bep_folder.specs.ScanResult.{Scanned}
use Rattle.bep_folder.specs.Unhidden.{RefusesNone}
use Rattle.bep_folder.specs.declared.error.FolderError.{FolderError}
use Rattle.bep_folder.specs.declared.error.FolderError.TheVariants as errors
use Rattle.bep_peer.specs.Contents.{HasNames, HoldsNodes}
use Rattle.bep_peer.specs.declared.error.PeerError.{PeerError}
use Rattle.bep_peer.specs.declared.error.PeerError.TheVariants.{Refused}
use Rattle.bep_peer.specs.declared.within.steps.Step.{Step}
use Rattle.bep_peer.specs.declared.within.steps.Step.TheVariants.{Edit, Remove, Scan, Pull, Finish, Override, Revert}
use Rattle.bep_peer.specs.Member.{Member, untold}
use Rattle.bep_peer.specs.Within.{IsOfStep, answer_of, with_folder}

-- ---- every call

-- It is the same folder after it, shared with the same devices; its count of faults rises exactly where a fault is answered;
-- and only what a step or a commit answers is answered.
pub record IsSteady {A : Type 0} (before after : Held) (answer : Result A FolderError) : Type 0 where
  pub stays : Stays before after
  pub others : after.tables.others ≡ before.tables.others
  pub counted : CountsFaults before after answer
  pub given : IfErr answer IsOfStep

-- the device's folder was called: what it told is told, and what it answered is answered
pub record IsCalled {A : Type 0} (does : Held → Held → Result A FolderError → Type 0) (folder : Folder) (old new : Member) (result : Result A PeerError) : Type 0 where
  pub before : Held
  pub after : Held
  pub answer : Result A FolderError
  pub there : get old.folders folder ≡ Some before
  pub own : before.device ≡ old.number
  pub done : does before after answer
  pub steady : IsSteady before after answer
  pub now : new ≡ with_folder old folder after
  pub says : result ≡ answer_of answer

-- the device doesn't have the folder, or the folder was called
abbrev pub AnswersAt : {A : Type 0} → (Held → Held → Result A FolderError → Type 0) → Folder → Member → Member → Result A PeerError → Type 0
AnswersAt does folder old new result =
    ((get old.folders folder ≡ None) × (new ≡ untold old) × (result ≡ Err (Refused NotShared))) ⊎ IsCalled does folder old new result

-- ---- steps

-- the row of the step, at the folder's device and the call of its store that failed
abbrev pub row_of : Step → Device → Option ℕ → Replica → Row Replica
row_of (Edit name node) device failed = EditRow name.now node.now failed
row_of (Remove name) device failed = RemoveRow name.now failed
row_of (Scan name) device failed = ScanRow device name.now failed
row_of (Pull name) device failed = StartPullRow device name.now
row_of (Finish name) device failed = FinishRow device name.now failed
row_of (Override name) device failed = OverrideRow device name.now
row_of (Revert name) device failed = RevertRow device name.now failed

-- a conflict copy may be written, and after an error that is all that was done
pub record MayCopy (name : FileName) (before after : Held) (answer : Result Moved FolderError) : Type 0 where
  pub copied : (after.trace.copied ≡ true) ↔ GainsCopy name before.tables after.tables
  pub kept : IsErr answer → after.trace.copied ≡ false → after.tables ≡ before.tables

-- the end of a pull alone may write one
abbrev pub TellsOfCopy : Step → Held → Held → Result Moved FolderError → Type 0
TellsOfCopy (Finish name) before after answer = MayCopy name.now before after answer
TellsOfCopy step before after answer = after.trace.copied ≡ false

-- where the beginning of a pull wants memory, nothing refuses it
abbrev pub HidesNone : Step → Held → Result Moved FolderError → Type 0
HidesNone (Pull name) before answer = IsErrOf answer errors.Memory → RefusesNone (StartPullRow before.device name.now before.tables)
HidesNone step before answer = ⊤

-- the step's row is made
pub record IsStepped (step : Step) (before after : Held) (answer : Result Moved FolderError) : Type 0 where
  pub made : Makes (row_of step before.device after.trace.failed) before after answer
  pub told : TellsOfCopy step before after answer
  pub unhidden : HidesNone step before answer

-- ---- scans

-- nothing changed, and only want of memory or the store's failure is answered in place of what was read
pub record IsRead {A : Type 0} (IsRight : A → Type 0) (before after : Held) (answer : Result A FolderError) : Type 0 where
  pub right : IfOk answer IsRight
  pub same : after.tables ≡ before.tables
  pub only : IfErr answer (λ e. (e ≡ errors.StoreFault) ⊎ (e ≡ errors.Memory))
  pub uncopied : after.trace.copied ≡ false

-- the store has this at the name; its first call is the only one
pub record IsLooked (name : FileName) (before after : Held) (answer : Result (Option NodeParts) FolderError) : Type 0 where
  pub read : IsRead (λ node. node ≡ node_at before.tables name) before after answer
  pub first : IsErrOf answer errors.StoreFault → after.trace.failed ≡ Some 1

-- what the store holds was read out
abbrev pub IsReadOut : Held → Held → Result (ByName NodeParts) FolderError → Type 0
IsReadOut before after answer = IsRead (HoldsNodes before.tables) before after answer

-- the names that are there were listed
abbrev pub IsListed : Held → Held → Result (ByName (Unit {0})) FolderError → Type 0
IsListed before after answer = IsRead (HasNames before.tables) before after answer

-- what was found is recorded
pub record IsCommitted (scan : Scanned) (before after : Held) (answer : Result Moved FolderError) : Type 0 where
  pub commits : Commits scan before after answer
  pub uncopied : after.trace.copied ≡ false
