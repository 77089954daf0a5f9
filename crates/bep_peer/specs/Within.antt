-- What a device does with one of its folders: the folder's replica makes a row, and all else stays (this project's profile).
use Rattle.std.specs.Prelude.{◌≡◌, ◌⊎◌, ⊤, Option, Some, None, IsSome, option_map, Result, Ok, Err}
use Rattle.std.specs.Option.{unwrap_or}
use Rattle.std.specs.FinMap.{get, insert}
use Rattle.bep_record.specs.declared.node.NodeParts.{NodeParts}
use Rattle.bep_model.specs.Tables.{Folder, FileName}
use Rattle.bep_machine.specs.declared.moved.Moved.{Moved}
use Rattle.bep_machine.specs.declared.refusal.Refusal.TheVariants.{StoreFault, NotShared}
use Rattle.bep_machine.specs.Answer.{Refused, OutOfMemory, Row, ◌answers◌when◌else◌}
use Rattle.bep_machine.specs.Local.{ScanRow}
use Rattle.bep_machine.specs.Replica.{Replica, node_at}
use Rattle.bep_machine.specs.Peer.{Peer, with_replica}
use Rattle.bep_folder.specs.Commit.{IsFresh}
use Rattle.bep_folder.specs.Finish.{GainsCopy}
use Rattle.bep_folder.specs.Held.{Held}
use Rattle.bep_folder.specs.Makes.{refusal_of}
use Rattle.bep_folder.specs.ScanResult.{Scanned}
use Rattle.bep_folder.specs.Trace.{Trace as HeldTrace}
use Rattle.bep_folder.specs.declared.error.FolderError.{FolderError}
use Rattle.bep_folder.specs.declared.error.FolderError.TheVariants as errors
use Rattle.bep_peer.specs.declared.error.PeerError.{PeerError}
use Rattle.bep_peer.specs.declared.error.PeerError.TheVariants.{Refused as Of, Stale, Memory}
use Rattle.bep_peer.specs.declared.trace.Trace.{Trace}
use Rattle.bep_peer.specs.Member.{Member, tables_of, untold, nothing_told}
use Rattle.bep_peer.specs.PeerError.{Gives}

-- the folder's replica makes the row, and all else stays
abbrev pub AtFolder : Folder → (Replica → Row Replica) → Peer → Row Peer
AtFolder folder row old new answer =
    (before after : Replica) × (get old.replicas folder ≡ Some before) × row before after answer × (new ≡ with_replica old folder after)

-- Memory may be wanting, and the tables are as before then. Else the step is refused where the device doesn't have the
-- folder, or the folder's replica makes its row.
abbrev pub StepWithin : Folder → (Replica → Row Replica) → Member → Row Member
StepWithin folder row old new answer =
    ((tables_of new ≡ tables_of old) × (answer ≡ OutOfMemory)) ⊎
    (untold old answers Refused NotShared when get old.folders folder ≡ None else
    (λ new answer. AtFolder folder row (tables_of old) (tables_of new) answer)) new answer

-- what an action of a folder tells: which call of its store failed, and whether it wrote a conflict copy
abbrev pub told_of : HeldTrace → Trace
told_of trace = record nothing_told { failed = trace.failed; copied = trace.copied }

-- the folder alone changes, to this, and what it tells is told
abbrev pub with_folder : Member → Folder → Held → Member
with_folder old folder held = record old { folders = insert old.folders folder held; trace = told_of held.trace }

-- that folder alone changes, if the device has it
abbrev pub OnlyFolder : Folder → Member → Member → Type 0
OnlyFolder folder old new =
    ((get old.folders folder ≡ None) × (new ≡ untold old)) ⊎ ((held : Held) × IsSome (get old.folders folder) × (new ≡ with_folder old folder held))

-- a conflict copy of the name is due in the folder, and nothing stood under the conflict name, where a node stands now
abbrev pub GainsCopyIn : Folder → FileName → Member → Member → Type 0
GainsCopyIn folder name old new =
    (before after : Held) × (get old.folders folder ≡ Some before) × (get new.folders folder ≡ Some after) × GainsCopy name before.tables after.tables

-- a failed call of a store is told exactly where the store's failure is answered
abbrev pub TellsFault : {A : Type 0} → Member → Result A PeerError → Type 0
TellsFault new (Err (Of StoreFault)) = IsSome new.trace.failed
TellsFault new _ = new.trace.failed ≡ None

-- ---- scanning

-- the store has another node than the one that was found
abbrev pub IsStale : Folder → Scanned → Member → Type 0
IsStale folder scan member = (held : Held) × (get member.folders folder ≡ Some held) × (¬ IsFresh scan held.tables)

-- The commit is a scan of the name. Where the store has another node than the one that was found, the commit is refused,
-- and the tables are as before.
abbrev pub CommitsWithin : Folder → Scanned → Member → Member → Result Moved PeerError → Type 0
CommitsWithin folder scan old new (Err Stale) = IsStale folder scan old × (tables_of new ≡ tables_of old)
CommitsWithin folder scan old new (Err (Of StoreFault)) =
    Gives (StepWithin folder (ScanRow old.number scan.name new.trace.failed) old) new (Err (Of StoreFault))
CommitsWithin folder scan old new (Err Memory) =
    Gives (StepWithin folder (ScanRow old.number scan.name new.trace.failed) old) new (Err Memory)
CommitsWithin folder scan old new result =
    (¬ IsStale folder scan old) × Gives (StepWithin folder (ScanRow old.number scan.name new.trace.failed) old) new result

-- ---- what a replica answers

-- as this crate's answer: the step's refusal, or `Stale` where it is none
abbrev pub error_of : FolderError → PeerError
error_of errors.Memory = Memory
error_of error = unwrap_or (option_map Of (refusal_of error)) Stale

-- a call of a replica that is a step or a commit answers it
abbrev pub IsOfStep : FolderError → Type 0
IsOfStep errors.BatchOld = ⊥
IsOfStep errors.HashBad = ⊥
IsOfStep error = ⊤

abbrev pub answer_of : {A : Type 0} → Result A FolderError → Result A PeerError
answer_of (Ok done) = Ok done
answer_of (Err error) = Err (error_of error)

-- ---- looking

-- what the folder's store has at the name is answered; or the device doesn't have the folder, or the first call of its
-- store failed, or memory was wanting
abbrev pub FindsWithin : Folder → FileName → Member → Member → Result (Option NodeParts) PeerError → Type 0
FindsWithin folder name old new (Ok node) = (held : Held) × (get old.folders folder ≡ Some held) × (node ≡ node_at held.tables name)
FindsWithin folder name old new (Err (Of NotShared)) = get old.folders folder ≡ None
FindsWithin folder name old new (Err (Of StoreFault)) = IsSome (get old.folders folder) × (new.trace.failed ≡ Some 1)
FindsWithin folder name old new (Err Memory) = IsSome (get old.folders folder)
FindsWithin folder name old new (Err error) = ⊥
