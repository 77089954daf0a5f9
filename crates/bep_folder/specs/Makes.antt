-- What a call of a replica promises: it is one row of the table of steps, at the call of the store that failed (this
-- project's profile).
use Rattle.std.specs.Prelude.{◌≡◌, ◌⊎◌, ◌<◌, Option, Some, None, IsSome, IsSomeAnd, Result, Ok, Err}
use Rattle.bep_machine.specs.declared.moved.Moved.{Moved}
use Rattle.bep_machine.specs.declared.refusal.Refusal.{Refusal}
use Rattle.bep_machine.specs.declared.refusal.Refusal.TheVariants as refusals
use Rattle.bep_machine.specs.Answer.{Row, Done, Refused, OutOfMemory}
use Rattle.bep_machine.specs.Replica.{Replica}
use Rattle.bep_folder.specs.declared.error.FolderError.{FolderError}
use Rattle.bep_folder.specs.declared.error.FolderError.TheVariants.{CounterFull, TooManyCounters, NameBad, SequenceFull, IndexFull, BatchOld, StoreFault, Unscanned, NotNeeded, BlocksMissing, HashBad, CopyExists, PullsFull, KindForbids, Stale, NotShared, NothingToDo, Memory}
use Rattle.bep_folder.specs.Held.{Held}

-- the refusal of a step that the error is; no step gives the others
abbrev pub refusal_of : FolderError → Option Refusal
refusal_of CounterFull = Some refusals.CounterFull
refusal_of TooManyCounters = Some refusals.TooManyCounters
refusal_of NameBad = Some refusals.NameBad
refusal_of SequenceFull = Some refusals.SequenceFull
refusal_of IndexFull = Some refusals.IndexFull
refusal_of BatchOld = None
refusal_of StoreFault = Some refusals.StoreFault
refusal_of Unscanned = Some refusals.Unscanned
refusal_of NotNeeded = Some refusals.NotNeeded
refusal_of BlocksMissing = Some refusals.BlocksMissing
refusal_of HashBad = None
refusal_of CopyExists = Some refusals.CopyExists
refusal_of PullsFull = Some refusals.PullsFull
refusal_of KindForbids = Some refusals.KindForbids
refusal_of Stale = None
refusal_of NotShared = Some refusals.NotShared
refusal_of NothingToDo = Some refusals.NothingToDo
refusal_of Memory = None

-- the call makes the row on the tables, with the row's answer; or memory was wanting, and the tables are as before
abbrev pub Makes : (Replica → Row Replica) → Held → Held → Result Moved FolderError → Type 0
Makes row old new (Ok moved) = row old.tables new.tables (Done moved)
Makes row old new (Err Memory) = (new.tables ≡ old.tables) ⊎ row old.tables new.tables OutOfMemory
Makes row old new (Err error) = IsSomeAnd (refusal_of error) (λ refusal. row old.tables new.tables (Refused refusal))

-- it is the same folder of the same device
pub record Stays (old new : Held) : Type 0 where
  pub device : new.device ≡ old.device
  pub folder : new.folder ≡ old.folder

-- the count of faults rises exactly where a call of the store failed, and then a fault is answered
abbrev pub CountsFaults : {A : Type 0} → Held → Held → Result A FolderError → Type 0
CountsFaults old new (Err StoreFault) = (old.faults < new.faults) × IsSome new.trace.failed
CountsFaults old new _ = (new.faults ≡ old.faults) × (new.trace.failed ≡ None)
