-- What ending a pull reads in the store, and what the trace tells then of a conflict copy (this project's profile).
use Rattle.std.specs.Prelude.{◌≡◌, ◌⊎◌, ◌↔◌, ◌<◌, ◌≤◌, ℕ, true, false, Some, Result, Ok, Err, IsErr}
use Rattle.bep_model.specs.Tables.{FileName}
use Rattle.bep_machine.specs.declared.moved.Moved.{Moved}
use Rattle.bep_machine.specs.Local.{Fails}
use Rattle.bep_machine.specs.Replica.{Pull, Replica, pull_at}
use Rattle.bep_folder.specs.declared.error.FolderError.{FolderError}
use Rattle.bep_folder.specs.declared.error.FolderError.TheVariants.{StoreFault, Memory}
use Rattle.bep_folder.specs.Held.{Held}
use Rattle.bep_folder.specs.Trace.{next_call, failed_now}
use Rattle.bep_folder.specs.Finish.{GainsCopy}

-- the name has no pull, or this holds of it
abbrev pub IfPulled : FileName → Replica → (Pull → Type 0) → Type 0
IfPulled name tables P = (pull : Pull) → pull_at tables name ≡ Some pull → P pull

-- one more call of the store was made, which changes nothing; where it failed, the count of faults rose, and the trace
-- tells of the call
abbrev pub Looks : {A : Type 0} → Held → Held → Result A FolderError → Type 0
Looks old new (Ok _) = new ≡ record old { made = next_call old.made }
Looks old new (Err error) =
    ((error ≡ Memory) × (new ≡ record old { made = next_call old.made })) ⊎
    ((error ≡ StoreFault) × (old.faults < new.faults) × (new ≡ record old { faults = new.faults; made = next_call old.made; trace = failed_now (next_call old.made) old.trace }))

-- none of the calls that were made before has failed
abbrev pub FailsLater : Held → Held → Type 0
FailsLater old new = (call : ℕ) → call ≤ old.made → ¬ Fails call new.trace.failed

-- The trace tells of a copy exactly where the conflict name gained one; after an error without a copy all is as before.
pub record TellsOfCopy (name : FileName) (old new : Held) (result : Result Moved FolderError) : Type 0 where
  pub copied : (new.trace.copied ≡ true) ↔ GainsCopy name old.tables new.tables
  pub kept : IsErr result → new.trace.copied ≡ false → new.tables ≡ old.tables
