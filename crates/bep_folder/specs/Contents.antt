-- Reading out what a store holds (this project's profile).
use Rattle.std.specs.Prelude.{◌≡◌, ◌<◌, Result, Ok, Err}
use Rattle.bep_folder.specs.declared.error.FolderError.{FolderError}
use Rattle.bep_folder.specs.declared.error.FolderError.TheVariants.{StoreFault, Memory}
use Rattle.bep_folder.specs.Held.{Held}
use Rattle.bep_folder.specs.Trace.{TracedStore, failed_now, no_trace}

-- Calls of the store were made, which change nothing that it holds. Where one answered a fault, the count of faults rose
-- and the trace tells that it was the last one; want of memory is no fault.
abbrev pub ReadsOut : {A : Type 0} → TracedStore → TracedStore → Result A FolderError → Type 0
ReadsOut old new (Ok _) = (new.contents ≡ old.contents) × (new.faults ≡ old.faults) × (new.trace ≡ old.trace)
ReadsOut old new (Err StoreFault) =
    (new.contents ≡ old.contents) × (old.faults < new.faults) × (new.trace ≡ failed_now new.made old.trace)
ReadsOut old new (Err Memory) = (new.contents ≡ old.contents) × (new.faults ≡ old.faults) × (new.trace ≡ old.trace)
ReadsOut old new (Err _) = ⊥

-- the folder over a store in memory, which never failed and of which no call was made
abbrev pub copied_out : Held → Held
copied_out held = record held { faults = 0; made = 0; trace = no_trace }
