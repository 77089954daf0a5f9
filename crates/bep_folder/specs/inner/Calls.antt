-- How many calls of the store the writes at the end of a pull make (this project's profile).
use Rattle.std.specs.Prelude.{◌≡◌, ⊤, ℕ, Bool, Option, Some, None, Result, Ok, Err}
use Rattle.bep_record.specs.declared.entry.Entry.{Entry}
use Rattle.bep_record.specs.declared.node.NodeParts.{NodeParts}
use Rattle.bep_model.specs.Tables.{FileName}
use Rattle.bep_machine.specs.Pull.{CallsStore, EndsWith}
use Rattle.bep_machine.specs.Replica.{Pull}
use Rattle.bep_folder.specs.declared.error.FolderError.{FolderError}
use Rattle.bep_folder.specs.declared.error.FolderError.TheVariants.{TooManyCounters, SequenceFull, IndexFull, StoreFault, Memory}
use Rattle.bep_folder.specs.inner.Ending.{CallsIn, EndsIn}
use Rattle.bep_folder.specs.Trace.{TracedStore, next_call}
use Rattle.bep_folder.specs.Calls.{CallsIf}

-- the number of the last call, after the one that writes the conflict copy, where there is one to write
abbrev pub after_copy : Option FileName → ℕ → ℕ
after_copy None made = made
after_copy (Some copy) made = next_call made

-- The calls that write at the end of a pull: one for the conflict copy, if there is one to write, and one for the target,
-- unless the store holds already what it is to hold. A flag tells whether the own content is the target's already.
abbrev pub CallsToWrite : Bool → Option NodeParts → Pull → Option FileName → TracedStore → TracedStore → Result ⊤ FolderError → Type 0
CallsToWrite same there pull copy old new (Ok _) =
    (after : Option NodeParts) → EndsIn same there pull after → CallsIf (CallsIn same there pull.target after) (after_copy copy old.made) new.made
CallsToWrite same there pull copy old new (Err StoreFault) = new.trace.failed ≡ Some new.made
CallsToWrite same there pull copy old new (Err Memory) = ⊤
CallsToWrite same there pull copy old new (Err _) = ⊥

-- The calls since the one with this number, once the record is put: all writes were made, or the last call failed; or there
-- is no room for the record, and no call was made.
abbrev pub CallsSince : {A : Type 0} → ℕ → Option Entry → Option NodeParts → Pull → Option FileName → ℕ → Option ℕ → Result A FolderError → Type 0
CallsSince before own there pull copy made failed (Ok _) =
    (after : Option NodeParts) → EndsWith own there pull after → CallsIf (CallsStore own there pull.target after) (after_copy copy before) made
CallsSince before own there pull copy made failed (Err StoreFault) = failed ≡ Some made
CallsSince before own there pull copy made failed (Err Memory) = ⊤
CallsSince before own there pull copy made failed (Err TooManyCounters) = made ≡ before
CallsSince before own there pull copy made failed (Err SequenceFull) = made ≡ before
CallsSince before own there pull copy made failed (Err IndexFull) = made ≡ before
CallsSince before own there pull copy made failed (Err _) = ⊥
