-- How many calls of the store an action makes, and that a call that failed is the last one (this project's profile).
use Rattle.std.specs.Prelude.{◌≡◌, ◌⊎◌, ◌≤◌, ⊤, ℕ, true, Option, Some, Result, Ok, Err}
use Rattle.bep_record.specs.declared.node.NodeParts.{NodeParts}
use Rattle.bep_model.specs.Tables.{FileName}
use Rattle.bep_machine.specs.declared.moved.Moved.{Moved}
use Rattle.bep_machine.specs.declared.moved.Moved.TheVariants.{Dropped}
use Rattle.bep_machine.specs.Pull.{CallsStore, EndsWith, IsConflictDue}
use Rattle.bep_machine.specs.Replica.{Pull, Replica, own_at, node_at, pull_at}
use Rattle.bep_folder.specs.declared.error.FolderError.{FolderError}
use Rattle.bep_folder.specs.declared.error.FolderError.TheVariants.{TooManyCounters, NameBad, SequenceFull, IndexFull, StoreFault, Unscanned, NotNeeded, BlocksMissing, CopyExists}
use Rattle.bep_folder.specs.Held.{Held}
use Rattle.bep_folder.specs.Reverting.{calls_of}
use Rattle.bep_folder.specs.Trace.{next_call}

-- one call more where this holds, and none where it doesn't
abbrev pub CallsIf : Type 0 → ℕ → ℕ → Type 0
CallsIf called before after = (called × (after ≡ next_call before)) ⊎ ((¬ called) × (after ≡ before))

-- ---- a user's changes

-- A removal that found this node made all its calls, or stopped at the first one; a call that failed is the last one.
abbrev pub CallsInRemove : Option NodeParts → ℕ → Option ℕ → Result Moved FolderError → Type 0
CallsInRemove there made failed (Ok _) = made ≡ calls_of there
CallsInRemove there made failed (Err StoreFault) = (failed ≡ Some made) × (made ≤ calls_of there)
CallsInRemove there made failed (Err _) = made ≡ 1

-- ---- the end of a pull

-- The calls at the end of the name's pull. The node was read, and what stands under the conflict name, if a copy is due.
-- Then the copy was written, if the trace tells of one, and the target, unless the store held already what it is to hold.
pub record CallsAtEnd (name : FileName) (old : Replica) (new : Held) : Type 0 where
  pub pull : Pull
  pub pulled : pull_at old name ≡ Some pull
  pub looked : ℕ
  pub looks : CallsIf (IsConflictDue (own_at old name) pull.target) 1 looked
  pub kept : ℕ
  pub keeps : CallsIf (new.trace.copied ≡ true) looked kept
  pub writes : (after : Option NodeParts) → EndsWith (own_at old name) (node_at old name) pull after → CallsIf (CallsStore (own_at old name) (node_at old name) pull.target after) kept new.made

-- the pull for whose record there is no room: its reads are all that was called
pub record CallsToLook (name : FileName) (old : Replica) (made : ℕ) : Type 0 where
  pub pull : Pull
  pub pulled : pull_at old name ≡ Some pull
  pub looks : CallsIf (IsConflictDue (own_at old name) pull.target) 1 made

-- How many calls the end of the name's pull made, by what it answered; a call that failed is the last one. (Where memory is
-- wanting, it may have been at any of them.)
abbrev pub CallsInFinish : FileName → Replica → Held → Result Moved FolderError → Type 0
CallsInFinish name old new (Ok Dropped) = new.made ≡ 0
CallsInFinish name old new (Ok _) = CallsAtEnd name old new
CallsInFinish name old new (Err NotNeeded) = new.made ≡ 0
CallsInFinish name old new (Err BlocksMissing) = new.made ≡ 0
CallsInFinish name old new (Err StoreFault) = new.trace.failed ≡ Some new.made
CallsInFinish name old new (Err Unscanned) = new.made ≡ 1
CallsInFinish name old new (Err NameBad) = new.made ≡ 1
CallsInFinish name old new (Err CopyExists) = new.made ≡ 2
CallsInFinish name old new (Err TooManyCounters) = CallsToLook name old new.made
CallsInFinish name old new (Err SequenceFull) = CallsToLook name old new.made
CallsInFinish name old new (Err IndexFull) = CallsToLook name old new.made
CallsInFinish name old new (Err _) = ⊤
