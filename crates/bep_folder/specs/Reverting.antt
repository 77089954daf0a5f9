-- How many calls of the store a revert makes (this project's profile).
use Rattle.std.specs.Prelude.{◌≡◌, ℕ, Option, Some, None, Result, Ok, Err}
use Rattle.bep_record.specs.declared.node.NodeParts.{NodeParts}
use Rattle.bep_machine.specs.declared.moved.Moved.{Moved}
use Rattle.bep_folder.specs.declared.error.FolderError.{FolderError}
use Rattle.bep_folder.specs.declared.error.FolderError.TheVariants.{KindForbids, NothingToDo, StoreFault}

-- the calls of the store that a revert makes: the node is read, and then removed, if there is one
abbrev pub calls_of : Option NodeParts → ℕ
calls_of None = 1
calls_of (Some node) = 2

-- A revert that found this node made all its calls, or none, or stopped at the first one; a call that failed is the last
-- one.
abbrev pub CallsInRevert : Option NodeParts → ℕ → Option ℕ → Result Moved FolderError → Type 0
CallsInRevert there made failed (Ok _) = made ≡ calls_of there
CallsInRevert there made failed (Err StoreFault) = failed ≡ Some made
CallsInRevert there made failed (Err KindForbids) = made ≡ 0
CallsInRevert there made failed (Err NothingToDo) = made ≡ 0
CallsInRevert there made failed (Err _) = made ≡ 1
