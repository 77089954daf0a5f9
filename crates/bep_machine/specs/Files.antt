-- Which files the end of a pull and a revert leave alone, in every replica. The functions of src/files.rt have these as
-- contracts (this project's profile).
use Rattle.std.specs.Prelude.{◌≡◌, ◌≢◌, ◌⊎◌, ℕ, Option, Some}
use Rattle.bep_record.specs.declared.node.NodeParts.{NodeParts}
use Rattle.bep_record.specs.Node.{IsClean}
use Rattle.bep_model.specs.Tables.{Device, FileName}
use Rattle.bep_machine.specs.Answer.{Answer}
use Rattle.bep_machine.specs.Replica.{Replica, own_at, node_at}
use Rattle.bep_machine.specs.Local.{RevertRow}
use Rattle.bep_machine.specs.Pull.{FinishRow}

-- what stands under another name than the one that is worked on, or isn't clean against its own record
abbrev pub MustStay : FileName → Replica → FileName → NodeParts → Type 0
MustStay name replica other node =
    (node_at replica other ≡ Some node) × ((other ≢ name) ⊎ (¬ IsClean (Some node) (own_at replica other)))

-- the end of a pull leaves such a node as it was; so a conflict copy is written over nothing
abbrev pub FinishKeepsFiles : Type 0
FinishKeepsFiles = (device : Device) (name other : FileName) (failed : Option ℕ) (old new : Replica) (answer : Answer) (node : NodeParts) →
    MustStay name old other node → FinishRow device name failed old new answer → node_at new other ≡ Some node

-- a revert does too
abbrev pub RevertKeepsFiles : Type 0
RevertKeepsFiles = (device : Device) (name other : FileName) (failed : Option ℕ) (old new : Replica) (answer : Answer) (node : NodeParts) →
    MustStay name old other node → RevertRow device name failed old new answer → node_at new other ≡ Some node
