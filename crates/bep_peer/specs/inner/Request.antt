-- Reading a file for an answer (BEP v1, 'Request'; this project's profile).
use Rattle.std.specs.Prelude.{◌≡◌, ◌⊎◌, ℕ, Option, Some, None, Result, Err, IfOk, IfErr}
use Rattle.std.specs.FinMap.{get, insert}
use Rattle.bep_map.specs.NameMap.{ByName}
use Rattle.bep_record.specs.declared.node.NodeParts.{NodeParts}
use Rattle.bep_model.specs.Tables.{Folder, FileName}
use Rattle.bep_machine.specs.Replica.{node_at}
use Rattle.bep_folder.specs.declared.error.FolderError.{FolderError}
use Rattle.bep_folder.specs.declared.error.FolderError.TheVariants.{StoreFault, Memory}
use Rattle.bep_folder.specs.Held.{Held}
use Rattle.bep_folder.specs.Makes.{Stays, CountsFaults}

-- which call of the store failed, where one read was all
abbrev pub failed_by : Result (Option NodeParts) FolderError → Option ℕ
failed_by (Err StoreFault) = Some 1
failed_by _ = None

-- the folder's node at the name
abbrev pub IsNodeAt : ByName Held → Folder → FileName → Option NodeParts → Type 0
IsNodeAt folders folder name node = (held : Held) × (get folders folder ≡ Some held) × (node ≡ node_at held.tables name)

-- The folder's store was read at the name: its tables are as before.
pub record ReadsFrom (folder : Folder) (name : FileName) (old new : ByName Held) (result : Result (Option NodeParts) FolderError) : Type 0 where
  pub was : Held
  pub now : Held
  pub before : get old folder ≡ Some was
  pub after : new ≡ insert old folder now
  pub same : now.tables ≡ was.tables
  pub stays : Stays was now
  pub counted : CountsFaults was now result
  pub only : IfErr result (λ e. (e ≡ StoreFault) ⊎ (e ≡ Memory))
  pub node : IfOk result (λ node. node ≡ node_at was.tables name)
