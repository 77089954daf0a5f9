-- A conflict copy that stands already, as the end of a pull finds it (this project's profile).
use Rattle.std.specs.Prelude.{◌≡◌, ◌≢◌, ◌⊎◌, Bool, true, false, Option, None, Result, Ok, Err}
use Rattle.bep_record.specs.declared.node.NodeParts.{NodeParts}
use Rattle.bep_model.specs.Tables.{FileName}
use Rattle.bep_machine.specs.Pull.{IsCopy}
use Rattle.bep_machine.specs.Replica.{node_at}
use Rattle.bep_folder.specs.declared.error.FolderError.{FolderError}
use Rattle.bep_folder.specs.declared.error.FolderError.TheVariants.{CopyExists}
use Rattle.bep_folder.specs.inner.Finish.{Looks}
use Rattle.bep_folder.specs.Held.{Held}
use Rattle.bep_folder.specs.Trace.{next_call}

-- whether what stands there is a copy of the node; another node is refused
abbrev pub IsKeptAs : Option NodeParts → Option NodeParts → Result Bool FolderError → Type 0
IsKeptAs there kept (Ok true) = (there ≢ None) × IsCopy there kept
IsKeptAs there kept (Ok false) = there ≡ None
IsKeptAs there kept (Err error) = (error ≡ CopyExists) × (there ≢ None) × (¬ IsCopy there kept)

-- the same of what stands at the name in the store: one call of the store was made for this, or that call gave an error
abbrev pub IsKeptAt : FileName → Option NodeParts → Held → Held → Result Bool FolderError → Type 0
IsKeptAt copy node old new result =
    ((new ≡ record old { made = next_call old.made }) × IsKeptAs (node_at old.tables copy) node result) ⊎
    ((error : FolderError) × (result ≡ Err error) × Looks {A = Bool} old new (Err error))
