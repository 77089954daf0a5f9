-- Whether a scanner has nothing to hash at a name (this project's profile).
use Rattle.std.specs.Prelude.{Option, Some, None, IsSome}
use Rattle.std.specs.FinMap.{get}
use Rattle.bep_model.specs.Tables.{Folder, FileName}
use Rattle.bep_record.specs.declared.entry.Entry.{Entry}
use Rattle.bep_record.specs.declared.node.NodeParts.{NodeParts}
use Rattle.bep_record.specs.Node.{IsClean}
use Rattle.bep_machine.specs.Replica.{node_at, own_at}
use Rattle.bep_folder.specs.Held.{Held}
use Rattle.bep_peer.specs.Member.{Member}

-- a node is lent, and is clean against the own record
abbrev pub IsLentClean : Option NodeParts → Option Entry → Type 0
IsLentClean lent own = IsSome lent × IsClean lent own

-- what stands at the name in the folder is clean against the own record
abbrev pub IsCleanIn : Option Held → FileName → Type 0
IsCleanIn None name = ⊥
IsCleanIn (Some held) name = IsClean (node_at held.tables name) (own_at held.tables name)

-- the same of the device, in its folder of this name
abbrev pub IsCleanHere : Member → Folder → FileName → Type 0
IsCleanHere member folder name = IsCleanIn (get member.folders folder) name
