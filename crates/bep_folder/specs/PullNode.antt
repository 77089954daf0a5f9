-- The node that a pull will write (this project's profile).
use Rattle.std.specs.Prelude.{ℕ, List, [], length, replicate, ◌==◌, Option, Some, None, if◌then◌else◌}
use Rattle.bep_record.specs.declared.entry.Entry.{Entry}
use Rattle.bep_record.specs.declared.node.NodeParts.{NodeParts}

-- the node of the record with these bytes; a deletion has none
abbrev pub node_of : Entry → List ℕ → Option NodeParts
node_of target bytes =
    if target.deleted then None else
    Some (record { kind = target.kind; bytes = bytes; target = target.target; modified_s = target.modified_s; modified_ns = target.modified_ns })

abbrev pub bytes_in : Option NodeParts → List ℕ
bytes_in None = []
bytes_in (Some node) = node.bytes

-- the node with these bytes
abbrev pub with_file : Option NodeParts → List ℕ → Option NodeParts
with_file None bytes = None
with_file (Some node) bytes = Some (record node { bytes = bytes })

-- these bytes, if there are `size` of them; else `size` zeros
abbrev pub sized : ℕ → List ℕ → List ℕ
sized size bytes = if length bytes == size then bytes else replicate size 0
