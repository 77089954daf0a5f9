-- What is written is read again as it was, in each version whose files may be so long (this project's profile).
use Rattle.std.specs.Prelude.{◌≤◌, length}
use Rattle.serde_json.specs.Data.{Data}
use Rattle.bep_record.specs.declared.entry.Entry.{Entry}
use Rattle.bep_json.specs.declared.nodes.NamedParts.{NamedParts}
use Rattle.bep_json.specs.declared.version.DocVersion.{DocVersion}
use Rattle.bep_json.specs.Version.{most_file_bytes}
use Rattle.bep_json.specs.Records.{is_record, read_record}
use Rattle.bep_json.specs.Nodes.{is_node, read_node}
use Rattle.bep_json.specs.Says.{Says}

-- the tree is read as this record, where its sequence is one that documents have
abbrev pub IsRecordBack : Entry → Data → Type 0
IsRecordBack entry tree =
    (version : DocVersion) → entry.size ≤ most_file_bytes version → entry.sequence ≤ 9223372036854775807 → Says (is_record version) (read_record version) entry tree

-- the tree is read as this node with its name
abbrev pub IsNodeBack : NamedParts → Data → Type 0
IsNodeBack node tree = (version : DocVersion) → length node.parts.bytes ≤ most_file_bytes version → Says is_node (read_node version) node tree
