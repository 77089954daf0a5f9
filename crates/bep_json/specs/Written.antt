-- What is written of records and nodes: every member, also those that have a default, in the order of their names
-- (BEP v1, 'FileInfo'; the members are this project's profile).
use Rattle.std.specs.Prelude.{ℕ, ℤ, List, [], ◌∷◌, map, codes}
use Rattle.hex.specs.Hex.{encode_lower}
use Rattle.serde_json.specs.Data.{Data, unsigned, number, boolean, string, array, object, no_members, member}
use Rattle.serde_json.specs.Find.{of_integer}
use Rattle.serde_json.specs.View.{items_of}
use Rattle.bep_record.specs.declared.entry.Entry.{Entry}
use Rattle.bep_record.specs.declared.kind.Kind.{Kind}
use Rattle.bep_record.specs.declared.kind.Kind.TheVariants.{File, Directory, Symlink}
use Rattle.bep_record.specs.declared.node.NodeParts.{NodeParts}

-- ---- numbers, hashes and lists
abbrev pub whole : ℕ → Data
whole n = number (unsigned n)

abbrev pub signed : ℤ → Data
signed z = number (of_integer z)

-- a list of these
abbrev pub list_of : List Data → Data
list_of trees = array (items_of trees)

-- the number of a kind (BEP v1, 'FileInfoType')
abbrev pub number_of : Kind → ℕ
number_of File = 0
number_of Directory = 1
number_of Symlink = 4

-- an id with its value
abbrev pub counter_written : ℕ × ℕ → Data
counter_written counter = list_of (whole counter.0 ∷ whole counter.1 ∷ [])

-- a version vector, ids rising
abbrev pub version_written : List (ℕ × ℕ) → Data
version_written version = list_of (map counter_written version)

-- bytes in lower-case hexadecimal digits
abbrev pub hex_written : List ℕ → Data
hex_written bytes = string (encode_lower bytes)

-- hashes in their order
abbrev pub hashes_written : List (List ℕ) → Data
hashes_written hashes = list_of (map hex_written hashes)

-- ---- records and nodes
-- a record; offsets and sizes of its blocks aren't written, as they follow from its size
unfoldable pub record_written : Entry → Data
record_written entry =
    object
    (member (codes "block_size") (whole entry.block_size)
    (member (codes "blocks") (hashes_written (map (λ b. b.hash) entry.blocks))
    (member (codes "deleted") (boolean entry.deleted)
    (member (codes "invalid") (boolean entry.invalid)
    (member (codes "modified_by") (whole entry.modified_by)
    (member (codes "modified_ns") (whole entry.modified_ns)
    (member (codes "modified_s") (signed entry.modified_s)
    (member (codes "name") (string entry.name)
    (member (codes "sequence") (whole entry.sequence)
    (member (codes "size") (whole entry.size)
    (member (codes "target") (string entry.target)
    (member (codes "type") (whole (number_of entry.kind))
    (member (codes "version") (version_written entry.version) no_members)))))))))))))

-- what a store holds at a name, its bytes in hexadecimal digits
unfoldable pub node_written : List ℕ → NodeParts → Data
node_written name node =
    object
    (member (codes "hex") (hex_written node.bytes)
    (member (codes "modified_ns") (whole node.modified_ns)
    (member (codes "modified_s") (signed node.modified_s)
    (member (codes "name") (string name)
    (member (codes "target") (string node.target)
    (member (codes "type") (whole (number_of node.kind)) no_members))))))
