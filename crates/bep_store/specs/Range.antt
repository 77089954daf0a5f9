-- Ranges of files, and their hashes (BEP v1, 'Request').
use Rattle.std.specs.Prelude.{◌≡◌, ℕ, ◌+◌, ◌≤◌, List, length, take, drop, Option, Some, None}
use Rattle.bep_record.specs.declared.kind.Kind.TheVariants.{File}
use Rattle.bep_record.specs.declared.node.NodeParts.{NodeParts}
use Rattle.bep_blocks.specs.Plain.{hash_of}

-- the node is a file that has so many bytes from this offset on
abbrev pub HasRange : NodeParts → ℕ → ℕ → Type 0
HasRange node offset size = (node.kind ≡ File) × (offset + size ≤ length node.bytes)

-- those bytes
abbrev pub range_of : NodeParts → ℕ → ℕ → List ℕ
range_of node offset size = take size (drop offset node.bytes)

-- a node stands there, which has the range, and the range has this hash
abbrev pub HasRangeHash : Option NodeParts → ℕ → ℕ → List ℕ → Type 0
HasRangeHash None offset size hash = ⊥
HasRangeHash (Some node) offset size hash = HasRange node offset size × (hash_of (range_of node offset size) ≡ hash)
