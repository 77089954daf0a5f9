-- The hashes that a store in memory keeps beside its nodes (this project's profile).
use Rattle.std.specs.Prelude.{◌≡◌, ℕ, List, Option, Some}
use Rattle.std.specs.List.{All}
use Rattle.std.specs.FinMap.{get}
use Rattle.bep_map.specs.NameMap.{ByName}
use Rattle.bep_record.specs.declared.block.Block.{Block}
use Rattle.bep_record.specs.declared.node.NodeParts.{NodeParts}
use Rattle.bep_store.specs.Store.{AreNodes}
use Rattle.bep_store.specs.Range.{HasRangeHash}

-- the block is a range of the node that stands there, with its hash
abbrev pub IsRange : Option NodeParts → Block → Type 0
IsRange node block = HasRangeHash node block.offset block.size block.hash

-- what is kept at each name are ranges of the node that stands there now
abbrev pub AreRanges : ByName NodeParts → ByName (List Block) → Type 0
AreRanges nodes kept = (name : List ℕ) (blocks : List Block) → get kept name ≡ Some blocks → All (IsRange (get nodes name)) blocks

-- what holds of every store in memory
pub record IsStore (nodes : ByName NodeParts) (kept : ByName (List Block)) : Type 0 where
  pub are_nodes : AreNodes nodes
  pub are_ranges : AreRanges nodes kept
