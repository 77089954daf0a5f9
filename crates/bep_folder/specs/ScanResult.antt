-- What a scan finds (this project's profile).
use Rattle.std.specs.Prelude.{List, [], Option, Some, None}
use Rattle.bep_record.specs.declared.block.Block.{Block}
use Rattle.bep_record.specs.declared.node.NodeParts.{NodeParts}
use Rattle.bep_model.specs.Tables.{FileName}
use Rattle.bep_machine.specs.Local.{blocks_of_kind}

-- a name, and the node that was found there, if there was one
pub record Scanned : Type 0 where
  pub name : FileName
  pub node : Option NodeParts

-- the blocks of what was found
abbrev pub blocks_found : Option NodeParts → List Block
blocks_found None = []
blocks_found (Some node) = blocks_of_kind node.kind node.bytes
