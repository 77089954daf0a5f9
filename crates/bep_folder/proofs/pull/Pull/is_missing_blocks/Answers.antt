use Rattle.std.proofs.Common.{◌↔◌, subst, IsTrue}
use Rattle.bep_record.specs.Block.{block_size_of}
use Rattle.bep_machine.specs.Replica.{Pull}
use Rattle.bep_machine.specs.Pull.{IsMissingBlocks}
use Rattle.bep_folder.specs.PullNode.{bytes_in}
use Rattle.bep_folder.proofs.PullFacts.{missing_from, missing_to}
use Rattle.bep_folder.proofs.pull.Pull.is_missing_blocks.Goals as goal

pub returns : goal.returns
returns c =
    let flags = c.self.inside.arrived.items in
    let bytes = bytes_in c.self.inside.node in
    subst (λ (pull : Pull). IsTrue c.is_any_missing.result ↔ IsMissingBlocks pull) c.self.view_is (
      (λ some. missing_from (block_size_of c.self.inside.target.size) flags bytes (rw c.deref.ensures.value at (c.is_any_missing.ensures.0 some))),
      (λ missing. c.is_any_missing.ensures.1 (rw c.deref.ensures.value (missing_to (block_size_of c.self.inside.target.size) flags bytes missing))),
    )
