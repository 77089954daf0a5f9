use Rattle.std.proofs.Common.{◌≡◌, ◌∙◌, subst}
use Rattle.std.specs.Option.{option_copied}
use Rattle.bep_machine.specs.Replica.{Pull}
use Rattle.bep_machine.specs.Pull.{written, IsMissingBlocks}
use Rattle.bep_record.specs.Block.{block_size_of}
use Rattle.bep_folder.specs.PullNode.{bytes_in}
use Rattle.bep_folder.proofs.PullFacts.{missing_from}
use Rattle.bep_folder.proofs.KeptFacts.{kept_written}
use Rattle.bep_folder.proofs.pull.Pull.node.Goals as goal

pub returns : goal.returns
returns c =
    subst (λ (pull : Pull). (¬ IsMissingBlocks pull) → option_copied c.as_ref.result ≡ written pull) c.self.view_is
    (λ none.
    c.as_ref.ensures.value
    ∙ kept_written c.self.inside.target c.self.inside.node c.self.inside.arrived.items c.self.invariant
    (λ missing. none (missing_from (block_size_of c.self.inside.target.size) c.self.inside.arrived.items (bytes_in c.self.inside.node) missing)))
