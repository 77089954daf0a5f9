use Rattle.std.proofs.Common.{◌≡◌, ◌∙◌, false, length, replicate, ap}
use Rattle.bep_record.specs.Block.{block_size_of}
use Rattle.bep_record.specs.declared.entry.Entry.{Entry}
use Rattle.bep_folder.specs.PullNode.{bytes_in}
use Rattle.bep_folder.specs.Pull.{received_of}
use Rattle.bep_folder.proofs.PullFacts.{none_received}
use Rattle.bep_folder.proofs.pull.Pull.new.Goals as goal

pub returns : goal.returns
returns c =
    let flags : c.in_ok-node.arrived.items ≡ replicate (length c.args.target.blocks) false =
    c.in_ok-node.ensures.flags ∙ ap (λ (entry : Entry). replicate (length entry.blocks) false) c.entry.ensures.value in
    ap (λ received. record { target = c.args.target; received = received })
    (ap (λ xs. received_of (block_size_of c.args.target.size) xs (bytes_in c.in_ok-node.node)) flags
    ∙ none_received (block_size_of c.args.target.size) c.args.target.blocks (bytes_in c.in_ok-node.node))
