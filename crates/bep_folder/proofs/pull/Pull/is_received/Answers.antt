use Rattle.std.proofs.Common.{◌↔◌, subst, IsTrue}
use Rattle.bep_record.specs.Block.{block_size_of}
use Rattle.bep_machine.specs.Replica.{Pull}
use Rattle.bep_folder.specs.PullNode.{bytes_in}
use Rattle.bep_folder.specs.Pull.{IsReceivedAt}
use Rattle.bep_folder.proofs.PullFacts.{flag_of_received, received_at_flag}
use Rattle.bep_folder.proofs.pull.Pull.is_received.Goals as goal

pub returns : goal.returns
returns c =
    let flags = c.self.inside.arrived.items in
    let bytes = bytes_in c.self.inside.node in
    subst (λ (pull : Pull). IsTrue c.is_set.result ↔ IsReceivedAt pull.received c.args.place) c.self.view_is (
      (λ set. received_at_flag (block_size_of c.self.inside.target.size) flags bytes c.args.place (rw c.deref.ensures.value at (c.is_set.ensures.0 set))),
      (λ received. c.is_set.ensures.1 (rw c.deref.ensures.value (flag_of_received (block_size_of c.self.inside.target.size) flags bytes c.args.place received))),
    )
