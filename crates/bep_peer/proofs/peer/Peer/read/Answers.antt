use Rattle.std.proofs.Common.{refl, ap, ◌∙◌}
use Rattle.bep_peer.specs.declared.trace.Trace.{Trace}
use Rattle.bep_peer.proofs.ReadFacts.{read_member, read_node, read_peer, read_remains}
use Rattle.bep_peer.proofs.peer.Peer.read.Goals as goal

pub invariant_of-self : goal.invariant_of-self
invariant_of-self g c =
    read_member c.self.inside.number c.self.inside.folders c.read_at-read.new.folders c.self.inside.sessions c.self.inside.linked c.args.folder.now c.args.name.now c.read_at-read.result
    c.read_at-read.ensures.reads c.self.invariant

pub returns-clause-node : goal.returns-clause-node
returns-clause-node g c =
    rw (← c.self.view_is)
    (read_node c.self.inside.folders c.read_at-read.new.folders c.args.folder.now c.args.name.now c.read_at-read.result c.read_at-read.ensures.reads)

pub returns-clause-rest : goal.returns-clause-rest
returns-clause-rest g c =
    rw (← c.self.view_is)
    (read_remains _ _ c.args.folder.now c.args.name.now c.read_at-read.result c.read_at-read.ensures.reads refl refl (ap (λ (t : Trace). t.failed) c.tell_failed.ensures ∙ c.failed_by.ensures))

pub returns-clause-same : goal.returns-clause-same
returns-clause-same g c =
    rw (← c.self.view_is)
    (read_peer c.self.inside.sessions c.self.inside.folders c.read_at-read.new.folders c.args.folder.now c.args.name.now c.read_at-read.result c.read_at-read.ensures.reads)
