use Rattle.bep_machine.specs.Steps.{IsStep}
use Rattle.bep_core.specs.Applying.{failed_by}
use Rattle.bep_peer.specs.network.Network.{cluster_of}
use Rattle.bep_core.proofs.Reaching.{left_undone, never_bad, reaches}
use Rattle.bep_core.proofs.cluster.Cluster.apply.Goals as goal

pub returns-clause-err : goal.returns-clause-err
returns-clause-err g c =
    left_undone c.undone_steps_leave_all.ensures c.args.step (failed_by c.args.step c.make-made.new.self.members) (cluster_of c.args.self.now) (cluster_of c.make-made.new.self) c.make-made.result c.make-made.ensures.step

pub returns-clause-only : goal.returns-clause-only
returns-clause-only g c = never_bad (IsStep c.args.step (failed_by c.args.step c.make-made.new.self.members) (cluster_of c.args.self.now)) (cluster_of c.make-made.new.self) c.make-made.result c.make-made.ensures.step

pub returns-clause-reached : goal.returns-clause-reached
returns-clause-reached g c =
    reaches c.args.step (failed_by c.args.step c.make-made.new.self.members) (cluster_of c.args.self.now) (cluster_of c.make-made.new.self) c.make-made.result c.puts_a_node.ensures c.make-made.ensures.step
