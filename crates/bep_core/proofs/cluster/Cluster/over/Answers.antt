use Rattle.std.proofs.Common.{sym, subst}
use Rattle.bep_machine.specs.declared.refusal.Refusal.TheVariants.{NotShared}
use Rattle.bep_machine.specs.Answer.{Refused}
use Rattle.bep_machine.specs.Cluster.{Cluster}
use Rattle.bep_machine.specs.Steps.{IsStep}
use Rattle.bep_peer.specs.network.Network.{cluster_of, failed_at}
use Rattle.bep_core.specs.inner.Over.{step_of}
use Rattle.bep_core.proofs.SessionSteps.{none_over, none_over_counts, over_counts, over_hides, over_made, over_rules}
use Rattle.bep_core.proofs.cluster.Cluster.over.Goals as goal

pub returns-in_default-clause-step : goal.returns-in_default-clause-step
returns-in_default-clause-step g c =
    subst (λ (cluster : Cluster). IsStep (step_of c.args.step c.args.device c.args.other) (failed_at c.tell_nothing.new.self.members c.args.device) (cluster_of c.args.self.now) cluster (Refused NotShared))
    (sym c.tell_nothing.ensures.same)
    (none_over c.args.step c.args.device c.args.other c.args.self.now (record { members = c.self.inside.peers.items; links = c.self.inside.links.items }) (failed_at c.tell_nothing.new.self.members c.args.device)
    c.self.view_is c.self.invariant c.in_default.ensures.none)

pub returns-in_default-clause-counts : goal.returns-in_default-clause-counts
returns-in_default-clause-counts g c = none_over_counts c.args.step c.args.device c.args.other c.args.self.now c.tell_nothing.new.self c.tell_nothing.ensures.untold c.tell_nothing.ensures.others

pub invariant_of-self : goal.invariant_of-self
invariant_of-self g c =
    over_rules c.args.step c.args.device c.args.other c.args.self.now (record { members = c.self.inside.peers.items; links = c.self.inside.links.items }) c.self.view_is c.self.invariant
    c.in-Some.place c.in-Some.between c.index_mut.result.now c.act.new.peer c.index_mut-2.result.now c.act.new.link
    c.in-Some.ensures.device c.in-Some.ensures.link c.index_mut.ensures.value c.index_mut-2.ensures.value c.act.result c.act.ensures.step c.act.ensures.rest

pub returns-clause-step : goal.returns-clause-step
returns-clause-step g c =
    over_made c.args.step c.args.device c.args.other c.args.self.now (record { members = c.self.inside.peers.items; links = c.self.inside.links.items }) c.self.view_is c.self.invariant
    c.in-Some.place c.in-Some.between c.index_mut.result.now c.act.new.peer c.index_mut-2.result.now c.act.new.link
    c.in-Some.ensures.device c.in-Some.ensures.link c.index_mut.ensures.value c.index_mut-2.ensures.value c.act.result c.act.ensures.step c.act.ensures.rest
    c.answered.result c.answered.ensures

pub returns-clause-counts : goal.returns-clause-counts
returns-clause-counts g c =
    over_counts c.args.step c.args.device c.args.other c.args.self.now (record { members = c.self.inside.peers.items; links = c.self.inside.links.items }) c.self.view_is c.self.invariant
    c.in-Some.place c.in-Some.between c.index_mut.result.now c.act.new.peer c.index_mut-2.result.now c.act.new.link
    c.in-Some.ensures.device c.in-Some.ensures.link c.index_mut.ensures.value c.index_mut-2.ensures.value c.act.result c.act.ensures.step c.act.ensures.rest
    c.act.ensures.fault c.answered.result c.answered.ensures

pub returns-clause-unhidden : goal.returns-clause-unhidden
returns-clause-unhidden g c =
    over_hides c.args.step c.args.device c.args.other c.args.self.now (record { members = c.self.inside.peers.items; links = c.self.inside.links.items }) c.self.view_is c.self.invariant
    c.in-Some.place c.in-Some.between c.index_mut.result.now c.act.new.peer c.index_mut-2.result.now c.act.new.link
    c.in-Some.ensures.device c.in-Some.ensures.link c.index_mut.ensures.value c.index_mut-2.ensures.value c.act.result c.act.ensures.step c.act.ensures.rest
    c.act.ensures.unhidden c.answered.result c.answered.ensures
