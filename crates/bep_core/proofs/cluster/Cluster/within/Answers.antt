use Rattle.std.proofs.Common.{sym, ◌∙◌}
use Rattle.bep_peer.specs.network.Network.{failed_at}
use Rattle.bep_core.proofs.DeviceSteps.{none_counts, none_within, within_counts, within_hides, within_made, within_rules}
use Rattle.bep_core.proofs.cluster.Cluster.within.Goals as goal

pub returns-in_default-clause-counts : goal.returns-in_default-clause-counts
returns-in_default-clause-counts g c = none_counts c.args.device c.args.folder c.args.step c.args.self.now (sym c.device_place.ensures ∙ c.in_default.is)

pub returns-in_default-clause-step : goal.returns-in_default-clause-step
returns-in_default-clause-step g c =
    none_within c.args.device c.args.folder c.args.step
    c.args.self.now (record { members = c.self.inside.peers.items; links = c.self.inside.links.items }) (failed_at c.args.self.now.members c.args.device) c.self.view_is c.self.invariant
    (sym c.device_place.ensures ∙ c.in_default.is)

pub invariant_of-self : goal.invariant_of-self
invariant_of-self g c =
    within_rules c.args.device c.args.folder c.args.step
    c.args.self.now (record { members = c.self.inside.peers.items; links = c.self.inside.links.items }) c.self.view_is c.self.invariant c.in-Some.place c.index_mut.result.now c.make.new.peer
    (sym c.device_place.ensures ∙ c.in-Some.is) c.index_mut.ensures.value c.make.result c.make.ensures.step c.make.ensures.rest.number c.make.ensures.rest.linked

pub returns-clause-step : goal.returns-clause-step
returns-clause-step g c =
    within_made c.args.device c.args.folder c.args.step
    c.args.self.now (record { members = c.self.inside.peers.items; links = c.self.inside.links.items }) c.self.view_is c.self.invariant c.in-Some.place c.index_mut.result.now c.make.new.peer
    (sym c.device_place.ensures ∙ c.in-Some.is) c.index_mut.ensures.value c.make.result c.make.ensures.step c.make.ensures.rest.number c.make.ensures.rest.linked
    c.answered.result c.answered.ensures

pub returns-clause-counts : goal.returns-clause-counts
returns-clause-counts g c =
    within_counts c.args.device c.args.folder c.args.step
    c.args.self.now (record { members = c.self.inside.peers.items; links = c.self.inside.links.items }) c.self.view_is c.self.invariant c.in-Some.place c.index_mut.result.now c.make.new.peer
    (sym c.device_place.ensures ∙ c.in-Some.is) c.index_mut.ensures.value c.make.result c.make.ensures.step c.make.ensures.rest.number c.make.ensures.rest.linked
    c.make.ensures.rest c.make.ensures.fault c.answered.result c.answered.ensures

pub returns-clause-unhidden : goal.returns-clause-unhidden
returns-clause-unhidden g c =
    within_hides c.args.device c.args.folder c.args.step
    c.args.self.now (record { members = c.self.inside.peers.items; links = c.self.inside.links.items }) c.self.view_is c.self.invariant c.in-Some.place c.index_mut.result.now c.make.new.peer
    (sym c.device_place.ensures ∙ c.in-Some.is) c.index_mut.ensures.value c.make.result c.make.ensures.step c.make.ensures.rest.number c.make.ensures.rest.linked
    c.make.ensures.unhidden c.answered.result c.answered.ensures
