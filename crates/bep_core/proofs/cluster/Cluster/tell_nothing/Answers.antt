use Rattle.std.proofs.Common.{sym, ◌∙◌}
use Rattle.bep_core.proofs.Untold.{none_untold, untold_here, untold_others, untold_rules, untold_same}
use Rattle.bep_core.proofs.cluster.Cluster.tell_nothing.Goals as goal

pub returns-in_default-clause-untold : goal.returns-in_default-clause-untold
returns-in_default-clause-untold g c = none_untold c.args.self.now.members c.args.device (sym c.device_place.ensures ∙ c.in_default.is)

pub invariant_of-self : goal.invariant_of-self
invariant_of-self g c =
    untold_rules c.args.self.now (record { members = c.self.inside.peers.items; links = c.self.inside.links.items }) c.self.view_is c.self.invariant c.args.device c.in-Some.place c.index_mut.result.now c.take_trace-told.new.self
    (sym c.device_place.ensures ∙ c.in-Some.is) c.index_mut.ensures.value c.take_trace-told.ensures.taken

pub returns-clause-same : goal.returns-clause-same
returns-clause-same g c =
    untold_same c.args.self.now (record { members = c.self.inside.peers.items; links = c.self.inside.links.items }) c.self.view_is c.self.invariant c.args.device c.in-Some.place c.index_mut.result.now c.take_trace-told.new.self
    (sym c.device_place.ensures ∙ c.in-Some.is) c.index_mut.ensures.value c.take_trace-told.ensures.taken

pub returns-clause-untold : goal.returns-clause-untold
returns-clause-untold g c =
    untold_here c.args.self.now (record { members = c.self.inside.peers.items; links = c.self.inside.links.items }) c.self.view_is c.self.invariant c.args.device c.in-Some.place c.index_mut.result.now c.take_trace-told.new.self
    (sym c.device_place.ensures ∙ c.in-Some.is) c.index_mut.ensures.value c.take_trace-told.ensures.taken

pub returns-clause-others : goal.returns-clause-others
returns-clause-others g c =
    untold_others c.args.self.now (record { members = c.self.inside.peers.items; links = c.self.inside.links.items }) c.self.view_is c.self.invariant c.args.device c.in-Some.place c.index_mut.result.now c.take_trace-told.new.self
    (sym c.device_place.ensures ∙ c.in-Some.is) c.index_mut.ensures.value c.take_trace-told.ensures.taken
