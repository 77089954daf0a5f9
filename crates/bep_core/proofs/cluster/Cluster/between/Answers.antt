use Rattle.std.proofs.Common.{Err, set, refl, sym, ◌∙◌}
use Rattle.bep_machine.specs.declared.refusal.Refusal.TheVariants.{NotShared}
use Rattle.bep_core.specs.declared.why.Why.TheVariants.{Refused}
use Rattle.bep_core.proofs.LinkSteps.{between_counts, between_made, between_rules, none_between}
use Rattle.bep_core.proofs.cluster.Cluster.between.Goals as goal

pub returns-in_default-clause-counts : goal.returns-in_default-clause-counts
returns-in_default-clause-counts g c = between_counts c.args.step c.args.lower c.args.upper c.args.self.now c.args.self.now refl c.args.self.now.links (Err (Refused NotShared))

pub returns-in_default-clause-step : goal.returns-in_default-clause-step
returns-in_default-clause-step g c = none_between c.args.step c.args.lower c.args.upper c.args.self.now (sym c.link_place.ensures ∙ c.in_default.is)

pub invariant_of-self : goal.invariant_of-self
invariant_of-self g c =
    between_rules c.args.step c.args.lower c.args.upper c.args.self.now (record { members = c.self.inside.peers.items; links = c.self.inside.links.items }) c.self.view_is
    c.in-Some.place c.index_mut.result.now c.turn.new.link (sym c.link_place.ensures ∙ c.in-Some.is) c.index_mut.ensures.value c.turn.ensures.ends c.self.invariant

pub returns-clause-counts : goal.returns-clause-counts
returns-clause-counts g c =
    between_counts c.args.step c.args.lower c.args.upper c.args.self.now (record { members = c.self.inside.peers.items; links = c.self.inside.links.items }) c.self.view_is
    (set c.self.inside.links.items c.in-Some.place c.turn.new.link) c.turn.result

pub returns-clause-step : goal.returns-clause-step
returns-clause-step g c =
    between_made c.args.step c.args.lower c.args.upper c.args.self.now (record { members = c.self.inside.peers.items; links = c.self.inside.links.items }) c.self.view_is
    c.in-Some.place c.index_mut.result.now c.turn.new.link (sym c.link_place.ensures ∙ c.in-Some.is) c.index_mut.ensures.value c.turn.ensures.ends c.turn.result c.turn.ensures.row
