use Rattle.std.proofs.Common.{set, sym, ◌∙◌}
use Rattle.bep_peer.specs.network.Network.{Network, failed_at, is_number}
use Rattle.bep_core.proofs.AtLinks.{none_found}
use Rattle.bep_core.proofs.Restarted.{none_restarted_counts, none_restarts, restart_counts, restart_made, restart_rules}
use Rattle.bep_core.proofs.cluster.Cluster.restart.Goals as goal

pub returns-in_default-clause-counts : goal.returns-in_default-clause-counts
returns-in_default-clause-counts g c =
    none_restarted_counts c.args.self.now c.args.device (none_found (is_number c.args.device) c.args.self.now.members (sym c.device_place.ensures ∙ c.in_default.is))

pub returns-in_default-clause-step : goal.returns-in_default-clause-step
returns-in_default-clause-step g c =
    none_restarts c.args.self.now c.args.device (failed_at c.args.self.now.members c.args.device)
    (none_found (is_number c.args.device) c.args.self.now.members (sym c.device_place.ensures ∙ c.in_default.is))

pub invariant_of-self : goal.invariant_of-self
invariant_of-self g c =
    let network : Network = record { members = c.self.inside.peers.items; links = c.self.inside.links.items } in
    restart_rules c.args.self.now network c.self.view_is c.self.invariant c.args.device c.in-Some.place c.index_mut.result.now c.restart.new.self c.lose_links.new.links.items
    (sym c.device_place.ensures ∙ c.in-Some.is) c.index_mut.ensures.value c.restart.ensures.step c.restart.ensures.rest.number c.restart.ensures.rest.linked c.lose_links.ensures

pub returns-clause-counts : goal.returns-clause-counts
returns-clause-counts g c =
    let network : Network = record { members = c.self.inside.peers.items; links = c.self.inside.links.items } in
    restart_counts c.args.self.now network c.self.view_is c.self.invariant c.args.device c.in-Some.place c.index_mut.result.now c.restart.new.self c.lose_links.new.links.items
    (sym c.device_place.ensures ∙ c.in-Some.is) c.index_mut.ensures.value c.restart.ensures.step c.restart.ensures.rest.number c.restart.ensures.rest.linked c.lose_links.ensures
    c.restart.ensures.rest c.restart.ensures.untold

pub returns-clause-step : goal.returns-clause-step
returns-clause-step g c =
    let network : Network = record { members = c.self.inside.peers.items; links = c.self.inside.links.items } in
    restart_made c.args.self.now network c.self.view_is c.self.invariant c.args.device c.in-Some.place c.index_mut.result.now c.restart.new.self c.lose_links.new.links.items
    (sym c.device_place.ensures ∙ c.in-Some.is) c.index_mut.ensures.value c.restart.ensures.step c.restart.ensures.rest.number c.restart.ensures.rest.linked c.lose_links.ensures
    (failed_at (set c.self.inside.peers.items c.in-Some.place c.restart.new.self) c.args.device)
