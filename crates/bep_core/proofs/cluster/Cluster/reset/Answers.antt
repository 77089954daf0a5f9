use Rattle.std.proofs.Common.{ap, set, sym, ◌∙◌}
use Rattle.bep_peer.specs.Member.{tables_of}
use Rattle.bep_peer.specs.network.Network.{Network, failed_at, is_number}
use Rattle.bep_core.proofs.AtLinks.{none_found}
use Rattle.bep_core.proofs.Resetted.{err_is_old, err_says, none_reset_counts, none_resets, ok_is_new, ok_says, refused_counts, refused_rules, reset_counts, reset_made, reset_refused, reset_rules}
use Rattle.bep_core.proofs.cluster.Cluster.reset.Goals as goal

pub returns-in_default-clause-counts : goal.returns-in_default-clause-counts
returns-in_default-clause-counts g c =
    none_reset_counts c.args.self.now c.args.device c.args.id (none_found (is_number c.args.device) c.args.self.now.members (sym c.device_place.ensures ∙ c.in_default.is))

pub returns-in_default-clause-step : goal.returns-in_default-clause-step
returns-in_default-clause-step g c =
    none_resets c.args.self.now c.args.device c.args.id (failed_at c.args.self.now.members c.args.device)
    (none_found (is_number c.args.device) c.args.self.now.members (sym c.device_place.ensures ∙ c.in_default.is))

-- the id is an old one

pub invariant_of-self : goal.invariant_of-self
invariant_of-self g c =
    let network : Network = record { members = c.self.inside.peers.items; links = c.self.inside.links.items } in
    refused_rules c.args.self.now network c.self.view_is c.self.invariant c.args.device c.args.id c.in-Some.place c.index_mut.result.now c.reset.new.self
    (sym c.device_place.ensures ∙ c.in-Some.is) c.index_mut.ensures.value c.reset.ensures.rest.number c.reset.ensures.rest.linked
    (ap tables_of (err_says c.reset.result _ c.in-Err.is c.reset.ensures.err))

pub returns-in-Err-clause-counts : goal.returns-in-Err-clause-counts
returns-in-Err-clause-counts g c =
    let network : Network = record { members = c.self.inside.peers.items; links = c.self.inside.links.items } in
    refused_counts c.args.self.now network c.self.view_is c.self.invariant c.args.device c.args.id c.in-Some.place c.index_mut.result.now c.reset.new.self
    (sym c.device_place.ensures ∙ c.in-Some.is) c.index_mut.ensures.value c.reset.ensures.rest.number c.reset.ensures.rest.linked
    (ap tables_of (err_says c.reset.result _ c.in-Err.is c.reset.ensures.err))
    c.reset.ensures.rest c.reset.ensures.untold

pub returns-in-Err-clause-step : goal.returns-in-Err-clause-step
returns-in-Err-clause-step g c =
    let network : Network = record { members = c.self.inside.peers.items; links = c.self.inside.links.items } in
    reset_refused c.args.self.now network c.self.view_is c.self.invariant c.args.device c.args.id c.in-Some.place c.index_mut.result.now c.reset.new.self
    (sym c.device_place.ensures ∙ c.in-Some.is) c.index_mut.ensures.value c.reset.ensures.rest.number c.reset.ensures.rest.linked
    (ap tables_of (err_says c.reset.result _ c.in-Err.is c.reset.ensures.err))
    (err_is_old c.reset.result _ c.in-Err.is c.reset.ensures.only c.reset.ensures.old)
    (failed_at (set c.self.inside.peers.items c.in-Some.place c.reset.new.self) c.args.device)

-- the device starts over

pub invariant_of-self-in-Ok : goal.invariant_of-self-in-Ok
invariant_of-self-in-Ok g c =
    let network : Network = record { members = c.self.inside.peers.items; links = c.self.inside.links.items } in
    reset_rules c.args.self.now network c.self.view_is c.self.invariant c.args.device c.args.id c.in-Some.place c.index_mut.result.now c.reset.new.self
    (sym c.device_place.ensures ∙ c.in-Some.is) c.index_mut.ensures.value c.reset.ensures.rest.number c.reset.ensures.rest.linked
    (ok_says c.reset.result _ c.in-Ok.is c.reset.ensures.step) c.lose_links.new.links.items c.lose_links.ensures

pub returns-in-Ok-clause-counts : goal.returns-in-Ok-clause-counts
returns-in-Ok-clause-counts g c =
    let network : Network = record { members = c.self.inside.peers.items; links = c.self.inside.links.items } in
    reset_counts c.args.self.now network c.self.view_is c.self.invariant c.args.device c.args.id c.in-Some.place c.index_mut.result.now c.reset.new.self
    (sym c.device_place.ensures ∙ c.in-Some.is) c.index_mut.ensures.value c.reset.ensures.rest.number c.reset.ensures.rest.linked
    (ok_says c.reset.result _ c.in-Ok.is c.reset.ensures.step) c.lose_links.new.links.items c.lose_links.ensures
    c.reset.ensures.rest c.reset.ensures.untold

pub returns-in-Ok-clause-step : goal.returns-in-Ok-clause-step
returns-in-Ok-clause-step g c =
    let network : Network = record { members = c.self.inside.peers.items; links = c.self.inside.links.items } in
    reset_made c.args.self.now network c.self.view_is c.self.invariant c.args.device c.args.id c.in-Some.place c.index_mut.result.now c.reset.new.self
    (sym c.device_place.ensures ∙ c.in-Some.is) c.index_mut.ensures.value c.reset.ensures.rest.number c.reset.ensures.rest.linked
    (ok_says c.reset.result _ c.in-Ok.is c.reset.ensures.step) c.lose_links.new.links.items c.lose_links.ensures
    (ok_is_new c.reset.result _ c.in-Ok.is c.reset.ensures.old)
    (failed_at (set c.self.inside.peers.items c.in-Some.place c.reset.new.self) c.args.device)
