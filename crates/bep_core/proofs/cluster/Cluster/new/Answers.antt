use Rattle.std.proofs.Common.{Contains, sym, subst, ap, ◌∙◌}
use Rattle.bep_config.specs.Config.{Configuration}
use Rattle.bep_peer.specs.Member.{AreOwn}
use Rattle.bep_core.proofs.FoldersAt.{begun_own}
use Rattle.bep_core.proofs.Begun.{is_begun, shared_there}
use Rattle.bep_core.proofs.BegunJoined.{begun_network}
use Rattle.bep_core.proofs.BegunFresh.{begun_reached}
use Rattle.bep_peer.specs.network.Network.{Network, IsNetwork, cluster_of}
use Rattle.bep_machine.specs.Sound.{IsSound}
use Rattle.bep_core.specs.Reached.{IsReached}
use Rattle.bep_core.proofs.cluster.Cluster.new.Goals as goal

pub folders_of-requires-clause-there : goal.folders_of-requires-clause-there
folders_of-requires-clause-there g c = λ share stands.
    subst (λ devices. Contains devices share.0.1) (sym (c.as_slice.ensures.value ∙ c.in_ok-numbers.ensures.value))
    (shared_there c.args.config c.into_parts-folders.ensures.a_config share
    (subst (λ shares. Contains shares share) (ap (λ (config : Configuration g.row.S.Denot). config.shares) c.into_parts-folders.ensures.value) stands))

pub peers_of-requires-clause-own : goal.peers_of-requires-clause-own
peers_of-requires-clause-own g c = λ device.
    subst (AreOwn device) (sym (c.in_ok-folders.ensures device)) (begun_own g.S.Store.contents g.S.Store.faults _ _ c.into_parts-folders.result.shares.entries device)

pub invariant_of-made : goal.invariant_of-made
invariant_of-made g c =
    let parts = c.into_parts-folders.ensures.value in
    subst IsNetwork
    (sym
    (is_begun g.S.Store.contents g.S.Store.faults c.args.config
    c.in_ok-peers_of.field-0.items c.in_ok-joining.joining.items c.in_ok-folders.folders
    c.as_slice-3.result.now c.as_slice.result.now c.as_slice-2.result.now c.into_parts-folders.result.shares.entries c.into_parts-folders.result.links.keys
    c.in_ok-peers_of.ensures c.in_ok-folders.ensures c.in_ok-joining.ensures.value
    (c.as_slice-3.ensures.value ∙ c.in_ok-numbers.ensures.value) (c.as_slice.ensures.value ∙ c.in_ok-numbers.ensures.value) (c.as_slice-2.ensures.value ∙ c.in_ok-keys.ensures)
    (ap (λ (config : Configuration g.row.S.Denot). config.shares) parts) (ap (λ (config : Configuration g.row.S.Denot). config.links) parts)))
    (begun_network g.S.Store.contents g.S.Store.faults c.args.config c.into_parts-folders.ensures.a_config c.in_ok-numbers.ensures.rising c.in_ok-joining.ensures.rising)

pub returns-clause-begun : goal.returns-clause-begun
returns-clause-begun g c =
    let parts = c.into_parts-folders.ensures.value in
    is_begun g.S.Store.contents g.S.Store.faults c.args.config
    c.in_ok-peers_of.field-0.items c.in_ok-joining.joining.items c.in_ok-folders.folders
    c.as_slice-3.result.now c.as_slice.result.now c.as_slice-2.result.now c.into_parts-folders.result.shares.entries c.into_parts-folders.result.links.keys
    c.in_ok-peers_of.ensures c.in_ok-folders.ensures c.in_ok-joining.ensures.value
    (c.as_slice-3.ensures.value ∙ c.in_ok-numbers.ensures.value) (c.as_slice.ensures.value ∙ c.in_ok-numbers.ensures.value) (c.as_slice-2.ensures.value ∙ c.in_ok-keys.ensures)
    (ap (λ (config : Configuration g.row.S.Denot). config.shares) parts) (ap (λ (config : Configuration g.row.S.Denot). config.links) parts)

pub returns-clause-reached : goal.returns-clause-reached
returns-clause-reached g c =
    let begun = returns-clause-begun g c in
    subst (λ (network : Network). IsReached (cluster_of network)) (sym begun)
    (begun_reached g.S.Store.contents g.S.Store.faults c.args.config c.into_parts-folders.ensures.a_config
    (subst (λ (network : Network). IsSound (cluster_of network)) begun c.cluster_is_sound.ensures) c.runs_are_gapless.ensures.fresh)
