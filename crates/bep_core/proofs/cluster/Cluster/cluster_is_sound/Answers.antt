use Rattle.std.proofs.Common.{◌≡◌, ◌∙◌, sym, subst}
use Rattle.bep_machine.specs.Sound.{IsSound}
use Rattle.bep_peer.specs.network.Agreed.{network_of}
use Rattle.bep_peer.specs.network.Network.{Network, IsNetwork, cluster_of}
use Rattle.bep_core.proofs.cluster.Cluster.cluster_is_sound.Goals as goal

pub returns : goal.returns
returns g c =
    let same : network_of c.as_slice.result.now c.as_slice-2.result.now ≡ network_of c.self.inside.peers.items c.self.inside.links.items =
    λ i. network_of (c.as_slice.ensures.value i) (c.as_slice-2.ensures.value i) in
    subst (λ (network : Network). IsSound (cluster_of network)) (same ∙ c.self.view_is) (c.agreed_is_sound.ensures.kept (subst IsNetwork (sym same) c.self.invariant))
