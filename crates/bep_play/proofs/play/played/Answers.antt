use Rattle.std.proofs.Common.{subst}
use Rattle.bep_machine.specs.Sound.{IsSound}
use Rattle.bep_peer.specs.network.Network.{Network, cluster_of}
use Rattle.bep_play.specs.Played.{Leads}
use Rattle.bep_play.proofs.ReachedOn.{reached_on}
use Rattle.bep_play.proofs.play.played.Goals as goal

pub returns-clause-reached : goal.returns-clause-reached
returns-clause-reached c =
    let leads = c.in_ok-told.ensures.leads in
    reached_on (cluster_of c.in_ok-cluster.cluster) (cluster_of c.play.new.cluster) leads.events leads.nodes leads.run c.in_ok-cluster.ensures.reached

pub returns-clause-ends : goal.returns-clause-ends
returns-clause-ends c =
    let begun = c.in_ok-cluster.ensures.begun in
    let last = c.play.new.cluster in
    let later = c.reached_is_gapless.ensures (cluster_of last) (returns-clause-reached c) in record {
      begins = subst (λ (network : Network). IsSound (cluster_of network)) begun c.cluster_is_sound.ensures;
      leads = subst (λ (network : Network). Leads (cluster_of network) c.args.scenario.steps (cluster_of last) c.in_ok-told.told.items) begun c.in_ok-told.ensures.leads;
      network = c.peers-devices.ensures.a_network;
      sound = c.cluster_is_sound-2.ensures;
      says = c.cut_says_cluster.ensures last c.peers-devices.ensures.a_network c.cluster_is_sound-2.ensures;
      gapless = later.1;
      earlier = later.2;
    }
