-- What holds of the parts of every cluster, and of their cut; the functions of src/laws.rt have these as contracts.
use Rattle.std.specs.Prelude.{◌≡◌}
use Rattle.bep_machine.specs.Said.{tables_of_cluster}
use Rattle.bep_machine.specs.Sound.{IsSound}
use Rattle.bep_peer.specs.network.Network.{Network, IsNetwork, cluster_of}
use Rattle.bep_tables.specs.Cut.{tables_of}
use Rattle.bep_cut.specs.Cut.{cut_at}
use Rattle.bep_cut.specs.Parts.{AreParts}

-- a cut can be taken of a cluster's devices and links
abbrev pub ClustersAreParts : Type 0
ClustersAreParts = (network : Network) → IsNetwork network → AreParts network.members network.links

-- the cut of a cluster's devices and links says what the cluster does
abbrev pub CutSaysCluster : Type 0
CutSaysCluster =
    (network : Network) → IsNetwork network → IsSound (cluster_of network) → tables_of (cut_at network.members network.links) ≡ tables_of_cluster (cluster_of network)

-- devices and links that are one and the same cluster have one cut, whatever the devices told of their last actions
abbrev pub SameClusterSameCut : Type 0
SameClusterSameCut = (one other : Network) → IsNetwork one → IsNetwork other → cluster_of one ≡ cluster_of other →
    cut_at one.members one.links ≡ cut_at other.members other.links
