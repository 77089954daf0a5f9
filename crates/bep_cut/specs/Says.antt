-- The cluster that devices and links are, and what their cut says of it.
use Rattle.std.specs.Prelude.{◌≡◌, List}
use Rattle.bep_machine.specs.Cluster.{Cluster}
use Rattle.bep_machine.specs.Said.{tables_of_cluster}
use Rattle.bep_machine.specs.Sound.{IsSound}
use Rattle.bep_links.specs.Link.{LinkBetween}
use Rattle.bep_peer.specs.network.Agreed.{network_of}
use Rattle.bep_peer.specs.network.Network.{cluster_of}
use Rattle.bep_peer.specs.Member.{Member}
use Rattle.bep_tables.specs.Cut.{tables_of}
use Rattle.bep_tables.specs.declared.cut.CutParts.{CutParts}
use Rattle.bep_cut.specs.Parts.{AreParts}

-- the cluster of these devices and links
abbrev pub cluster_at : List Member → List LinkBetween → Cluster
cluster_at members links = cluster_of (network_of members links)

-- where they agree on who shares what, it is sound
abbrev pub AreSoundParts : List Member → List LinkBetween → Type 0
AreSoundParts members links = AreParts members links → IsSound (cluster_at members links)

-- the cut's tables are the very tables by which the cluster's steps and the headline are stated
abbrev pub Says : Cluster → CutParts → Type 0
Says cluster cut = tables_of cut ≡ tables_of_cluster cluster
