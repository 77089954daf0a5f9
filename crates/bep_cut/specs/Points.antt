-- What a cut has of points and links beyond its tables, which say nothing of them: up to which point each index goes, up to
-- which point each device knows another one's, and in which epoch each link is (BEP v1, 'Fields (ClusterConfig)', fields
-- 'index_id' and 'max_sequence'; epochs are this project's profile).
use Rattle.std.specs.Prelude.{◌≡◌, ◌==◌, ◌&&◌, ℕ, Bool, Option, Some, None, option_map, Contains, if◌then◌else◌}
use Rattle.std.specs.List.{list_any}
use Rattle.bep_index.specs.Listing.{Listing}
use Rattle.bep_model.specs.Tables.{Device, Folder}
use Rattle.bep_machine.specs.Cluster.{Cluster}
use Rattle.bep_machine.specs.Link.{Link}
use Rattle.bep_machine.specs.Replica.{Replica, view_of}
use Rattle.bep_machine.specs.Said.{replica_said}
use Rattle.bep_peer.specs.network.Network.{Network, IsNetwork, cluster_of}
use Rattle.bep_tables.specs.declared.cut.CutParts.{CutParts}
use Rattle.bep_tables.specs.declared.link.LinkState.{LinkState}
use Rattle.bep_tables.specs.declared.share.PeerView.{PeerView}
use Rattle.bep_tables.specs.declared.share.Share.{Share}
use Rattle.bep_tables.specs.Cut.{link_of, share_of, shares_of, view_of as viewed_in}
use Rattle.bep_cut.specs.Cut.{cut_at}

-- a point: the id of an index, and the greatest sequence of it that is known
abbrev pub Point : Type 0
Point = ℕ × ℕ

abbrev pub point_of : Listing → Point
point_of listing = (listing.id, listing.sequence)

-- ---- as a cut has them

abbrev pub share_in : CutParts → Device → Folder → Option Share
share_in cut device folder = share_of device (shares_of folder cut.folders)

abbrev pub point_of_share : Share → Point
point_of_share share = (share.index_id, share.max_sequence)

-- a view that the cut doesn't list stands at (0, 0)
abbrev pub point_in : Option PeerView → Point
point_in None = (0, 0)
point_in (Some view) = (view.index_id, view.max_sequence)

abbrev pub point_known : Device → Share → Point
point_known other share = point_in (viewed_in other share.views)

-- whether a link is up, and its epoch
abbrev pub State : Type 0
State = Bool × ℕ

abbrev pub state_in : LinkState → State
state_in state = (state.up, state.epoch)

-- ---- as a cluster has them

abbrev pub state_of : Link → State
state_of link = (link.up, link.epoch)

-- the link between the two, the smaller first, if there is one
abbrev pub link_said : Cluster → Device → Device → Option Link
link_said cluster lower upper =
    if list_any (λ ends. (ends.0 == lower) && (ends.1 == upper)) cluster.config.links then Some (cluster.link lower upper) else None

-- ---- the law

-- The cut has of each device that shares a folder the point of its index, and of each other device with which it shares the
-- folder the point up to which it knows that one's index; and of each link whether it is up, and its epoch.
pub record HasPoints (cut : CutParts) (cluster : Cluster) : Type 0 where
  pub own : (device : Device) (folder : Folder) →
      option_map point_of_share (share_in cut device folder) ≡ option_map (λ (replica : Replica). point_of replica.index) (replica_said cluster device folder)
  pub known : (device other : Device) (folder : Folder) (replica : Replica) → replica_said cluster device folder ≡ Some replica → Contains replica.others other →
      option_map (point_known other) (share_in cut device folder) ≡ Some (point_of (view_of replica other))
  pub links : (lower upper : Device) →
      option_map state_in (link_of lower upper cut.links) ≡ option_map state_of (link_said cluster lower upper)

-- so has the cut of every cluster
abbrev pub CutSaysPoints : Type 0
CutSaysPoints = (network : Network) → IsNetwork network → HasPoints (cut_at network.members network.links) (cluster_of network)
