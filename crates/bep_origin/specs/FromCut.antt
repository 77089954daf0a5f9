-- A cluster that a cut is of: its devices have what the cut has of them, with no session and no received block, and its
-- links carry the cut's messages alone (this project's profile).
use Rattle.std.specs.Prelude.{◌≡◌, ◌≤◌, ◌==◌, not, Bool, true, false, List, [], ◌∷◌, map, Option, Some, None}
use Rattle.std.specs.List.{filter, flat_map, AllByRecursion}
use Rattle.std.specs.FinMap.{empty, entries, from_entries, insert, values}
use Rattle.bep_map.specs.NameMap.{ByName}
use Rattle.bep_record.specs.declared.entry.Entry.{Entry}
use Rattle.bep_record.specs.Node.{IsNode}
use Rattle.bep_index.specs.Listing.{Listing}
use Rattle.bep_model.specs.declared.flight.Flight.{Flight}
use Rattle.bep_model.specs.Tables.{Tables, Device, Folder, FileName}
use Rattle.bep_machine.specs.declared.message.Message.{Message}
use Rattle.bep_machine.specs.declared.message.Message.TheVariants as messages
use Rattle.bep_machine.specs.Cluster.{Config, Cluster}
use Rattle.bep_machine.specs.Link.{Link}
use Rattle.bep_machine.specs.Pull.{new_pull}
use Rattle.bep_machine.specs.Replica.{Pull, Replica}
use Rattle.bep_machine.specs.Said.{tables_of_cluster}
use Rattle.bep_index.specs.Good.{IsGood}
use Rattle.bep_machine.specs.Sound.{IsSound}
use Rattle.bep_tables.specs.declared.share.PeerView.{PeerView}
use Rattle.bep_tables.specs.declared.share.Share.{Share}
use Rattle.bep_tables.specs.declared.share.SharedFolder.{SharedFolder}
use Rattle.bep_tables.specs.declared.link.LinkState.{LinkState}
use Rattle.bep_tables.specs.declared.cut.CutParts.{CutParts}
use Rattle.bep_tables.specs.Cut.{devices_of, ends_of, index_of, known_of, link_of, share_of, shares_of, tables_of}

-- ---- devices

-- the other devices that share the folder
abbrev pub others_in : Device → List Share → List Device
others_in device shares = filter (λ other. not (other == device)) (devices_of shares)

-- a view under its device
abbrev pub view_from : PeerView → Device × Listing
view_from view = (view.of, known_of view)

-- pulls without blocks, each under its target's name
abbrev pub pulls_from : List (FileName × Entry) → ByName Pull
pulls_from [] = empty
pulls_from (one ∷ more) = insert (pulls_from more) one.0 (new_pull one.1)

-- what a device has of a folder, which these share
abbrev pub replica_from : List Share → Share → Replica
replica_from shares share = record {
  kind = share.kind;
  others = others_in share.device shares;
  index = index_of share;
  views = from_entries (map view_from share.views);
  pulls = pulls_from (entries share.pulls);
  store = share.store;
}

abbrev pub with_share : SharedFolder → Option Share → ByName Replica → ByName Replica
with_share shared None replicas = replicas
with_share shared (Some share) replicas = insert replicas shared.folder (replica_from shared.shares share)

-- what a device has of each folder that it shares
abbrev pub replicas_from : Device → List SharedFolder → ByName Replica
replicas_from device [] = empty
replicas_from device (shared ∷ folders) = with_share shared (share_of device shared.shares) (replicas_from device folders)

-- ---- links

abbrev pub message_of : Bool → Folder → List Entry → Message
message_of true folder batch = messages.Index folder batch
message_of false folder batch = messages.IndexUpdate folder batch

abbrev pub message_from : Flight → Message
message_from flight = message_of flight.full flight.folder flight.records

-- a link that isn't there never was up
abbrev pub link_from : Option LinkState → Link
link_from None = record { up = false; epoch = 0; to_lower = []; to_upper = [] }
link_from (Some state) = record { up = state.up; epoch = state.epoch; to_lower = map message_from state.to_a; to_upper = map message_from state.to_b }

-- ---- the whole

abbrev pub config_from : CutParts → Config
config_from cut = record {
  devices = flat_map (λ shared. devices_of shared.shares) cut.folders;
  sharing = λ folder. map (λ share. (share.device, share.kind)) (shares_of folder cut.folders);
  links = map ends_of cut.links;
}

abbrev pub cluster_from : CutParts → Cluster
cluster_from cut = record {
  config = config_from cut;
  peer = λ device. record { replicas = replicas_from device cut.folders; sessions = empty };
  link = λ lower upper. link_from (link_of lower upper cut.links);
}

-- this cluster is sound and says what the cut does; no device of it has a session
pub record HasCluster (cut : CutParts) : Type 0 where
  pub sound : IsSound (cluster_from cut)
  pub says : tables_of_cluster (cluster_from cut) ≡ tables_of cut
  pub sessions : (device : Device) → ((cluster_from cut).peer device).sessions ≡ empty

-- ---- what the types of a cut's parts keep

abbrev pub AreGoodRecords : ByName Entry → Type 0
AreGoodRecords records = AllByRecursion IsGood (values records)

abbrev pub IsGoodView : PeerView → Type 0
IsGoodView view = AreGoodRecords view.records

-- records are well formed and nodes are nodes; the numbers of devices and the ids of indexes are 1 or more
pub record IsGoodShare (share : Share) : Type 0 where
  pub device : 1 ≤ share.device
  pub index : 1 ≤ share.index_id
  pub own : AreGoodRecords share.own
  pub store : AllByRecursion IsNode (values share.store)
  pub views : AllByRecursion IsGoodView share.views
  pub pulls : AreGoodRecords share.pulls

abbrev pub IsGoodFolder : SharedFolder → Type 0
IsGoodFolder shared = AllByRecursion IsGoodShare shared.shares

abbrev pub IsGoodFlight : Flight → Type 0
IsGoodFlight flight = AllByRecursion IsGood flight.records

abbrev pub IsGoodState : LinkState → Type 0
IsGoodState state = AllByRecursion IsGoodFlight state.to_a × AllByRecursion IsGoodFlight state.to_b

abbrev pub IsGoodCut : CutParts → Type 0
IsGoodCut cut = AllByRecursion IsGoodFolder cut.folders × AllByRecursion IsGoodState cut.links
