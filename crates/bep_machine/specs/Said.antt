-- What a cluster says, as the tables by which cuts are judged: sessions, received blocks and all messages but those with
-- records are forgotten, and so is what a device has of a folder that it doesn't share (this project's profile).
use Rattle.std.specs.Prelude.{◌==◌, ◌&&◌, ◌||◌, Bool, true, false, List, [], ◌∷◌, Option, Some, None, if◌then◌else◌}
use Rattle.std.specs.List.{flat_map, list_any}
use Rattle.std.specs.FinMap.{get}
use Rattle.bep_record.specs.declared.entry.Entry.{Entry}
use Rattle.bep_record.specs.declared.folder_kind.FolderKind.{FolderKind}
use Rattle.bep_model.specs.declared.flight.Flight.{Flight}
use Rattle.bep_model.specs.Tables.{Tables, Device, Folder, FileName}
use Rattle.bep_machine.specs.declared.message.Message.{Message}
use Rattle.bep_machine.specs.declared.message.Message.TheVariants as messages
use Rattle.bep_machine.specs.Replica.{Replica, own_at, node_at, viewed_at, target_at}
use Rattle.bep_machine.specs.Link.{end_of, queue_to}
use Rattle.bep_machine.specs.Cluster.{Config, Cluster, link_between}

-- the device is one of those that share
abbrev pub is_among : Device → List (Device × FolderKind) → Bool
is_among device sharing = list_any (λ share. share.0 == device) sharing

-- a device's replica of a folder, where the device shares it
abbrev pub replica_said : Cluster → Device → Folder → Option Replica
replica_said cluster device folder =
    if is_among device (cluster.config.sharing folder) then get (cluster.peer device).replicas folder else None

-- what a replica has at a name, if there is one
abbrev pub looked_up : {X : Type 0} → (Replica → FileName → Option X) → FileName → Option Replica → Option X
looked_up look name None = None
looked_up look name (Some replica) = look replica name

-- what a device has at a name of a folder
abbrev pub at_device : {X : Type 0} → (Replica → FileName → Option X) → Cluster → Device → Folder → FileName → Option X
at_device look cluster device folder name = looked_up look name (replica_said cluster device folder)

-- both devices share the folder
abbrev pub both_share : Config → Device → Device → Folder → Bool
both_share config device other folder = is_among device (config.sharing folder) && is_among other (config.sharing folder)

-- the records that a message carries, of a folder that both devices share
abbrev pub flight_when : Bool → Folder → Bool → List Entry → List Flight
flight_when true folder full batch = record { folder = folder; full = full; records = batch } ∷ []
flight_when false folder full batch = []

abbrev pub flights_of : Config → Device → Device → Message → List Flight
flights_of config sender receiver (messages.Index folder batch) = flight_when (both_share config sender receiver folder) folder true batch
flights_of config sender receiver (messages.IndexUpdate folder batch) = flight_when (both_share config sender receiver folder) folder false batch
flights_of config sender receiver message = []

-- the two devices have a link
abbrev pub are_linked : Config → Device → Device → Bool
are_linked config device other =
    list_any (λ link. ((link.0 == device) && (link.1 == other)) || ((link.0 == other) && (link.1 == device))) config.links

-- what is on its way from a device to another
abbrev pub on_its_way : Cluster → Device → Device → List Flight
on_its_way cluster sender receiver =
    if are_linked cluster.config sender receiver
    then flat_map (flights_of cluster.config sender receiver) (queue_to (end_of receiver sender) (link_between cluster sender receiver))
    else []

-- the cluster's tables
abbrev pub tables_of_cluster : Cluster → Tables
tables_of_cluster cluster = record {
  sharing = cluster.config.sharing;
  own = at_device own_at cluster;
  node = at_device node_at cluster;
  viewed = λ device other folder name. at_device (λ replica name. viewed_at replica other name) cluster device folder name;
  target = at_device target_at cluster;
  flying = on_its_way cluster;
}
