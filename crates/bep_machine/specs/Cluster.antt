-- A cluster: which devices share which folders, what each device has, and what is on its way between them (BEP v1).
use Rattle.std.specs.Prelude.{◌==◌, ◌&&◌, ◌||◌, List, nat_lt, if◌then◌else◌}
use Rattle.bep_record.specs.declared.folder_kind.FolderKind.{FolderKind}
use Rattle.bep_model.specs.Tables.{Device, Folder}
use Rattle.bep_machine.specs.Link.{Link, lost}
use Rattle.bep_machine.specs.Peer.{Peer}

-- what no step changes: the devices, the folders that they share, each in which kind, and which pairs have a link, the
-- smaller device first
pub record Config : Type 0 where
  pub devices : List Device
  pub sharing : Folder → List (Device × FolderKind)
  pub links : List (Device × Device)

-- the devices and links are looked up: only those that the configuration names mean anything
pub record Cluster : Type 0 where
  pub config : Config
  pub peer : Device → Peer
  pub link : Device → Device → Link

-- the link between two devices, whichever is named first
abbrev pub link_between : Cluster → Device → Device → Link
link_between cluster device other = if nat_lt device other then cluster.link device other else cluster.link other device

-- the link from the smaller device to the greater one becomes this
abbrev pub with_link : Cluster → Device → Device → Link → Cluster
with_link cluster lower upper link = record cluster { link = λ a b. if (a == lower) && (b == upper) then link else cluster.link a b }

abbrev pub with_link_between : Cluster → Device → Device → Link → Cluster
with_link_between cluster device other link =
    if nat_lt device other then with_link cluster device other link else with_link cluster other device link

abbrev pub with_peer : Cluster → Device → Peer → Cluster
with_peer cluster device peer = record cluster { peer = λ other. if other == device then peer else cluster.peer other }

-- each link of the device is lost
abbrev pub without_links : Cluster → Device → Cluster
without_links cluster device =
    record cluster { link = λ a b. if (a == device) || (b == device) then lost (cluster.link a b) else cluster.link a b }
