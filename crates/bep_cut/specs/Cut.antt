-- The cut of a cluster: what its devices have of their folders, and what is on its way between them; sessions, received
-- blocks and all messages but those with records are forgotten (this project's profile).
use Rattle.std.specs.Prelude.{◌==◌, List, [], ◌∷◌, fold, map, Option, Some, None, IfSome}
use Rattle.std.specs.List.{find, flat_map, AllByRecursion}
use Rattle.std.specs.FinMap.{empty, get, keys}
use Rattle.bep_map.specs.NameMap.{ByName}
use Rattle.bep_model.specs.Tables.{Device, Folder}
use Rattle.bep_machine.specs.Replica.{Replica}
use Rattle.bep_machine.specs.Peer.{Peer}
use Rattle.bep_links.specs.Link.{LinkBetween, IsLink}
use Rattle.bep_peer.specs.Member.{Member, tables_of}
use Rattle.bep_tables.specs.declared.share.Share.{Share}
use Rattle.bep_tables.specs.declared.share.SharedFolder.{SharedFolder}
use Rattle.bep_tables.specs.declared.link.LinkState.{LinkState}
use Rattle.bep_tables.specs.declared.cut.CutParts.{CutParts}
use Rattle.bep_tables.specs.Names.{Names, with_names}
use Rattle.bep_cut.specs.Share.{IsSoundAt, share_cut}
use Rattle.bep_cut.specs.LinkState.{HasBatch, both_have, link_cut}

-- a device, by its number, and its tables
abbrev pub Seen : Type 0
Seen = Device × Peer

abbrev pub seen : Member → Seen
seen member = (member.number, tables_of member)

-- ---- folders

-- what a device has of a folder, if it shares it
abbrev pub shared_by : Device → Option Replica → List Share
shared_by device None = []
shared_by device (Some replica) = share_cut device replica ∷ []

abbrev pub share_at : Folder → Seen → List Share
share_at folder one = shared_by one.0 (get one.1.replicas folder)

-- the folder, with what each device has of it that shares it
abbrev pub folder_cut : List Seen → Folder → SharedFolder
folder_cut all folder = record { folder = folder; shares = flat_map (share_at folder) all }

-- the folders that some device shares, names rising
abbrev pub with_folders : Names → Seen → Names
with_folders names one = with_names names (keys one.1.replicas)

abbrev pub folders_of : List Seen → List Folder
folders_of all = keys (fold with_folders empty all)

-- ---- links

-- the folders of the device; one that isn't there has none
abbrev pub replicas_of : Option Seen → ByName Replica
replicas_of None = empty
replicas_of (Some one) = one.1.replicas

abbrev pub replicas_at : List Seen → Device → ByName Replica
replicas_at all device = replicas_of (find (λ one. one.0 == device) all)

-- the link, with what it carries of folders that both its devices share
abbrev pub link_at : List Seen → LinkBetween → LinkState
link_at all between = link_cut (both_have (replicas_at all between.ends.0) (replicas_at all between.ends.1)) between

-- ---- all of it

abbrev pub parts_at : List Seen → List LinkBetween → CutParts
parts_at all links = record { folders = map (folder_cut all) (folders_of all); links = map (link_at all) links }

-- the cut of these devices and links
unfoldable pub cut_at : List Member → List LinkBetween → CutParts
cut_at members links = parts_at (map seen members) links

-- ---- what holds of every device

-- what the device has of the folder, if it shares it, is sound
abbrev pub IsSoundIn : Folder → Seen → Type 0
IsSoundIn folder one = IfSome (get one.1.replicas folder) (IsSoundAt one.0)

-- and so is what each of them has of it
abbrev pub AreSoundIn : List Seen → Folder → Type 0
AreSoundIn all folder = AllByRecursion (IsSoundIn folder) all

-- ---- what holds of every link

-- it is one, and the messages with records that it carries have batches
pub record IsSoundLink (all : List Seen) (between : LinkBetween) : Type 0 where
  pub a_link : IsLink between
  pub to_a : AllByRecursion HasBatch (link_at all between).to_a
  pub to_b : AllByRecursion HasBatch (link_at all between).to_b
