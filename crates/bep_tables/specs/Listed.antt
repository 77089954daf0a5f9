-- The entries of a cut, one after the other, and a cut grouped by folder and name (this project's profile).
use Rattle.std.specs.Prelude.{◌≡◌, ◌≢◌, ◌++◌, Bool, List, [], ◌∷◌, ⊤, map, Contains, if◌then◌else◌}
use Rattle.std.specs.Ordering.{is_eq}
use Rattle.std.specs.declared.cmp.Ordering.TheVariants.{Greater}
use Rattle.std.specs.List.{filter, flat_map}
use Rattle.std.specs.FinMap.{entries}
use Rattle.bep_record.specs.declared.entry.Entry.{Entry}
use Rattle.bep_record.specs.declared.node.NodeParts.{NodeParts}
use Rattle.bep_map.specs.NameMap.{ByName}
use Rattle.bep_model.specs.declared.flight.Flight.{Flight}
use Rattle.bep_model.specs.Tables.{Device, Folder, FileName}
use Rattle.bep_model.specs.Settled.{key_cmp}
use Rattle.bep_tables.specs.declared.share.Share.{Share}
use Rattle.bep_tables.specs.declared.share.PeerView.{PeerView}
use Rattle.bep_tables.specs.declared.share.SharedFolder.{SharedFolder}
use Rattle.bep_tables.specs.declared.link.LinkState.{LinkState}
use Rattle.bep_tables.specs.declared.cut.CutParts.{CutParts}
use Rattle.bep_tables.specs.declared.table.entry.Source.{Source}
use Rattle.bep_tables.specs.declared.table.entry.Source.TheVariants.{Own, View, Flight as OnItsWay, Pull}
use Rattle.bep_tables.specs.declared.table.entry.Held.{Held}
use Rattle.bep_tables.specs.declared.table.entry.Held.TheVariants as lends
use Rattle.bep_tables.specs.declared.table.entry.TableEntry.{TableEntry}

-- what an entry holds
pub data Holding : Type 0 where
  Record : Source → Entry → Holding
  Node : NodeParts → Holding

-- an entry of a cut: what a device has of a name in a folder
pub record Listed : Type 0 where
  pub folder : Folder
  pub name : FileName
  pub device : Device
  pub holding : Holding

-- the entry of these
abbrev pub listed_at : Folder → FileName → Device → Holding → Listed
listed_at folder name device holding = record { folder = folder; name = name; device = device; holding = holding }

-- the folder and the name that it is of
abbrev pub key_at : Listed → Folder × FileName
key_at one = (one.folder, one.name)

-- an entry that is lent
abbrev pub held : Held → Holding
held (lends.Record source lent) = Record source lent.now
held (lends.Node lent) = Node lent.now

abbrev pub listed : TableEntry → Listed
listed one = listed_at one.folder.now one.name.now one.device (held one.held)

-- ---- the entries of a cut, in the order in which they stand there

-- a device's record at a name
abbrev pub recorded : Folder → Device → Source → FileName × Entry → Listed
recorded folder device source one = listed_at folder one.0 device (Record source one.1)

-- its records in a map by names
abbrev pub records_listed : Folder → Device → Source → ByName Entry → List Listed
records_listed folder device source records = map (recorded folder device source) (entries records)

-- its node at a name
abbrev pub stored : Folder → Device → FileName × NodeParts → Listed
stored folder device one = listed_at folder one.0 device (Node one.1)

-- what its store holds
abbrev pub nodes_listed : Folder → Device → ByName NodeParts → List Listed
nodes_listed folder device store = map (stored folder device) (entries store)

-- a record that it has from elsewhere: no entry, where the record is invalid
abbrev pub foreign_listed : Folder → Device → Source → FileName × Entry → List Listed
foreign_listed folder device source one = if one.1.invalid then [] else recorded folder device source one ∷ []

-- what its view of another device has
abbrev pub view_listed : Folder → Device → PeerView → List Listed
view_listed folder device view = flat_map (foreign_listed folder device View) (entries view.records)

-- what its views have
abbrev pub views_listed : Folder → Device → List PeerView → List Listed
views_listed folder device = flat_map (view_listed folder device)

-- all that it has of a folder: its own records, its nodes, its views and its pulls, of which none is invalid
unfoldable pub share_listed : Folder → Share → List Listed
share_listed folder share =
    records_listed folder share.device Own share.own
    ++ nodes_listed folder share.device share.store
    ++ views_listed folder share.device share.views
    ++ records_listed folder share.device Pull share.pulls

-- all that the devices have of a folder
abbrev pub folder_listed : SharedFolder → List Listed
folder_listed shared = flat_map (share_listed shared.folder) shared.shares

-- a record of a folder on its way to a device
abbrev pub flying : Folder → Device → Entry → List Listed
flying folder device entry = foreign_listed folder device OnItsWay (entry.name, entry)

-- a message's records, on their way to a device
abbrev pub flight_listed : Device → Flight → List Listed
flight_listed device flight = flat_map (flying flight.folder device) flight.records

-- what is on its way over a link
unfoldable pub link_listed : LinkState → List Listed
link_listed link = flat_map (flight_listed link.a) link.to_a ++ flat_map (flight_listed link.b) link.to_b

-- all entries of a cut
unfoldable pub cut_listed : CutParts → List Listed
cut_listed cut = flat_map folder_listed cut.folders ++ flat_map link_listed cut.links

-- ---- entries grouped by folder and name

-- whether an entry is of this folder and name
abbrev pub is_of : Folder × FileName → Listed → Bool
is_of key one = is_eq (key_cmp (key_at one) key)

-- the entries of a folder and name, in the order in which they stand
abbrev pub group_of : Folder × FileName → List Listed → List Listed
group_of key = filter (is_of key)

-- no entry is of a lesser folder and name than one before it
abbrev pub AreInOrder : List Listed → Type 0
AreInOrder [] = ⊤
AreInOrder (one ∷ more) = ((later : Listed) → Contains more later → key_cmp (key_at one) (key_at later) ≢ Greater) × AreInOrder more

-- the table holds these entries, each as often, grouped: each folder's and name's entries stand together, in the order
-- in which they stood
pub record IsGrouped (all : List Listed) (table : List TableEntry) : Type 0 where
  pub in_order : AreInOrder (map listed table)
  pub groups : (key : Folder × FileName) → group_of key (map listed table) ≡ group_of key all
