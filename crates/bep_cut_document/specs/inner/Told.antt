-- What is written of a cut is read again as its lists (this project's profile).
use Rattle.std.specs.Prelude.{◌≡◌, ◌≤◌, ℕ, List, [], length, map}
use Rattle.std.specs.FinMap.{entries, values}
use Rattle.std.specs.List.{AllByRecursion}
use Rattle.bep_record.specs.declared.entry.Entry.{Entry}
use Rattle.bep_record.specs.declared.node.NodeParts.{NodeParts}
use Rattle.bep_record.specs.declared.limits.TheConstants.{MAX_PULLS, MAX_MESSAGES}
use Rattle.bep_index.specs.declared.limits.TheConstants.{MAX_NAMES, MAX_RECORDS, MAX_SEQUENCE}
use Rattle.bep_map.specs.NameMap.{ByName}
use Rattle.bep_json.specs.declared.nodes.NamedParts.{NamedParts}
use Rattle.bep_json.specs.Records.{is_record, read_record}
use Rattle.bep_json.specs.Nodes.{is_node, read_node}
use Rattle.bep_json.specs.Says.{Says}
use Rattle.bep_json.specs.Written.{record_written, node_written}
use Rattle.bep_document.specs.declared.parts.ShareParts.{ShareParts}
use Rattle.bep_document.specs.declared.parts.ViewParts.{ViewParts}
use Rattle.bep_document.specs.declared.parts.FolderParts.{FolderParts}
use Rattle.bep_document.specs.declared.parts.FlightParts.{FlightParts}
use Rattle.bep_document.specs.declared.parts.LinkParts.{LinkParts}
use Rattle.bep_document.specs.declared.parts.RowParts.{RowParts}
use Rattle.bep_document.specs.declared.parts.CheckParts.{CheckParts}
use Rattle.bep_document.specs.Faultless.{IsFaultless}
use Rattle.bep_document.specs.read.Checks.{is_cut, read_cut}
use Rattle.bep_document.specs.read.Folders.{is_folder, read_folder, is_row, read_row}
use Rattle.bep_document.specs.read.Links.{is_flight, read_flight, is_link, read_link}
use Rattle.bep_document.specs.read.Shares.{is_share, read_share}
use Rattle.bep_document.specs.read.Views.{is_view, read_view}
use Rattle.bep_model.specs.declared.flight.Flight.{Flight}
use Rattle.bep_model.specs.declared.row.Row.{Row}
use Rattle.bep_tables.specs.declared.share.Share.{Share}
use Rattle.bep_tables.specs.declared.share.PeerView.{PeerView}
use Rattle.bep_tables.specs.declared.share.SharedFolder.{SharedFolder}
use Rattle.bep_tables.specs.declared.link.LinkState.{LinkState}
use Rattle.bep_tables.specs.declared.cut.CutParts.{CutParts}
use Rattle.bep_cut_document.specs.Trees.{view_tree, share_tree, folder_tree, flight_tree, link_tree, cut_tree, row_tree}
use Rattle.bep_json.specs.declared.version.DocVersion.{DocVersion}
use Rattle.bep_json.specs.declared.version.DocVersion.TheVariants.{Two}
use Rattle.bep_json.specs.Version.{most_file_bytes}
use Rattle.bep_cut_document.specs.Room.{IsViewShort, IsShareShort, IsFolderShort, IsFlightShort, IsLinkShort, IsCutShort}
use Rattle.bep_cut_document.specs.Written.{cut_written}

-- ---- the lists of a cut, as a document has them
-- a node with its name
abbrev pub node_parts : List ℕ × NodeParts → NamedParts
node_parts held = record { name = held.0; parts = held.1 }

-- what is known of another's index, names rising
abbrev pub view_parts : PeerView → ViewParts
view_parts view = record { of = view.of; index_id = view.index_id; max = view.max_sequence; records = values view.records }

-- a device that shares a folder, names rising in each list
abbrev pub share_parts : Share → ShareParts
share_parts share = record {
  device = share.device;
  kind = share.kind;
  index_id = share.index_id;
  max = share.max_sequence;
  own = values share.own;
  store = map node_parts (entries share.store);
  views = map view_parts share.views;
  pulls = values share.pulls;
}

-- a folder
abbrev pub folder_parts : SharedFolder → FolderParts
folder_parts shared = record { folder = shared.folder; devices = map share_parts shared.shares }

-- a message on its way
abbrev pub flight_parts : Flight → FlightParts
flight_parts flight = record { folder = flight.folder; full = flight.full; records = flight.records }

-- a link
abbrev pub link_parts : LinkState → LinkParts
link_parts link = record {
  a = link.a;
  b = link.b;
  up = link.up;
  epoch = link.epoch;
  to_a = map flight_parts link.to_a;
  to_b = map flight_parts link.to_b;
}

-- a row of a certificate
abbrev pub row_parts : Row → RowParts
row_parts row = record { folder = row.folder; device = row.device; entry = row.entry }

-- the cut, with these rows, in a document of this version
abbrev pub parts_of : DocVersion → CutParts → List Row → CheckParts
parts_of version cut rows = record { version = version; folders = map folder_parts cut.folders; links = map link_parts cut.links; certificate = map row_parts rows }

-- ---- what is in range
-- the sequences of these records are
abbrev pub AreInRange : List Entry → Type 0
AreInRange = AllByRecursion (λ entry. entry.sequence ≤ MAX_SEQUENCE)

-- an index is, with its greatest sequence
pub record IsIndexInRange (greatest : ℕ) (records : ByName Entry) : Type 0 where
  pub within : greatest ≤ MAX_SEQUENCE
  pub few : length (values records) ≤ MAX_NAMES
  pub sequences : AreInRange (values records)

-- a view is
abbrev pub IsViewInRange : PeerView → Type 0
IsViewInRange view = IsIndexInRange view.max_sequence view.records

-- what a device has of a folder is
pub record IsShareInRange (share : Share) : Type 0 where
  pub own : IsIndexInRange share.max_sequence share.own
  pub views : AllByRecursion IsViewInRange share.views
  pub few_pulls : length (values share.pulls) ≤ MAX_PULLS
  pub pulls : AreInRange (values share.pulls)

-- a message is
pub record IsFlightInRange (flight : Flight) : Type 0 where
  pub few : length flight.records ≤ MAX_RECORDS
  pub sequences : AreInRange flight.records

-- a link is
pub record IsLinkInRange (link : LinkState) : Type 0 where
  pub epoch : link.epoch ≤ MAX_SEQUENCE
  pub few_to_a : length link.to_a ≤ MAX_MESSAGES
  pub few_to_b : length link.to_b ≤ MAX_MESSAGES
  pub to_a : AllByRecursion IsFlightInRange link.to_a
  pub to_b : AllByRecursion IsFlightInRange link.to_b

-- ---- what is read again in each version whose files may be so long, where it is in range
abbrev pub IsRecordTold : Entry → Type 0
IsRecordTold entry = (version : DocVersion) → entry.size ≤ most_file_bytes version → entry.sequence ≤ MAX_SEQUENCE → Says (is_record version) (read_record version) entry (record_written entry)

abbrev pub IsNodeTold : List ℕ × NodeParts → Type 0
IsNodeTold held = (version : DocVersion) → length held.1.bytes ≤ most_file_bytes version → Says is_node (read_node version) (node_parts held) (node_written held.0 held.1)

abbrev pub IsViewTold : PeerView → Type 0
IsViewTold view = (version : DocVersion) → IsViewShort version view → IsViewInRange view → Says (is_view version) (read_view version) (view_parts view) (view_tree view)

abbrev pub IsShareTold : Share → Type 0
IsShareTold share = (version : DocVersion) → IsShareShort version share → IsShareInRange share → Says (is_share version) (read_share version) (share_parts share) (share_tree share)

abbrev pub IsFolderTold : SharedFolder → Type 0
IsFolderTold shared = (version : DocVersion) → IsFolderShort version shared → AllByRecursion IsShareInRange shared.shares → Says (is_folder version) (read_folder version) (folder_parts shared) (folder_tree shared)

abbrev pub IsFlightTold : Flight → Type 0
IsFlightTold flight = (version : DocVersion) → IsFlightShort version flight → IsFlightInRange flight → Says (is_flight version) (read_flight version) (flight_parts flight) (flight_tree flight)

abbrev pub IsLinkTold : LinkState → Type 0
IsLinkTold link = (version : DocVersion) → IsLinkShort version link → IsLinkInRange link → Says (is_link version) (read_link version) (link_parts link) (link_tree link)

-- a row of a certificate
abbrev pub IsRowTold : Row → Type 0
IsRowTold row = (version : DocVersion) → row.entry.size ≤ most_file_bytes version → row.entry.sequence ≤ MAX_SEQUENCE → Says (is_row version) (read_row version) (row_parts row) (row_tree row)

-- what is written of a cut is read as the cut's lists in each version that has room for it, as version 2 has; in the lists
-- there is no fault, and they write down the cut
pub record IsCutTold (cut : CutParts) : Type 0 where
  pub lists : (version : DocVersion) → IsCutShort version cut → Says (is_cut version) (read_cut version) (map folder_parts cut.folders, map link_parts cut.links) (cut_tree cut)
  pub short : IsCutShort Two cut
  pub faultless : (version : DocVersion) → IsFaultless (parts_of version cut [])
  pub same : cut_written (map folder_parts cut.folders) (map link_parts cut.links) ≡ cut
