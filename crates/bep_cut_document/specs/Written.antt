-- The cut and the certificate that a check document writes down (this project's profile).
use Rattle.std.specs.Prelude.{ℕ, ◌==◌, ◌||◌, not, Bool, List, [], ◌∷◌, map}
use Rattle.std.specs.declared.cmp.Ordering.{Ordering}
use Rattle.std.specs.Ordering.{nat_cmp, on}
use Rattle.std.specs.Cmp.Lexicographic.{slice_cmp}
use Rattle.std.specs.FinMap.{empty, insert}
use Rattle.std.specs.List.{AllByRecursion, filter}
use Rattle.serde_json.specs.Data.{Data}
use Rattle.bep_map.specs.NameMap.{ByName}
use Rattle.bep_record.specs.Entry.{IsWellFormed}
use Rattle.bep_record.specs.declared.node.NodeParts.{NodeParts}
use Rattle.bep_index.specs.Batch.{with_all}
use Rattle.bep_json.specs.declared.nodes.NamedParts.{NamedParts}
use Rattle.bep_document.specs.declared.parts.ShareParts.{ShareParts}
use Rattle.bep_document.specs.declared.parts.ViewParts.{ViewParts}
use Rattle.bep_document.specs.declared.parts.FolderParts.{FolderParts}
use Rattle.bep_document.specs.declared.parts.FlightParts.{FlightParts}
use Rattle.bep_document.specs.declared.parts.LinkParts.{LinkParts}
use Rattle.bep_document.specs.declared.parts.RowParts.{RowParts}
use Rattle.bep_json.specs.declared.version.DocVersion.{DocVersion}
use Rattle.bep_document.specs.Reading.{Reading, Read, ◌>>=◌, reading_of, reading_of_tree, reading_of_cut, reading_of_cut_document}
use Rattle.bep_model.specs.declared.flight.Flight.{Flight}
use Rattle.bep_model.specs.declared.row.Row.{Row}
use Rattle.bep_tables.specs.declared.share.Share.{Share}
use Rattle.bep_tables.specs.declared.share.PeerView.{PeerView}
use Rattle.bep_tables.specs.declared.share.SharedFolder.{SharedFolder}
use Rattle.bep_tables.specs.declared.link.LinkState.{LinkState}
use Rattle.bep_tables.specs.declared.cut.CutParts.{CutParts}
use Rattle.bep_tables.specs.Cut.{ends_of, ends_cmp}
use Rattle.bep_cut_document.specs.Sorting.{in_order}

-- views in the order of the devices that they are of
abbrev pub by_viewed : PeerView → PeerView → Ordering
by_viewed = on (λ view. view.of) nat_cmp

-- shares in the order of their devices
abbrev pub by_device : Share → Share → Ordering
by_device = on (λ share. share.device) nat_cmp

-- folders in the order of their names
abbrev pub by_folder : SharedFolder → SharedFolder → Ordering
by_folder = on (λ shared. shared.folder) (slice_cmp nat_cmp)

-- links in the order of their ends
abbrev pub by_ends : LinkState → LinkState → Ordering
by_ends = on ends_of ends_cmp

-- the nodes with each of these at its name
abbrev pub with_nodes : ByName NodeParts → List NamedParts → ByName NodeParts
with_nodes nodes [] = nodes
with_nodes nodes (node ∷ more) = with_nodes (insert nodes node.name node.parts) more

-- something is known of another's index; a view at point (0, 0) is as one that isn't listed
abbrev pub has_point : ViewParts → Bool
has_point parts = not (parts.index_id == 0) || not (parts.max == 0)

-- what a device knows of another's index
abbrev pub view_written : ViewParts → PeerView
view_written parts = record {
  of = parts.of;
  index_id = parts.index_id;
  max_sequence = parts.max;
  records = with_all empty parts.records;
}

-- what a device has of a folder, its views in order and without those that say nothing
abbrev pub share_written : ShareParts → Share
share_written parts = record {
  device = parts.device;
  kind = parts.kind;
  index_id = parts.index_id;
  max_sequence = parts.max;
  own = with_all empty parts.own;
  store = with_nodes empty parts.store;
  views = in_order by_viewed [] (map view_written (filter has_point parts.views));
  pulls = with_all empty parts.pulls;
}

-- the folder, with what its devices have, in order
abbrev pub folder_written : FolderParts → SharedFolder
folder_written parts = record { folder = parts.folder; shares = in_order by_device [] (map share_written parts.devices) }

-- what these messages carry is well formed
abbrev pub AreWellFormed : List FlightParts → Type 0
AreWellFormed = AllByRecursion (λ flight. AllByRecursion IsWellFormed flight.records)

-- what a link carries is well formed
abbrev pub IsWellFormedLink : LinkParts → Type 0
IsWellFormedLink link = AreWellFormed link.to_a × AreWellFormed link.to_b

-- a message on its way
abbrev pub flight_written : FlightParts → Flight
flight_written parts = record { folder = parts.folder; full = parts.full; records = parts.records }

-- a link, with what is on its way over it
abbrev pub link_written : LinkParts → LinkState
link_written parts = record {
  a = parts.a;
  b = parts.b;
  up = parts.up;
  epoch = parts.epoch;
  to_a = map flight_written parts.to_a;
  to_b = map flight_written parts.to_b;
}

-- the cut, its folders and links in order
abbrev pub cut_written : List FolderParts → List LinkParts → CutParts
cut_written folders links = record {
  folders = in_order by_folder [] (map folder_written folders);
  links = in_order by_ends [] (map link_written links);
}

-- a row of the certificate
abbrev pub row_written : RowParts → Row
row_written parts = record { folder = parts.folder; device = parts.device; entry = parts.entry }

-- the cut and the rows of a check document, or the fault for which it is refused
abbrev pub check_of : List ℕ → Reading (CutParts × List Row)
check_of bytes = reading_of bytes >>= λ parts. Read (cut_written parts.folders parts.links, map row_written parts.certificate)

-- the cut that the tree of a cut says by itself, read as in documents of this version, or the fault for which it is refused
abbrev pub cut_of_tree : DocVersion → Data → Reading CutParts
cut_of_tree version tree = reading_of_cut version tree >>= λ parts. Read (cut_written parts.folders parts.links)

-- the version and the cut of a check document, whatever certificate stands there, or the fault for which it is refused
abbrev pub cut_of_document : List ℕ → Reading (DocVersion × CutParts)
cut_of_document bytes = reading_of_cut_document bytes >>= λ parts. Read (parts.version, cut_written parts.folders parts.links)

-- the cut and the rows that the tree of a check document says, or the fault for which it is refused
abbrev pub check_of_tree : Data → Reading (CutParts × List Row)
check_of_tree tree = reading_of_tree tree >>= λ parts. Read (cut_written parts.folders parts.links, map row_written parts.certificate)
