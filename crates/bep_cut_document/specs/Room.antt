-- Which cuts and rows a document of a version has room for, by the lengths of their files (this project's profile).
use Rattle.std.specs.Prelude.{◌≡◌, ◌≤◌, ℕ, List, Contains, length, ⊤}
use Rattle.std.specs.FinMap.{entries, values}
use Rattle.std.specs.List.{AllByRecursion}
use Rattle.bep_record.specs.declared.entry.Entry.{Entry}
use Rattle.bep_record.specs.declared.node.NodeParts.{NodeParts}
use Rattle.bep_map.specs.NameMap.{ByName}
use Rattle.bep_json.specs.declared.version.DocVersion.{DocVersion}
use Rattle.bep_json.specs.declared.version.DocVersion.TheVariants.{One, Two}
use Rattle.bep_json.specs.Version.{most_file_bytes}
use Rattle.bep_model.specs.declared.flight.Flight.{Flight}
use Rattle.bep_model.specs.declared.row.Row.{Row}
use Rattle.bep_model.specs.Winner.{IsWinner}
use Rattle.bep_tables.specs.declared.share.Share.{Share}
use Rattle.bep_tables.specs.declared.share.PeerView.{PeerView}
use Rattle.bep_tables.specs.declared.share.SharedFolder.{SharedFolder}
use Rattle.bep_tables.specs.declared.link.LinkState.{LinkState}
use Rattle.bep_tables.specs.declared.cut.CutParts.{CutParts}
use Rattle.bep_tables.specs.Cut.{tables_of}
use Rattle.bep_document.specs.Reading.{Read}
use Rattle.bep_cut_document.specs.Written.{cut_of_document}

-- the files of these records are as short as those of a document of this version
abbrev pub AreShort : DocVersion → List Entry → Type 0
AreShort version = AllByRecursion (λ entry. entry.size ≤ most_file_bytes version)

-- those of a store are
abbrev pub AreNodesShort : DocVersion → ByName NodeParts → Type 0
AreNodesShort version nodes = AllByRecursion (λ held. length held.1.bytes ≤ most_file_bytes version) (entries nodes)

-- those of a view are
abbrev pub IsViewShort : DocVersion → PeerView → Type 0
IsViewShort version view = AreShort version (values view.records)

-- those of what a device has of a folder are
pub record IsShareShort (version : DocVersion) (share : Share) : Type 0 where
  pub own : AreShort version (values share.own)
  pub store : AreNodesShort version share.store
  pub views : AllByRecursion (IsViewShort version) share.views
  pub pulls : AreShort version (values share.pulls)

-- those of a folder are
abbrev pub IsFolderShort : DocVersion → SharedFolder → Type 0
IsFolderShort version shared = AllByRecursion (IsShareShort version) shared.shares

-- those of a message are
abbrev pub IsFlightShort : DocVersion → Flight → Type 0
IsFlightShort version flight = AreShort version flight.records

-- those on their way over a link are
pub record IsLinkShort (version : DocVersion) (link : LinkState) : Type 0 where
  pub to_a : AllByRecursion (IsFlightShort version) link.to_a
  pub to_b : AllByRecursion (IsFlightShort version) link.to_b

-- those of a cut are
pub record IsCutShort (version : DocVersion) (cut : CutParts) : Type 0 where
  pub folders : AllByRecursion (IsFolderShort version) cut.folders
  pub links : AllByRecursion (IsLinkShort version) cut.links

-- those of the rows' records are
abbrev pub AreRowsShort : DocVersion → List Row → Type 0
AreRowsShort version = AllByRecursion (λ row. row.entry.size ≤ most_file_bytes version)

-- a document of this version has room for the cut: one of version 2 has for each
abbrev pub HasRoom : DocVersion → CutParts → Type 0
HasRoom One cut = IsCutShort One cut
HasRoom Two cut = ⊤

-- it has room for the rows
abbrev pub HasRoomForRows : DocVersion → List Row → Type 0
HasRoomForRows One rows = AreRowsShort One rows
HasRoomForRows Two rows = ⊤

-- where it has room for the cut, it has for all rows that hold their names' winners
abbrev pub WinnersHaveRoom : CutParts → Type 0
WinnersHaveRoom cut = (version : DocVersion) (rows : List Row) → HasRoom version cut →
    ((row : Row) → Contains rows row → IsWinner (tables_of cut) row.folder row.entry.name (row.device, row.entry)) → HasRoomForRows version rows

-- a document's version has room for the cut that is read of it
abbrev pub CutsOfDocumentsHaveRoom : Type 0
CutsOfDocumentsHaveRoom = (bytes : List ℕ) (said : DocVersion × CutParts) → cut_of_document bytes ≡ Read said → HasRoom said.0 said.1
