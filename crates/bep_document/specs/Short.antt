-- The files of what is read are as short as those of a document of its version (this project's profile).
use Rattle.std.specs.Prelude.{◌≡◌, ◌≤◌, ℕ, List, length}
use Rattle.std.specs.List.{AllByRecursion}
use Rattle.bep_record.specs.declared.entry.Entry.{Entry}
use Rattle.bep_json.specs.declared.nodes.NamedParts.{NamedParts}
use Rattle.bep_json.specs.declared.version.DocVersion.{DocVersion}
use Rattle.bep_json.specs.Version.{most_file_bytes}
use Rattle.bep_document.specs.Reading.{Read, reading_of_cut_document}
use Rattle.bep_document.specs.declared.parts.ShareParts.{ShareParts}
use Rattle.bep_document.specs.declared.parts.ViewParts.{ViewParts}
use Rattle.bep_document.specs.declared.parts.FolderParts.{FolderParts}
use Rattle.bep_document.specs.declared.parts.FlightParts.{FlightParts}
use Rattle.bep_document.specs.declared.parts.LinkParts.{LinkParts}
use Rattle.bep_document.specs.declared.parts.CheckParts.{CheckParts}

-- the files of these records are
abbrev pub AreShort : DocVersion → List Entry → Type 0
AreShort version = AllByRecursion (λ entry. entry.size ≤ most_file_bytes version)

-- those of these nodes are
abbrev pub AreNodesShort : DocVersion → List NamedParts → Type 0
AreNodesShort version = AllByRecursion (λ node. length node.parts.bytes ≤ most_file_bytes version)

-- those of a view are
abbrev pub IsViewShort : DocVersion → ViewParts → Type 0
IsViewShort version view = AreShort version view.records

-- those of what a device has of a folder are
pub record IsShareShort (version : DocVersion) (share : ShareParts) : Type 0 where
  pub own : AreShort version share.own
  pub store : AreNodesShort version share.store
  pub views : AllByRecursion (IsViewShort version) share.views
  pub pulls : AreShort version share.pulls

-- those of a folder are
abbrev pub IsFolderShort : DocVersion → FolderParts → Type 0
IsFolderShort version folder = AllByRecursion (IsShareShort version) folder.devices

-- those of a message are
abbrev pub IsFlightShort : DocVersion → FlightParts → Type 0
IsFlightShort version flight = AreShort version flight.records

-- those on their way over a link are
pub record IsLinkShort (version : DocVersion) (link : LinkParts) : Type 0 where
  pub to_a : AllByRecursion (IsFlightShort version) link.to_a
  pub to_b : AllByRecursion (IsFlightShort version) link.to_b

-- those of a cut are
pub record IsCutShort (version : DocVersion) (folders : List FolderParts) (links : List LinkParts) : Type 0 where
  pub each_folder : AllByRecursion (IsFolderShort version) folders
  pub each_link : AllByRecursion (IsLinkShort version) links

-- the cut of a document is, in its version
abbrev pub CutsOfDocumentsAreShort : Type 0
CutsOfDocumentsAreShort = (bytes : List ℕ) (parts : CheckParts) → reading_of_cut_document bytes ≡ Read parts → IsCutShort parts.version parts.folders parts.links
