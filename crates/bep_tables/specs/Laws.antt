-- What a cut says of its folders and devices; the functions of src/laws.rt have these as contracts.
use Rattle.std.specs.Prelude.{◌≡◌, ◌⊎◌, ◌↔◌, IsTrue, Some, Contains}
use Rattle.std.specs.FinMap.{get, contains_key}
use Rattle.bep_record.specs.declared.entry.Entry.{Entry}
use Rattle.bep_record.specs.declared.folder_kind.FolderKind.{FolderKind}
use Rattle.bep_model.specs.declared.flight.Flight.{Flight}
use Rattle.bep_model.specs.Tables.{Device, Folder, FileName, Shares, SharesAs}
use Rattle.bep_model.specs.Foreign.{IsViewed, IsFlying, IsKnown, IsFinite}
use Rattle.bep_tables.specs.declared.share.Share.{Share}
use Rattle.bep_tables.specs.declared.share.PeerView.{PeerView}
use Rattle.bep_tables.specs.declared.share.SharedFolder.{SharedFolder}
use Rattle.bep_tables.specs.declared.link.LinkState.{LinkState}
use Rattle.bep_tables.specs.declared.cut.CutParts.{CutParts}
use Rattle.bep_tables.specs.Cut.{IsCut, shares_of, tables_of}
use Rattle.bep_tables.specs.Names.{known_names}

-- each folder's shares are found by its name
abbrev pub FolderIsFound : Type 0
FolderIsFound =
    (cut : CutParts) (shared : SharedFolder) → IsCut cut → Contains cut.folders shared → shares_of shared.folder cut.folders ≡ shared.shares

-- what shares a folder is a device of one of the cut's folders, which has that name
abbrev pub ShareHasFolder : Type 0
ShareHasFolder =
    (cut : CutParts) (folder : Folder) (share : Share) → Contains (shares_of folder cut.folders) share →
    (shared : SharedFolder) × Contains cut.folders shared × (shared.folder ≡ folder)

-- the devices that share a folder are those of its shares
abbrev pub SharingIsSaid : Type 0
SharingIsSaid =
    (cut : CutParts) (folder : Folder) (device : Device) (kind : FolderKind) →
    SharesAs (tables_of cut) device folder kind
    ↔ ((share : Share) × Contains (shares_of folder cut.folders) share × (share.device ≡ device) × (share.kind ≡ kind))

-- a device's own record and node of a name are those of its share
abbrev pub OwnIsSaid : Type 0
OwnIsSaid =
    (cut : CutParts) (folder : Folder) (name : FileName) (share : Share) → IsCut cut → Contains (shares_of folder cut.folders) share →
    (tables_of cut).own share.device folder name ≡ get share.own name

abbrev pub NodeIsSaid : Type 0
NodeIsSaid =
    (cut : CutParts) (folder : Folder) (name : FileName) (share : Share) → IsCut cut → Contains (shares_of folder cut.folders) share →
    (tables_of cut).node share.device folder name ≡ get share.store name

-- what a device knows of other devices' records of a name is what its views have
abbrev pub ViewedIsSaid : Type 0
ViewedIsSaid =
    (cut : CutParts) (folder : Folder) (name : FileName) (entry : Entry) (share : Share) → IsCut cut →
    Contains (shares_of folder cut.folders) share →
    IsViewed (tables_of cut) share.device folder name entry
    ↔ ((view : PeerView) × Contains share.views view × (get view.records name ≡ Some entry))

-- what a device pulls of a name is the pull of its share
abbrev pub TargetIsSaid : Type 0
TargetIsSaid =
    (cut : CutParts) (folder : Folder) (name : FileName) (share : Share) → IsCut cut → Contains (shares_of folder cut.folders) share →
    (tables_of cut).target share.device folder name ≡ get share.pulls name

-- the message is on its way to the device over this link
abbrev pub Carries : LinkState → Device → Flight → Type 0
Carries link device flight =
    ((link.a ≡ device) × Contains link.to_a flight) ⊎ ((link.b ≡ device) × Contains link.to_b flight)

-- a record of this folder and name that a message has
abbrev pub HasRecord : Flight → Folder → FileName → Entry → Type 0
HasRecord flight folder name entry =
    (flight.folder ≡ folder) × Contains flight.records entry × (entry.name ≡ name)

-- what is on its way to a device is what the links carry to it
abbrev pub FlyingIsSaid : Type 0
FlyingIsSaid =
    (cut : CutParts) (device : Device) (folder : Folder) (name : FileName) (entry : Entry) → IsCut cut →
    IsFlying (tables_of cut) device folder name entry
    ↔ ((link : LinkState) × (flight : Flight) × Contains cut.links link × Carries link device flight × HasRecord flight folder name entry)

-- what is on its way over a link goes to devices that share its folder
abbrev pub ReceiverShares : Type 0
ReceiverShares =
    (cut : CutParts) (link : LinkState) (device : Device) (flight : Flight) → IsCut cut → Contains cut.links link → Carries link device flight →
    Shares (tables_of cut) device flight.folder

-- the tables of a cut are what its folders and devices have
pub record CutSays : Type 0 where
  pub found : FolderIsFound
  pub has_folder : ShareHasFolder
  pub sharing : SharingIsSaid
  pub own : OwnIsSaid
  pub node : NodeIsSaid
  pub viewed : ViewedIsSaid
  pub target : TargetIsSaid
  pub flying : FlyingIsSaid
  pub receiver : ReceiverShares

-- the names that are known in a folder
abbrev pub NamesAreKnown : Type 0
NamesAreKnown =
    (cut : CutParts) (folder : Folder) (name : FileName) → IsCut cut →
    IsTrue (contains_key (known_names cut folder) name) ↔ IsKnown (tables_of cut) folder name

-- only finitely many names are known in a cut, and only finitely many devices viewed
abbrev pub CutIsFinite : Type 0
CutIsFinite = (cut : CutParts) → IsCut cut → IsFinite (tables_of cut)
