-- Views of devices, and messages of folders, that aren't shared (this project's profile).
use Rattle.std.specs.Prelude.{ℕ, nat_eq, ◌==◌, ◌&&◌, ◌||◌, not, Bool, List, [], Option, Some, None, if◌then◌else◌}
use Rattle.std.specs.List.{list_any}
use Rattle.std.specs.Cmp.Lexicographic.{pointwise}
use Rattle.bep_document.specs.declared.fault.DocFault.{DocFault}
use Rattle.bep_document.specs.declared.fault.Fault.TheVariants.{Unshared}
use Rattle.bep_document.specs.declared.parts.ShareParts.{ShareParts}
use Rattle.bep_document.specs.declared.parts.ViewParts.{ViewParts}
use Rattle.bep_document.specs.declared.parts.FolderParts.{FolderParts}
use Rattle.bep_document.specs.declared.parts.FlightParts.{FlightParts}
use Rattle.bep_document.specs.declared.parts.LinkParts.{LinkParts}
use Rattle.bep_document.specs.declared.parts.CheckParts.{CheckParts}
use Rattle.bep_document.specs.Fault.{at_device}
use Rattle.bep_document.specs.faults.Judge.{◌else_at◌, first_in}
use Rattle.bep_document.specs.faults.Walks.{at_shares, on_link}

-- one of these is the device
abbrev pub has_device : ℕ → List ShareParts → Bool
has_device device shares = list_any (λ share. share.device == device) shares

-- the device shares the folder
abbrev pub shares : List FolderParts → List ℕ → ℕ → Bool
shares folders name device = list_any (λ folder. pointwise nat_eq folder.folder name && has_device device folder.devices) folders

-- the view is of the device itself, or of one that doesn't share the folder
abbrev pub bad_view : List ℕ → List ShareParts → ℕ → List ViewParts → ViewParts → Option DocFault
bad_view folder devices device earlier view =
    if (view.of == device) || not (has_device view.of devices) then Some (at_device Unshared folder device) else None

-- such a view of a device
unfoldable pub unshared_at_share : List ℕ → List ShareParts → List ShareParts → ShareParts → Option DocFault
unshared_at_share folder devices earlier share = first_in (bad_view folder devices share.device) [] share.views

-- such a view at a folder
unfoldable pub unshared_at_folder : List FolderParts → FolderParts → Option DocFault
unshared_at_folder = at_shares (λ folder. unshared_at_share folder.folder folder.devices)

-- what is on its way to the device is of a folder that the ends of the link don't both share
abbrev pub bad_flight : List FolderParts → LinkParts → ℕ → List FlightParts → FlightParts → Option DocFault
bad_flight folders link device earlier flight =
    if shares folders flight.folder link.a && shares folders flight.folder link.b then None else Some (at_device Unshared flight.folder device)

-- such a message on a link
unfoldable pub unshared_at_link : List FolderParts → List LinkParts → LinkParts → Option DocFault
unshared_at_link folders = on_link (bad_flight folders)

-- such a view in the folders, or else such a message on the links
unfoldable pub first_unshared : CheckParts → Option DocFault
first_unshared parts =
    first_in unshared_at_folder [] parts.folders else_at first_in (unshared_at_link parts.folders) [] parts.links
