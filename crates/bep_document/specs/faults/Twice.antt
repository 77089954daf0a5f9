-- What stands twice in a document; the later one is at fault (this project's profile).
use Rattle.std.specs.Prelude.{ℕ, nat_eq, ◌==◌, ◌&&◌, List, [], Option, Some, None, if◌then◌else◌}
use Rattle.std.specs.List.{list_any}
use Rattle.std.specs.Cmp.Lexicographic.{pointwise}
use Rattle.bep_record.specs.declared.entry.Entry.{Entry}
use Rattle.bep_document.specs.declared.fault.DocFault.{DocFault}
use Rattle.bep_document.specs.declared.fault.Fault.TheVariants.{Twice}
use Rattle.bep_document.specs.declared.parts.ShareParts.{ShareParts}
use Rattle.bep_document.specs.declared.parts.FolderParts.{FolderParts}
use Rattle.bep_document.specs.declared.parts.ViewParts.{ViewParts}
use Rattle.bep_document.specs.declared.parts.FlightParts.{FlightParts}
use Rattle.bep_document.specs.declared.parts.LinkParts.{LinkParts}
use Rattle.bep_document.specs.declared.parts.CheckParts.{CheckParts}
use Rattle.bep_document.specs.Fault.{at_folder, at_device, at_name, at_link}
use Rattle.bep_document.specs.faults.Judge.{◌else_at◌, first_in}
use Rattle.bep_document.specs.faults.Walks.{at_shares, on_link}

-- the item's name is that of an earlier one
abbrev pub name_again : {A : Type 0} → (A → List ℕ) → List ℕ → ℕ → List A → A → Option DocFault
name_again name_in folder device earlier item =
    if list_any (λ known. pointwise nat_eq (name_in known) (name_in item)) earlier then Some (at_name Twice folder device (name_in item)) else None

-- the device shares the folder already
abbrev pub device_again : List ℕ → List ShareParts → ShareParts → Option DocFault
device_again folder earlier share =
    if list_any (λ known. known.device == share.device) earlier then Some (at_device Twice folder share.device) else None

-- the folder is there already
abbrev pub folder_again : List FolderParts → FolderParts → Option DocFault
folder_again earlier folder =
    if list_any (λ known. pointwise nat_eq known.folder folder.folder) earlier then Some (at_folder Twice folder.folder) else None

-- the device has a view of this device already
abbrev pub view_again : List ℕ → ℕ → List ViewParts → ViewParts → Option DocFault
view_again folder device earlier view =
    if list_any (λ known. known.of == view.of) earlier then Some (at_device Twice folder device) else None

-- the link is there already, with its ends in the same order
abbrev pub link_again : List LinkParts → LinkParts → Option DocFault
link_again earlier link =
    if list_any (λ known. (known.a == link.a) && (known.b == link.b)) earlier then Some (at_link Twice link.a) else None

-- a name stands twice among a device's records
abbrev pub twice_in_records : List ℕ → ℕ → List Entry → Option DocFault
twice_in_records folder device entries = first_in (name_again (λ entry. entry.name) folder device) [] entries

-- what stands twice at a view: the view itself, or a name in it
unfoldable pub twice_at_view : List ℕ → ℕ → List ViewParts → ViewParts → Option DocFault
twice_at_view folder device earlier view =
    view_again folder device earlier view else_at twice_in_records folder device view.records

-- what stands twice at a device: the device itself, a name among its records, in its store, in a view, among its pulls
unfoldable pub twice_at_share : List ℕ → List ShareParts → ShareParts → Option DocFault
twice_at_share folder earlier share =
    device_again folder earlier share
    else_at (twice_in_records folder share.device share.own
    else_at (first_in (name_again (λ node. node.name) folder share.device) [] share.store
    else_at (first_in (twice_at_view folder share.device) [] share.views
    else_at twice_in_records folder share.device share.pulls)))

-- what stands twice at a folder: the folder itself, or something at one of its devices
unfoldable pub twice_at_folder : List FolderParts → FolderParts → Option DocFault
twice_at_folder earlier folder =
    folder_again earlier folder else_at at_shares (λ f. twice_at_share f.folder) earlier folder

-- a name stands twice in what is on its way to the device
abbrev pub twice_in_flight : ℕ → List FlightParts → FlightParts → Option DocFault
twice_in_flight device earlier flight = twice_in_records flight.folder device flight.records

-- what stands twice at a link: the link itself, or a name in what is on its way
unfoldable pub twice_at_link : List LinkParts → LinkParts → Option DocFault
twice_at_link earlier link = link_again earlier link else_at on_link (λ _. twice_in_flight) earlier link

-- what stands twice in the folders, or else among the links
unfoldable pub first_twice : CheckParts → Option DocFault
first_twice parts = first_in twice_at_folder [] parts.folders else_at first_in twice_at_link [] parts.links
