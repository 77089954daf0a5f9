-- No fault is found where each view and each message is of what is shared.
use Rattle.std.proofs.Common.{◌≡◌, ◌≢◌, ℕ, ◌==◌, ◌&&◌, ◌||◌, Bool, nat_eq, not, true, false, List, [], None, refl, ap, ◌∙◌}
use Rattle.std.specs.List.{AllByRecursion}
use Rattle.std.specs.Cmp.Lexicographic.{pointwise, bytes_decides}
use Rattle.std.proofs.lemmas.Bool.Decides.{Decides-eqb}
use Rattle.bep_json.specs.Says.{both_are}
use Rattle.bep_document.specs.declared.fault.Fault.TheVariants.{Unshared}
use Rattle.bep_document.specs.declared.parts.ShareParts.{ShareParts}
use Rattle.bep_document.specs.declared.parts.ViewParts.{ViewParts}
use Rattle.bep_document.specs.declared.parts.FolderParts.{FolderParts}
use Rattle.bep_document.specs.declared.parts.FlightParts.{FlightParts}
use Rattle.bep_document.specs.declared.parts.LinkParts.{LinkParts}
use Rattle.bep_document.specs.declared.parts.CheckParts.{CheckParts}
use Rattle.bep_document.specs.Fault.{at_device}
use Rattle.bep_document.specs.faults.Judge.{first_in}
use Rattle.bep_document.specs.faults.Unshared.{has_device, shares, bad_view, bad_flight, unshared_at_share, unshared_at_folder, unshared_at_link, first_unshared}
use Rattle.bep_document.specs.faults.Links.{is_device}
use Rattle.bep_document.specs.Faultless.{IsSharedBy, IsOfAnother, IsDeviceOf, SharesFolder}
use Rattle.bep_document.proofs.faults.Flights.{AllFlights}
use Rattle.bep_document.proofs.faults.UnsharedFacts.{AreOfOthers, IsOfBoth, HasAllShared}
use Rattle.bep_document.proofs.faultless.NoneFound.{none_of_both, none_where_fails, none_where_passes, passes_some, none_in_all}

-- ---- devices
device_found : (folder : FolderParts) (device : ℕ) → IsSharedBy device folder → has_device device folder.devices ≡ true
device_found folder device shared = passes_some (λ (share : ShareParts). share.device == device) (λ share is. (Decides-eqb share.device device).1 is) folder.devices shared

folder_found : (folders : List FolderParts) (name : List ℕ) (device : ℕ) → SharesFolder folders name device → shares folders name device ≡ true
folder_found folders name device shared =
    passes_some (λ (folder : FolderParts). pointwise nat_eq folder.folder name && has_device device folder.devices)
    (λ folder is. both_are ((bytes_decides folder.folder name).1 is.0) (device_found folder device is.1))
    folders shared

pub some_device_found : (folders : List FolderParts) (device : ℕ) → IsDeviceOf folders device → is_device folders device ≡ true
some_device_found folders device shared = passes_some (λ (folder : FolderParts). has_device device folder.devices) (λ folder is. device_found folder device is) folders shared

-- ---- views
not_equal : (a b : ℕ) → a ≢ b → a == b ≡ false
not_equal a b differ = cases (a == b) refl where
  cases : (c : Bool) → a == b ≡ c → c ≡ false
  cases true is = absurd (differ ((Decides-eqb a b).0 is))
  cases false is = refl

neither_told : (a b : Bool) → a ≡ false → b ≡ true → (a || not b) ≡ false
neither_told a b first second = ap (λ c. c || not b) first ∙ ap not second

none_at_view : (folder : FolderParts) (share : ShareParts) (earlier : List ViewParts) (view : ViewParts) → IsOfAnother folder share view → bad_view folder.folder folder.devices share.device earlier view ≡ None
none_at_view folder share earlier view another =
    none_where_fails ((view.of == share.device) || not (has_device view.of folder.devices)) (at_device Unshared folder.folder share.device)
    (neither_told (view.of == share.device) (has_device view.of folder.devices) (not_equal view.of share.device another.0) (device_found folder view.of another.1))

none_at_share : (folder : FolderParts) (earlier : List ShareParts) (share : ShareParts) → AllByRecursion (IsOfAnother folder share) share.views → unshared_at_share folder.folder folder.devices earlier share ≡ None
unfolding unshared_at_share
none_at_share folder earlier share others =
    none_in_all (bad_view folder.folder folder.devices share.device) (IsOfAnother folder share) (none_at_view folder share) [] share.views others

none_at_folder : (earlier : List FolderParts) (folder : FolderParts) → AreOfOthers folder → unshared_at_folder earlier folder ≡ None
unfolding unshared_at_folder
none_at_folder earlier folder others =
    none_in_all (unshared_at_share folder.folder folder.devices) (λ share. AllByRecursion (IsOfAnother folder share) share.views) (none_at_share folder) [] folder.devices others

-- ---- messages
none_at_flight : (folders : List FolderParts) (link : LinkParts) (device : ℕ) (earlier : List FlightParts) (flight : FlightParts) → IsOfBoth folders link flight → bad_flight folders link device earlier flight ≡ None
none_at_flight folders link device earlier flight both =
    none_where_passes (shares folders flight.folder link.a && shares folders flight.folder link.b) (at_device Unshared flight.folder device)
    (both_are (folder_found folders flight.folder link.a both.0) (folder_found folders flight.folder link.b both.1))

none_at_link : (folders : List FolderParts) (earlier : List LinkParts) (link : LinkParts) → AllFlights (IsOfBoth folders link) link → unshared_at_link folders earlier link ≡ None
unfolding unshared_at_link
none_at_link folders earlier link both =
    none_of_both (first_in (bad_flight folders link link.a) [] link.to_a) (first_in (bad_flight folders link link.b) [] link.to_b)
    (none_in_all (bad_flight folders link link.a) (IsOfBoth folders link) (none_at_flight folders link link.a) [] link.to_a both.0)
    (none_in_all (bad_flight folders link link.b) (IsOfBoth folders link) (none_at_flight folders link link.b) [] link.to_b both.1)

-- ---- the whole
pub none_unshared : (parts : CheckParts) → HasAllShared parts → first_unshared parts ≡ None
unfolding first_unshared
none_unshared parts shared =
    none_of_both (first_in unshared_at_folder [] parts.folders) (first_in (unshared_at_link parts.folders) [] parts.links)
    (none_in_all unshared_at_folder AreOfOthers none_at_folder [] parts.folders shared.each_folder)
    (none_in_all (unshared_at_link parts.folders) (λ link. AllFlights (IsOfBoth parts.folders link) link) (none_at_link parts.folders) [] parts.links shared.each_link)
