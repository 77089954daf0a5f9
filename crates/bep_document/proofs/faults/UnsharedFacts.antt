-- What follows where each view and each message is of what is shared.
use Rattle.std.proofs.Common.{◌≡◌, ℕ, ◌==◌, ◌&&◌, nat_eq, true, List, [], None}
use Rattle.std.specs.List.{AllByRecursion}
use Rattle.std.specs.Cmp.Lexicographic.{pointwise, bytes_decides}
use Rattle.std.proofs.lemmas.Bool.{eqb-true, eqb-false, not-false}
use Rattle.bep_document.specs.declared.fault.Fault.TheVariants.{Unshared}
use Rattle.bep_document.specs.declared.parts.ShareParts.{ShareParts}
use Rattle.bep_document.specs.declared.parts.ViewParts.{ViewParts}
use Rattle.bep_document.specs.declared.parts.FolderParts.{FolderParts}
use Rattle.bep_document.specs.declared.parts.FlightParts.{FlightParts}
use Rattle.bep_document.specs.declared.parts.LinkParts.{LinkParts}
use Rattle.bep_document.specs.declared.parts.CheckParts.{CheckParts}
use Rattle.bep_document.specs.Fault.{at_device}
use Rattle.bep_document.specs.faults.Judge.{first_in}
use Rattle.bep_document.specs.faults.Unshared.{has_device, shares, bad_view, bad_flight, unshared_at_share, unshared_at_folder, unshared_at_link, first_unshared}
use Rattle.bep_document.specs.faults.Links.{is_device}
use Rattle.bep_document.specs.Faultless.{IsSharedBy, IsOfAnother, IsDeviceOf, SharesFolder}
use Rattle.bep_document.proofs.BoolFacts.{both_true, both_false, some_passes}
use Rattle.bep_document.proofs.faults.Flights.{AllFlights, flights_where_none}
use Rattle.bep_document.proofs.faults.NoFault.{neither, fails_where_none, passes_where_none, all_where_none}

-- ---- devices
device_shares : (folder : FolderParts) (device : ℕ) → has_device device folder.devices ≡ true → IsSharedBy device folder
device_shares folder device e = some_passes (λ share. share.device == device) (λ share is. eqb-true share.device device is) folder.devices e

shares_named : (folders : List FolderParts) (name : List ℕ) (device : ℕ) → shares folders name device ≡ true → SharesFolder folders name device
shares_named folders name device e = some_passes (λ folder. pointwise nat_eq folder.folder name && has_device device folder.devices) told folders e where
  told : (folder : FolderParts) → (pointwise nat_eq folder.folder name && has_device device folder.devices) ≡ true → (folder.folder ≡ name) × IsSharedBy device folder
  told folder both =
      let parts = both_true (pointwise nat_eq folder.folder name) (has_device device folder.devices) both in
      ((bytes_decides folder.folder name).0 parts.0, device_shares folder device parts.1)

pub has_some_device : (folders : List FolderParts) (device : ℕ) → is_device folders device ≡ true → IsDeviceOf folders device
has_some_device folders device e = some_passes (λ folder. has_device device folder.devices) (λ folder has. device_shares folder device has) folders e

-- ---- views
view_of_another : (folder : FolderParts) (share : ShareParts) (earlier : List ViewParts) (view : ViewParts) → bad_view folder.folder folder.devices share.device earlier view ≡ None → IsOfAnother folder share view
view_of_another folder share earlier view none =
    let good = both_false (view.of == share.device) _ (fails_where_none _ (at_device Unshared folder.folder share.device) none) in
    (eqb-false view.of share.device good.0, device_shares folder view.of (not-false (has_device view.of folder.devices) good.1))

views_of_others : (folder : FolderParts) (earlier : List ShareParts) (share : ShareParts) → unshared_at_share folder.folder folder.devices earlier share ≡ None → AllByRecursion (IsOfAnother folder share) share.views
unfolding unshared_at_share
views_of_others folder earlier share none =
    all_where_none (bad_view folder.folder folder.devices share.device) (IsOfAnother folder share) (view_of_another folder share) [] share.views none

-- each view in a folder is of another device that shares it
abbrev pub AreOfOthers : FolderParts → Type 0
AreOfOthers folder = AllByRecursion (λ share. AllByRecursion (IsOfAnother folder share) share.views) folder.devices

views_in_folder : (earlier : List FolderParts) (folder : FolderParts) → unshared_at_folder earlier folder ≡ None → AreOfOthers folder
unfolding unshared_at_folder
views_in_folder earlier folder none =
    all_where_none (unshared_at_share folder.folder folder.devices) (λ share. AllByRecursion (IsOfAnother folder share) share.views) (views_of_others folder) [] folder.devices none

-- ---- messages
-- a message of a folder that both ends of its link share
abbrev pub IsOfBoth : List FolderParts → LinkParts → FlightParts → Type 0
IsOfBoth folders link flight = SharesFolder folders flight.folder link.a × SharesFolder folders flight.folder link.b

flight_of_both : (folders : List FolderParts) (link : LinkParts) (device : ℕ) (earlier : List FlightParts) (flight : FlightParts) → bad_flight folders link device earlier flight ≡ None → IsOfBoth folders link flight
flight_of_both folders link device earlier flight none =
    let both = both_true (shares folders flight.folder link.a) _ (passes_where_none _ (at_device Unshared flight.folder device) none) in
    (shares_named folders flight.folder link.a both.0, shares_named folders flight.folder link.b both.1)

flights_of_both : (folders : List FolderParts) (earlier : List LinkParts) (link : LinkParts) → unshared_at_link folders earlier link ≡ None → AllFlights (IsOfBoth folders link) link
unfolding unshared_at_link
flights_of_both folders earlier link none =
    flights_where_none (bad_flight folders link) (IsOfBoth folders link) (flight_of_both folders link) link none

-- ---- the whole
-- views and messages are of what is shared
pub record HasAllShared (parts : CheckParts) : Type 0 where
  pub each_folder : AllByRecursion AreOfOthers parts.folders
  pub each_link : AllByRecursion (λ link. AllFlights (IsOfBoth parts.folders link) link) parts.links

pub all_shared : (parts : CheckParts) → first_unshared parts ≡ None → HasAllShared parts
unfolding first_unshared
all_shared parts none =
    let both = neither (first_in unshared_at_folder [] parts.folders) (first_in (unshared_at_link parts.folders) [] parts.links) none in
    record {
      each_folder = all_where_none unshared_at_folder AreOfOthers views_in_folder [] parts.folders both.0;
      each_link = all_where_none (unshared_at_link parts.folders) (λ link. AllFlights (IsOfBoth parts.folders link) link) (flights_of_both parts.folders) [] parts.links both.1;
    }
