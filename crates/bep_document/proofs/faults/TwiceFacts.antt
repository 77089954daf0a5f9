-- What follows where nothing stands twice.
use Rattle.std.proofs.Common.{◌≡◌, ℕ, ◌==◌, ◌&&◌, nat_eq, false, List, [], ◌∷◌, None}
use Rattle.std.specs.List.{list_any, AllByRecursion}
use Rattle.std.specs.Cmp.Lexicographic.{pointwise, bytes_decides}
use Rattle.std.proofs.lemmas.Bool.Decides.{Decides-eqb}
use Rattle.bep_index.specs.Batch.{HasNo, NamesDiffer}
use Rattle.bep_json.specs.declared.nodes.NamedParts.{NamedParts}
use Rattle.bep_record.specs.declared.entry.Entry.{Entry}
use Rattle.bep_document.specs.declared.fault.Fault.TheVariants.{Twice}
use Rattle.bep_document.specs.declared.parts.ShareParts.{ShareParts}
use Rattle.bep_document.specs.declared.parts.ViewParts.{ViewParts}
use Rattle.bep_document.specs.declared.parts.FolderParts.{FolderParts}
use Rattle.bep_document.specs.declared.parts.LinkParts.{LinkParts}
use Rattle.bep_document.specs.declared.parts.CheckParts.{CheckParts}
use Rattle.bep_document.specs.Fault.{at_folder, at_device, at_name, at_link}
use Rattle.bep_document.specs.faults.Judge.{first_in}
use Rattle.bep_document.specs.faults.Records.{pair_eq}
use Rattle.bep_document.specs.faults.Twice.{name_again, device_again, folder_again, view_again, link_again, twice_in_records, twice_at_view, twice_at_share, twice_at_folder, twice_in_flight, twice_at_link, first_twice}
use Rattle.bep_document.specs.Faultless.{HasNoKey, KeysDiffer, ends_of}
use Rattle.bep_document.proofs.faults.Flights.{AllFlights, flights_where_none}
use Rattle.bep_document.proofs.faults.NoFault.{neither, fails_where_none, all_where_none, keys_differ}
use Rattle.bep_document.proofs.faults.RecordTests.{pairs_decide}

-- ---- names
has_no_name : (name : List ℕ) (own : List Entry) → HasNoKey (λ e. e.name) name own → HasNo name own
has_no_name name [] none = tt
has_no_name name (entry ∷ more) none = (none.0, has_no_name name more none.1)

names_differ : (own : List Entry) → KeysDiffer (λ e. e.name) own → NamesDiffer own
names_differ [] differ = tt
names_differ (entry ∷ more) differ = (has_no_name entry.name more differ.0, names_differ more differ.1)

-- the names of items among which none stands twice
named_once : {A : Type 0} (name_in : A → List ℕ) (folder : List ℕ) (device : ℕ) (items : List A) → first_in (name_again name_in folder device) [] items ≡ None → KeysDiffer name_in items
named_once name_in folder device items none =
    keys_differ (pointwise nat_eq) bytes_decides name_in (name_again name_in folder device) (λ earlier x e. fails_where_none (list_any (λ known. pointwise nat_eq (name_in known) (name_in x)) earlier) (at_name Twice folder device (name_in x)) e) [] items none

records_once : (folder : List ℕ) (device : ℕ) (entries : List Entry) → twice_in_records folder device entries ≡ None → NamesDiffer entries
records_once folder device entries none = names_differ entries (named_once (λ (e : Entry). e.name) folder device entries none)

-- ---- views
view_is_new : (folder : List ℕ) (device : ℕ) (earlier : List ViewParts) (view : ViewParts) → twice_at_view folder device earlier view ≡ None → list_any (λ known. known.of == view.of) earlier ≡ false
unfolding twice_at_view
view_is_new folder device earlier view none =
    fails_where_none (list_any (λ known. known.of == view.of) earlier) (at_device Twice folder device) (neither (view_again folder device earlier view) _ none).0

once_in_view : (folder : List ℕ) (device : ℕ) (earlier : List ViewParts) (view : ViewParts) → twice_at_view folder device earlier view ≡ None → NamesDiffer view.records
unfolding twice_at_view
once_in_view folder device earlier view none = records_once folder device view.records (neither (view_again folder device earlier view) _ none).1

-- ---- devices
-- what doesn't stand twice at a device
pub record IsOnceAt (share : ShareParts) : Type 0 where
  pub own_names : NamesDiffer share.own
  pub store_names : KeysDiffer (λ node. node.name) share.store
  pub viewed : KeysDiffer (λ view. view.of) share.views
  pub view_names : AllByRecursion (λ view. NamesDiffer view.records) share.views
  pub pull_names : NamesDiffer share.pulls

once_at_share : (folder : List ℕ) (earlier : List ShareParts) (share : ShareParts) → twice_at_share folder earlier share ≡ None → IsOnceAt share
unfolding twice_at_share
once_at_share folder earlier share none =
    let device = neither (device_again folder earlier share) _ none in
    let own = neither (twice_in_records folder share.device share.own) _ device.1 in
    let store = neither (first_in (name_again (λ (node : NamedParts). node.name) folder share.device) [] share.store) _ own.1 in
    let rest = neither (first_in (twice_at_view folder share.device) [] share.views) (twice_in_records folder share.device share.pulls) store.1 in
    record {
      own_names = records_once folder share.device share.own own.0;
      store_names = named_once (λ (node : NamedParts). node.name) folder share.device share.store store.0;
      viewed = keys_differ (λ a b. a == b) Decides-eqb (λ view. view.of) (twice_at_view folder share.device) (view_is_new folder share.device) [] share.views rest.0;
      view_names = all_where_none (twice_at_view folder share.device) (λ view. NamesDiffer view.records) (once_in_view folder share.device) [] share.views rest.0;
      pull_names = records_once folder share.device share.pulls rest.1;
    }

device_is_new : (folder : List ℕ) (earlier : List ShareParts) (share : ShareParts) → twice_at_share folder earlier share ≡ None → list_any (λ known. known.device == share.device) earlier ≡ false
unfolding twice_at_share
device_is_new folder earlier share none =
    fails_where_none (list_any (λ known. known.device == share.device) earlier) (at_device Twice folder share.device) (neither (device_again folder earlier share) _ none).0

-- ---- folders
-- what doesn't stand twice in a folder
pub record IsOnceIn (folder : FolderParts) : Type 0 where
  pub different : KeysDiffer (λ share. share.device) folder.devices
  pub shares : AllByRecursion IsOnceAt folder.devices

once_in_folder : (earlier : List FolderParts) (folder : FolderParts) → twice_at_folder earlier folder ≡ None → IsOnceIn folder
unfolding twice_at_folder
once_in_folder earlier folder none =
    let inside = (neither (folder_again earlier folder) (first_in (twice_at_share folder.folder) [] folder.devices) none).1 in
    record {
      different = keys_differ (λ a b. a == b) Decides-eqb (λ share. share.device) (twice_at_share folder.folder) (device_is_new folder.folder) [] folder.devices inside;
      shares = all_where_none (twice_at_share folder.folder) IsOnceAt (once_at_share folder.folder) [] folder.devices inside;
    }

folder_is_new : (earlier : List FolderParts) (folder : FolderParts) → twice_at_folder earlier folder ≡ None → list_any (λ known. pointwise nat_eq known.folder folder.folder) earlier ≡ false
unfolding twice_at_folder
folder_is_new earlier folder none =
    fails_where_none (list_any (λ known. pointwise nat_eq known.folder folder.folder) earlier) (at_folder Twice folder.folder) (neither (folder_again earlier folder) _ none).0

-- ---- links
once_on_link : (earlier : List LinkParts) (link : LinkParts) → twice_at_link earlier link ≡ None → AllFlights (λ flight. NamesDiffer flight.records) link
unfolding twice_at_link
once_on_link earlier link none =
    flights_where_none twice_in_flight (λ flight. NamesDiffer flight.records) (λ device _ flight e. records_once flight.folder device flight.records e) link (neither (link_again earlier link) _ none).1

link_is_new : (earlier : List LinkParts) (link : LinkParts) → twice_at_link earlier link ≡ None → list_any (λ known. pair_eq (ends_of known) (ends_of link)) earlier ≡ false
unfolding twice_at_link
link_is_new earlier link none =
    fails_where_none (list_any (λ known. (known.a == link.a) && (known.b == link.b)) earlier) (at_link Twice link.a) (neither (link_again earlier link) _ none).0

-- ---- the whole
-- nothing stands twice
pub record HasNothingTwice (parts : CheckParts) : Type 0 where
  pub different_folders : KeysDiffer (λ folder. folder.folder) parts.folders
  pub each_folder : AllByRecursion IsOnceIn parts.folders
  pub different_links : KeysDiffer ends_of parts.links
  pub each_link : AllByRecursion (AllFlights (λ flight. NamesDiffer flight.records)) parts.links

pub nothing_twice : (parts : CheckParts) → first_twice parts ≡ None → HasNothingTwice parts
unfolding first_twice
nothing_twice parts none =
    let both = neither (first_in twice_at_folder [] parts.folders) (first_in twice_at_link [] parts.links) none in
    record {
      different_folders = keys_differ (pointwise nat_eq) bytes_decides (λ folder. folder.folder) twice_at_folder folder_is_new [] parts.folders both.0;
      each_folder = all_where_none twice_at_folder IsOnceIn once_in_folder [] parts.folders both.0;
      different_links = keys_differ pair_eq pairs_decide ends_of twice_at_link link_is_new [] parts.links both.1;
      each_link = all_where_none twice_at_link (AllFlights (λ flight. NamesDiffer flight.records)) once_on_link [] parts.links both.1;
    }
