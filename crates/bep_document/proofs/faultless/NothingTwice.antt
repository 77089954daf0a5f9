-- No fault is found where nothing stands twice.
use Rattle.std.proofs.Common.{◌≡◌, ℕ, ◌==◌, ◌&&◌, nat_eq, false, List, [], ◌∷◌, None}
use Rattle.std.specs.Prelude.{⊤}
use Rattle.std.specs.List.{list_any, AllByRecursion}
use Rattle.std.specs.Cmp.Lexicographic.{pointwise, bytes_decides}
use Rattle.std.proofs.lemmas.Bool.Decides.{Decides-eqb}
use Rattle.bep_index.specs.Batch.{HasNo, NamesDiffer}
use Rattle.bep_json.specs.declared.nodes.NamedParts.{NamedParts}
use Rattle.bep_record.specs.declared.entry.Entry.{Entry}
use Rattle.bep_document.specs.declared.fault.Fault.TheVariants.{Twice}
use Rattle.bep_document.specs.declared.parts.ShareParts.{ShareParts}
use Rattle.bep_document.specs.declared.parts.ViewParts.{ViewParts}
use Rattle.bep_document.specs.declared.parts.FolderParts.{FolderParts}
use Rattle.bep_document.specs.declared.parts.FlightParts.{FlightParts}
use Rattle.bep_document.specs.declared.parts.LinkParts.{LinkParts}
use Rattle.bep_document.specs.declared.parts.CheckParts.{CheckParts}
use Rattle.bep_document.specs.Fault.{at_folder, at_device, at_name, at_link}
use Rattle.bep_document.specs.faults.Judge.{first_in}
use Rattle.bep_document.specs.faults.Records.{pair_eq}
use Rattle.bep_document.specs.faults.Twice.{name_again, device_again, folder_again, view_again, link_again, twice_in_records, twice_at_view, twice_at_share, twice_at_folder, twice_in_flight, twice_at_link, first_twice}
use Rattle.bep_document.specs.Faultless.{HasNoKey, KeysDiffer, ends_of}
use Rattle.bep_document.proofs.faults.Flights.{AllFlights}
use Rattle.bep_document.proofs.faults.RecordTests.{pairs_decide}
use Rattle.bep_document.proofs.faults.TwiceFacts.{IsOnceAt, IsOnceIn, HasNothingTwice}
use Rattle.bep_document.proofs.faultless.NoneFound.{none_of_both, none_where_fails, none_in_all, none_in_different}

-- ---- names
has_no_key : (name : List ℕ) (own : List Entry) → HasNo name own → HasNoKey (λ e. e.name) name own
has_no_key name [] none = tt
has_no_key name (entry ∷ more) none = (none.0, has_no_key name more none.1)

keys_of_names : (own : List Entry) → NamesDiffer own → KeysDiffer (λ e. e.name) own
keys_of_names [] differ = tt
keys_of_names (entry ∷ more) differ = (has_no_key entry.name more differ.0, keys_of_names more differ.1)

all_are : {A : Type 0} (xs : List A) → AllByRecursion (λ _. ⊤) xs
all_are [] = tt
all_are (x ∷ more) = (tt, all_are more)

-- items whose names differ
no_name_again : {A : Type 0} (name_in : A → List ℕ) (folder : List ℕ) (device : ℕ) (items : List A) → KeysDiffer name_in items → first_in (name_again name_in folder device) [] items ≡ None
no_name_again name_in folder device items differ =
    none_in_different (pointwise nat_eq) bytes_decides name_in (name_again name_in folder device) (λ _. ⊤)
    (λ earlier x new _. none_where_fails (list_any (λ known. pointwise nat_eq (name_in known) (name_in x)) earlier) (at_name Twice folder device (name_in x)) new)
    items differ (all_are items)

none_in_records : (folder : List ℕ) (device : ℕ) (entries : List Entry) → NamesDiffer entries → twice_in_records folder device entries ≡ None
none_in_records folder device entries differ = no_name_again (λ (e : Entry). e.name) folder device entries (keys_of_names entries differ)

-- ---- devices
none_at_view : (folder : List ℕ) (device : ℕ) (earlier : List ViewParts) (view : ViewParts) → list_any (λ known. known.of == view.of) earlier ≡ false → NamesDiffer view.records → twice_at_view folder device earlier view ≡ None
unfolding twice_at_view
none_at_view folder device earlier view new names =
    none_of_both (view_again folder device earlier view) (twice_in_records folder device view.records)
    (none_where_fails (list_any (λ known. known.of == view.of) earlier) (at_device Twice folder device) new)
    (none_in_records folder device view.records names)

none_at_share : (folder : List ℕ) (earlier : List ShareParts) (share : ShareParts) → list_any (λ known. known.device == share.device) earlier ≡ false → IsOnceAt share → twice_at_share folder earlier share ≡ None
unfolding twice_at_share
none_at_share folder earlier share new once =
    none_of_both (device_again folder earlier share) _
    (none_where_fails (list_any (λ known. known.device == share.device) earlier) (at_device Twice folder share.device) new)
    (none_of_both (twice_in_records folder share.device share.own) _ (none_in_records folder share.device share.own once.own_names)
    (none_of_both (first_in (name_again (λ (node : NamedParts). node.name) folder share.device) [] share.store) _
    (no_name_again (λ (node : NamedParts). node.name) folder share.device share.store once.store_names)
    (none_of_both (first_in (twice_at_view folder share.device) [] share.views) (twice_in_records folder share.device share.pulls)
    (none_in_different (λ a b. a == b) Decides-eqb (λ (view : ViewParts). view.of) (twice_at_view folder share.device) (λ view. NamesDiffer view.records) (none_at_view folder share.device) share.views once.viewed once.view_names)
    (none_in_records folder share.device share.pulls once.pull_names))))

-- ---- folders and links
none_at_folder : (earlier : List FolderParts) (folder : FolderParts) → list_any (λ known. pointwise nat_eq known.folder folder.folder) earlier ≡ false → IsOnceIn folder → twice_at_folder earlier folder ≡ None
unfolding twice_at_folder
none_at_folder earlier folder new once =
    none_of_both (folder_again earlier folder) _
    (none_where_fails (list_any (λ known. pointwise nat_eq known.folder folder.folder) earlier) (at_folder Twice folder.folder) new)
    (none_in_different (λ a b. a == b) Decides-eqb (λ (share : ShareParts). share.device) (twice_at_share folder.folder) IsOnceAt (none_at_share folder.folder) folder.devices once.different once.shares)

none_at_link : (earlier : List LinkParts) (link : LinkParts) → list_any (λ known. pair_eq (ends_of known) (ends_of link)) earlier ≡ false → AllFlights (λ flight. NamesDiffer flight.records) link → twice_at_link earlier link ≡ None
unfolding twice_at_link
none_at_link earlier link new names =
    none_of_both (link_again earlier link) _
    (none_where_fails (list_any (λ known. (known.a == link.a) && (known.b == link.b)) earlier) (at_link Twice link.a) new)
    (none_of_both (first_in (twice_in_flight link.a) [] link.to_a) (first_in (twice_in_flight link.b) [] link.to_b)
    (none_in_all (twice_in_flight link.a) (λ (flight : FlightParts). NamesDiffer flight.records) (λ _ flight e. none_in_records flight.folder link.a flight.records e) [] link.to_a names.0)
    (none_in_all (twice_in_flight link.b) (λ (flight : FlightParts). NamesDiffer flight.records) (λ _ flight e. none_in_records flight.folder link.b flight.records e) [] link.to_b names.1))

-- ---- the whole
pub none_twice : (parts : CheckParts) → HasNothingTwice parts → first_twice parts ≡ None
unfolding first_twice
none_twice parts once =
    none_of_both (first_in twice_at_folder [] parts.folders) (first_in twice_at_link [] parts.links)
    (none_in_different (pointwise nat_eq) bytes_decides (λ (folder : FolderParts). folder.folder) twice_at_folder IsOnceIn none_at_folder parts.folders once.different_folders once.each_folder)
    (none_in_different pair_eq pairs_decide ends_of twice_at_link (AllFlights (λ flight. NamesDiffer flight.records)) none_at_link parts.links once.different_links once.each_link)
