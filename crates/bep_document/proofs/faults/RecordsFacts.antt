-- What follows where no record and no node is bad.
use Rattle.std.proofs.Common.{◌≡◌, ℕ, not, false, List, [], None}
use Rattle.std.specs.List.{AllByRecursion}
use Rattle.std.proofs.lemmas.Bool.{not-true}
use Rattle.bep_json.specs.declared.nodes.NamedParts.{NamedParts}
use Rattle.bep_record.specs.Entry.{IsWellFormed}
use Rattle.bep_record.specs.Node.{IsNode}
use Rattle.bep_record.specs.declared.entry.Entry.{Entry}
use Rattle.bep_document.specs.declared.fault.Fault.TheVariants.{RecordBad}
use Rattle.bep_document.specs.declared.parts.ShareParts.{ShareParts}
use Rattle.bep_document.specs.declared.parts.FolderParts.{FolderParts}
use Rattle.bep_document.specs.declared.parts.LinkParts.{LinkParts}
use Rattle.bep_document.specs.declared.parts.RowParts.{RowParts}
use Rattle.bep_document.specs.declared.parts.CheckParts.{CheckParts}
use Rattle.bep_document.specs.Fault.{at_name}
use Rattle.bep_document.specs.faults.Judge.{first_in}
use Rattle.bep_document.specs.faults.Records.{is_well_formed, is_node, bad_entry, bad_pull, bad_node, bad_in_view, bad_at_share, bad_at_folder, bad_in_flight, bad_at_link, bad_row, first_bad}
use Rattle.bep_document.proofs.BoolFacts.{both_true}
use Rattle.bep_document.proofs.faults.Flights.{AllFlights, flights_where_none}
use Rattle.bep_document.proofs.faults.NoFault.{neither, passes_where_none, all_where_none}
use Rattle.bep_document.proofs.faults.RecordTests.{well_formed_decides, node_decides}

-- ---- records and nodes
good_entry : (folder : List ℕ) (device : ℕ) (earlier : List Entry) (entry : Entry) → bad_entry folder device earlier entry ≡ None → IsWellFormed entry
good_entry folder device earlier entry none =
    (well_formed_decides entry).0 (passes_where_none (is_well_formed entry) (at_name RecordBad folder device entry.name) none)

good_records : (folder : List ℕ) (device : ℕ) (entries : List Entry) → first_in (bad_entry folder device) [] entries ≡ None → AllByRecursion IsWellFormed entries
good_records folder device entries none = all_where_none (bad_entry folder device) IsWellFormed (good_entry folder device) [] entries none

-- a record that a device pulls
abbrev pub IsGoodPull : Entry → Type 0
IsGoodPull entry = IsWellFormed entry × (entry.invalid ≡ false)

good_pull : (folder : List ℕ) (device : ℕ) (earlier : List Entry) (entry : Entry) → bad_pull folder device earlier entry ≡ None → IsGoodPull entry
good_pull folder device earlier entry none =
    let both = both_true (is_well_formed entry) (not entry.invalid) (passes_where_none _ (at_name RecordBad folder device entry.name) none) in
    ((well_formed_decides entry).0 both.0, not-true entry.invalid both.1)

good_node : (folder : List ℕ) (device : ℕ) (earlier : List NamedParts) (node : NamedParts) → bad_node folder device earlier node ≡ None → IsNode node.parts
good_node folder device earlier node none =
    (node_decides node.parts).0 (passes_where_none (is_node node.parts) (at_name RecordBad folder device node.name) none)

-- ---- devices and folders
-- what is good at a device
pub record IsGoodAt (share : ShareParts) : Type 0 where
  pub own_records : AllByRecursion IsWellFormed share.own
  pub nodes : AllByRecursion (λ node. IsNode node.parts) share.store
  pub view_records : AllByRecursion (λ view. AllByRecursion IsWellFormed view.records) share.views
  pub pulls : AllByRecursion IsGoodPull share.pulls

good_at_share : (folder : List ℕ) (earlier : List ShareParts) (share : ShareParts) → bad_at_share folder earlier share ≡ None → IsGoodAt share
unfolding bad_at_share
good_at_share folder earlier share none =
    let own = neither (first_in (bad_entry folder share.device) [] share.own) _ none in
    let store = neither (first_in (bad_node folder share.device) [] share.store) _ own.1 in
    let rest = neither (first_in (bad_in_view folder share.device) [] share.views) (first_in (bad_pull folder share.device) [] share.pulls) store.1 in
    record {
      own_records = good_records folder share.device share.own own.0;
      nodes = all_where_none (bad_node folder share.device) (λ node. IsNode node.parts) (good_node folder share.device) [] share.store store.0;
      view_records = all_where_none (bad_in_view folder share.device) (λ view. AllByRecursion IsWellFormed view.records) (λ _ view e. good_records folder share.device view.records e) [] share.views rest.0;
      pulls = all_where_none (bad_pull folder share.device) IsGoodPull (good_pull folder share.device) [] share.pulls rest.1;
    }

good_in_folder : (earlier : List FolderParts) (folder : FolderParts) → bad_at_folder earlier folder ≡ None → AllByRecursion IsGoodAt folder.devices
unfolding bad_at_folder
good_in_folder earlier folder none = all_where_none (bad_at_share folder.folder) IsGoodAt (good_at_share folder.folder) [] folder.devices none

-- ---- links and rows
good_on_link : (earlier : List LinkParts) (link : LinkParts) → bad_at_link earlier link ≡ None → AllFlights (λ flight. AllByRecursion IsWellFormed flight.records) link
unfolding bad_at_link
good_on_link earlier link none =
    flights_where_none bad_in_flight (λ flight. AllByRecursion IsWellFormed flight.records) (λ device _ flight e. good_records flight.folder device flight.records e) link none

good_row : (earlier : List RowParts) (row : RowParts) → bad_row earlier row ≡ None → IsWellFormed row.entry
unfolding bad_row
good_row earlier row none = good_entry row.folder row.device [] row.entry none

-- ---- the whole
-- each record and node is good
pub record HasAllGood (parts : CheckParts) : Type 0 where
  pub each_folder : AllByRecursion (λ folder. AllByRecursion IsGoodAt folder.devices) parts.folders
  pub each_link : AllByRecursion (AllFlights (λ flight. AllByRecursion IsWellFormed flight.records)) parts.links
  pub rows : AllByRecursion (λ row. IsWellFormed row.entry) parts.certificate

pub all_good : (parts : CheckParts) → first_bad parts ≡ None → HasAllGood parts
unfolding first_bad
all_good parts none =
    let folders = neither (first_in bad_at_folder [] parts.folders) _ none in
    let others = neither (first_in bad_at_link [] parts.links) (first_in bad_row [] parts.certificate) folders.1 in
    record {
      each_folder = all_where_none bad_at_folder (λ folder. AllByRecursion IsGoodAt folder.devices) good_in_folder [] parts.folders folders.0;
      each_link = all_where_none bad_at_link (AllFlights (λ flight. AllByRecursion IsWellFormed flight.records)) good_on_link [] parts.links others.0;
      rows = all_where_none bad_row (λ row. IsWellFormed row.entry) good_row [] parts.certificate others.1;
    }
