-- No fault is found where each record and each node is good.
use Rattle.std.proofs.Common.{◌≡◌, ℕ, ◌&&◌, not, List, [], None, ap}
use Rattle.std.specs.List.{AllByRecursion}
use Rattle.bep_json.specs.declared.nodes.NamedParts.{NamedParts}
use Rattle.bep_json.specs.Says.{both_are}
use Rattle.bep_record.specs.Entry.{IsWellFormed}
use Rattle.bep_record.specs.Node.{IsNode}
use Rattle.bep_record.specs.declared.entry.Entry.{Entry}
use Rattle.bep_document.specs.declared.fault.Fault.TheVariants.{RecordBad}
use Rattle.bep_document.specs.declared.parts.ShareParts.{ShareParts}
use Rattle.bep_document.specs.declared.parts.ViewParts.{ViewParts}
use Rattle.bep_document.specs.declared.parts.FolderParts.{FolderParts}
use Rattle.bep_document.specs.declared.parts.FlightParts.{FlightParts}
use Rattle.bep_document.specs.declared.parts.LinkParts.{LinkParts}
use Rattle.bep_document.specs.declared.parts.RowParts.{RowParts}
use Rattle.bep_document.specs.declared.parts.CheckParts.{CheckParts}
use Rattle.bep_document.specs.Fault.{at_name}
use Rattle.bep_document.specs.faults.Judge.{first_in}
use Rattle.bep_document.specs.faults.Records.{is_well_formed, is_node, bad_entry, bad_pull, bad_node, bad_in_view, bad_at_share, bad_at_folder, bad_in_flight, bad_at_link, bad_row, first_bad}
use Rattle.bep_document.proofs.faults.Flights.{AllFlights}
use Rattle.bep_document.proofs.faults.RecordTests.{well_formed_decides, node_decides}
use Rattle.bep_document.proofs.faults.RecordsFacts.{IsGoodPull, IsGoodAt, HasAllGood}
use Rattle.bep_document.proofs.faultless.NoneFound.{none_of_both, none_where_passes, none_in_all}

-- ---- records and nodes
none_at_entry : (folder : List ℕ) (device : ℕ) (earlier : List Entry) (entry : Entry) → IsWellFormed entry → bad_entry folder device earlier entry ≡ None
none_at_entry folder device earlier entry good =
    none_where_passes (is_well_formed entry) (at_name RecordBad folder device entry.name) ((well_formed_decides entry).1 good)

none_in_records : (folder : List ℕ) (device : ℕ) (entries : List Entry) → AllByRecursion IsWellFormed entries → first_in (bad_entry folder device) [] entries ≡ None
none_in_records folder device entries good = none_in_all (bad_entry folder device) IsWellFormed (none_at_entry folder device) [] entries good

none_at_pull : (folder : List ℕ) (device : ℕ) (earlier : List Entry) (entry : Entry) → IsGoodPull entry → bad_pull folder device earlier entry ≡ None
none_at_pull folder device earlier entry good =
    none_where_passes (is_well_formed entry && not entry.invalid) (at_name RecordBad folder device entry.name)
    (both_are ((well_formed_decides entry).1 good.0) (ap not good.1))

none_at_node : (folder : List ℕ) (device : ℕ) (earlier : List NamedParts) (node : NamedParts) → IsNode node.parts → bad_node folder device earlier node ≡ None
none_at_node folder device earlier node good =
    none_where_passes (is_node node.parts) (at_name RecordBad folder device node.name) ((node_decides node.parts).1 good)

-- ---- devices and folders
none_at_share : (folder : List ℕ) (earlier : List ShareParts) (share : ShareParts) → IsGoodAt share → bad_at_share folder earlier share ≡ None
unfolding bad_at_share
none_at_share folder earlier share good =
    none_of_both (first_in (bad_entry folder share.device) [] share.own) _ (none_in_records folder share.device share.own good.own_records)
    (none_of_both (first_in (bad_node folder share.device) [] share.store) _
    (none_in_all (bad_node folder share.device) (λ (node : NamedParts). IsNode node.parts) (none_at_node folder share.device) [] share.store good.nodes)
    (none_of_both (first_in (bad_in_view folder share.device) [] share.views) (first_in (bad_pull folder share.device) [] share.pulls)
    (none_in_all (bad_in_view folder share.device) (λ (view : ViewParts). AllByRecursion IsWellFormed view.records) (λ _ view e. none_in_records folder share.device view.records e) [] share.views good.view_records)
    (none_in_all (bad_pull folder share.device) IsGoodPull (none_at_pull folder share.device) [] share.pulls good.pulls)))

none_at_folder : (earlier : List FolderParts) (folder : FolderParts) → AllByRecursion IsGoodAt folder.devices → bad_at_folder earlier folder ≡ None
unfolding bad_at_folder
none_at_folder earlier folder good = none_in_all (bad_at_share folder.folder) IsGoodAt (none_at_share folder.folder) [] folder.devices good

-- ---- links and rows
none_at_link : (earlier : List LinkParts) (link : LinkParts) → AllFlights (λ flight. AllByRecursion IsWellFormed flight.records) link → bad_at_link earlier link ≡ None
unfolding bad_at_link
none_at_link earlier link good =
    none_of_both (first_in (bad_in_flight link.a) [] link.to_a) (first_in (bad_in_flight link.b) [] link.to_b)
    (none_in_all (bad_in_flight link.a) (λ (flight : FlightParts). AllByRecursion IsWellFormed flight.records) (λ _ flight e. none_in_records flight.folder link.a flight.records e) [] link.to_a good.0)
    (none_in_all (bad_in_flight link.b) (λ (flight : FlightParts). AllByRecursion IsWellFormed flight.records) (λ _ flight e. none_in_records flight.folder link.b flight.records e) [] link.to_b good.1)

none_at_row : (earlier : List RowParts) (row : RowParts) → IsWellFormed row.entry → bad_row earlier row ≡ None
unfolding bad_row
none_at_row earlier row good = none_at_entry row.folder row.device [] row.entry good

-- ---- the whole
pub none_bad : (parts : CheckParts) → HasAllGood parts → first_bad parts ≡ None
unfolding first_bad
none_bad parts good =
    none_of_both (first_in bad_at_folder [] parts.folders) _
    (none_in_all bad_at_folder (λ (folder : FolderParts). AllByRecursion IsGoodAt folder.devices) none_at_folder [] parts.folders good.each_folder)
    (none_of_both (first_in bad_at_link [] parts.links) (first_in bad_row [] parts.certificate)
    (none_in_all bad_at_link (AllFlights (λ flight. AllByRecursion IsWellFormed flight.records)) none_at_link [] parts.links good.each_link)
    (none_in_all bad_row (λ (row : RowParts). IsWellFormed row.entry) none_at_row [] parts.certificate good.rows))
