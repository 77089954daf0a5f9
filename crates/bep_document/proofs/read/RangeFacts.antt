-- What is in range in each thing that is read.
use Rattle.std.proofs.Common.{◌≡◌, ◌≤◌, ℕ, true, false, List, [], length, codes, arith}
use Rattle.std.specs.List.{AllByRecursion}
use Rattle.bep_record.specs.declared.entry.Entry.{Entry}
use Rattle.bep_json.specs.Reading.{read_member, read_member_or}
use Rattle.bep_json.specs.Lists.{read_version, read_list}
use Rattle.bep_json.specs.declared.version.DocVersion.{DocVersion}
use Rattle.bep_json.specs.Version.{most_file_bytes}
use Rattle.bep_json.specs.Nodes.{read_node}
use Rattle.bep_json.specs.Numbers.{read_number, read_signed, read_flag, read_kind, greatest_id}
use Rattle.bep_json.specs.Records.{read_record, default_block_size}
use Rattle.bep_json.specs.Texts.{read_name, read_target, read_hash, read_folder_name, read_folder_kind}
use Rattle.bep_index.specs.declared.limits.TheConstants.{MAX_NAMES, MAX_RECORDS, MAX_SEQUENCE}
use Rattle.bep_record.specs.declared.limits.TheConstants.{MAX_NANOSECONDS, MAX_FOLDERS, MAX_PULLS, MAX_MESSAGES}
use Rattle.bep_document.specs.declared.parts.ShareParts.{ShareParts}
use Rattle.bep_document.specs.declared.parts.ViewParts.{ViewParts}
use Rattle.bep_document.specs.declared.parts.FolderParts.{FolderParts}
use Rattle.bep_document.specs.declared.parts.FlightParts.{FlightParts}
use Rattle.bep_document.specs.declared.parts.LinkParts.{LinkParts}
use Rattle.bep_document.specs.Faultless.{AreInRange}
use Rattle.bep_document.specs.read.Checks.{read_folders, read_cut, read_check_parts}
use Rattle.bep_document.specs.read.Devices.{has_few_devices}
use Rattle.bep_document.specs.read.Folders.{read_folder, read_row}
use Rattle.bep_document.specs.read.Links.{read_flight, read_link}
use Rattle.bep_document.specs.read.Shares.{read_share}
use Rattle.bep_document.specs.read.Views.{read_view}
use Rattle.bep_document.proofs.Steps.{made, keep, skip, tested}
use Rattle.bep_document.proofs.read.Readers.{Reads, number_read, list_read, few_read, member_read, member_or_read}

-- a record's sequence
abbrev pub IsInRange : Entry → Type 0
IsInRange entry = entry.sequence ≤ MAX_SEQUENCE

record_in_range : (version : DocVersion) → Reads IsInRange (read_record version)
unfolding read_record
record_in_range version d =
    skip (read_member (codes "name") read_name d) (λ name.
    skip (read_member (codes "type") read_kind d) (λ kind.
    skip (read_member (codes "modified_s") read_signed d) (λ modified_s.
    skip (read_member (codes "modified_by") (read_number 1 greatest_id) d) (λ modified_by.
    skip (read_member (codes "version") read_version d) (λ counters.
    keep (member_read (number_read 0 MAX_SEQUENCE) (codes "sequence") d) (λ sequence within.
    skip (read_member_or (codes "size") (read_number 0 (most_file_bytes version)) 0 d) (λ size.
    skip (read_member_or (codes "modified_ns") (read_number 0 MAX_NANOSECONDS) 0 d) (λ modified_ns.
    skip (read_member_or (codes "deleted") read_flag false d) (λ deleted.
    skip (read_member_or (codes "invalid") read_flag false d) (λ invalid.
    skip (read_member_or (codes "block_size") (read_number 0 4294967295) (default_block_size kind deleted) d) (λ block_size.
    skip (read_member_or (codes "blocks") (read_list read_hash) [] d) (λ hashes.
    skip (read_member_or (codes "target") read_target [] d) (λ target. made IsInRange _ within)))))))))))))

-- the greatest sequence of an index, and how many records it has
pub record IsIndexInRange (greatest : ℕ) (entries : List Entry) : Type 0 where
  pub within : greatest ≤ MAX_SEQUENCE
  pub few : length entries ≤ MAX_NAMES

-- what a view has
abbrev pub IsViewInRange : ViewParts → Type 0
IsViewInRange view = IsIndexInRange view.max view.records

view_in_range : (version : DocVersion) → Reads IsViewInRange (read_view version)
unfolding read_view
view_in_range version d =
    skip (read_member (codes "of") (read_number 1 greatest_id) d) (λ of.
    skip (read_member (codes "index_id") (read_number 0 greatest_id) d) (λ index_id.
    keep (member_read (number_read 0 MAX_SEQUENCE) (codes "max") d) (λ max within.
    keep (member_read (few_read MAX_NAMES (record_in_range version)) (codes "records") d) (λ records few.
    made IsViewInRange _ (record { within = within; few = few.0 })))))

-- what a device has and pulls
pub record IsShareInRange (share : ShareParts) : Type 0 where
  pub own : IsIndexInRange share.max share.own
  pub views : AllByRecursion IsViewInRange share.views
  pub few_pulls : length share.pulls ≤ MAX_PULLS
  pub pulls : AllByRecursion IsInRange share.pulls

share_in_range : (version : DocVersion) → Reads IsShareInRange (read_share version)
unfolding read_share
share_in_range version d =
    skip (read_member (codes "device") (read_number 1 greatest_id) d) (λ device.
    skip (read_member (codes "kind") read_folder_kind d) (λ kind.
    skip (read_member (codes "index_id") (read_number 1 greatest_id) d) (λ index_id.
    keep (member_read (number_read 0 MAX_SEQUENCE) (codes "max") d) (λ max within.
    keep (member_or_read (few_read MAX_NAMES (record_in_range version)) (omega arith, tt) (codes "own") d) (λ own few.
    skip (read_member_or (codes "store") (read_list (read_node version)) [] d) (λ store.
    keep (member_or_read (list_read (view_in_range version)) tt (codes "views") d) (λ views in_range.
    keep (member_or_read (few_read MAX_PULLS (record_in_range version)) (omega arith, tt) (codes "pulls") d) (λ pulls few_pulls.
    made IsShareInRange _ (record { own = record { within = within; few = few.0 }; views = in_range; few_pulls = few_pulls.0; pulls = few_pulls.1 })))))))))

folder_in_range : (version : DocVersion) → Reads (λ folder. AllByRecursion IsShareInRange folder.devices) (read_folder version)
unfolding read_folder
folder_in_range version d =
    skip (read_member (codes "folder") read_folder_name d) (λ name.
    keep (member_read (list_read (share_in_range version)) (codes "devices") d) (λ devices in_range.
    made (λ folder. AllByRecursion IsShareInRange folder.devices) _ in_range))

-- how many records a message has, and their sequences
pub record IsFlightInRange (flight : FlightParts) : Type 0 where
  pub few : length flight.records ≤ MAX_RECORDS
  pub sequences : AllByRecursion IsInRange flight.records

flight_in_range : (version : DocVersion) → Reads IsFlightInRange (read_flight version)
unfolding read_flight
flight_in_range version d =
    skip (read_member (codes "folder") read_folder_name d) (λ folder.
    skip (read_member (codes "full") read_flag d) (λ full.
    keep (member_read (few_read MAX_RECORDS (record_in_range version)) (codes "records") d) (λ records in_range.
    made IsFlightInRange _ (record { few = in_range.0; sequences = in_range.1 }))))

-- a link's epoch, and what is on its way
pub record IsLinkInRange (link : LinkParts) : Type 0 where
  pub epoch : link.epoch ≤ MAX_SEQUENCE
  pub few_to_a : length link.to_a ≤ MAX_MESSAGES
  pub few_to_b : length link.to_b ≤ MAX_MESSAGES
  pub to_a : AllByRecursion IsFlightInRange link.to_a
  pub to_b : AllByRecursion IsFlightInRange link.to_b

link_in_range : (version : DocVersion) → Reads IsLinkInRange (read_link version)
unfolding read_link
link_in_range version d =
    skip (read_member (codes "a") (read_number 1 greatest_id) d) (λ a.
    skip (read_member (codes "b") (read_number 1 greatest_id) d) (λ b.
    skip (read_member (codes "up") read_flag d) (λ up.
    keep (member_read (number_read 0 MAX_SEQUENCE) (codes "epoch") d) (λ epoch within.
    keep (member_or_read (few_read MAX_MESSAGES (flight_in_range version)) (omega arith, tt) (codes "to_a") d) (λ to_a first.
    keep (member_or_read (few_read MAX_MESSAGES (flight_in_range version)) (omega arith, tt) (codes "to_b") d) (λ to_b second.
    made IsLinkInRange _ (record { epoch = within; few_to_a = first.0; few_to_b = second.0; to_a = first.1; to_b = second.1 })))))))

-- the folders and the links of a cut
pub record IsCutInRange (folders : List FolderParts) (links : List LinkParts) : Type 0 where
  pub few : length folders ≤ MAX_FOLDERS
  pub few_devices : has_few_devices folders ≡ true
  pub shares : AllByRecursion (λ folder. AllByRecursion IsShareInRange folder.devices) folders
  pub links_in_range : AllByRecursion IsLinkInRange links

-- the folders of a cut
abbrev AreFewAndInRange : List FolderParts → Type 0
AreFewAndInRange folders =
    (has_few_devices folders ≡ true) × (length folders ≤ MAX_FOLDERS) × AllByRecursion (λ folder. AllByRecursion IsShareInRange folder.devices) folders

folders_in_range : (version : DocVersion) → Reads AreFewAndInRange (read_folders version)
folders_in_range version d =
    keep (member_read (few_read MAX_FOLDERS (folder_in_range version)) (codes "folders") d) (λ folders in_range.
    tested AreFewAndInRange (has_few_devices folders) folders (λ few. (few, in_range.0, in_range.1)))

pub cut_in_range : (version : DocVersion) → Reads (λ cut. IsCutInRange cut.0 cut.1) (read_cut version)
unfolding read_cut
cut_in_range version d =
    keep (folders_in_range version d) (λ folders range.
    keep (member_or_read (list_read (link_in_range version)) tt (codes "links") d) (λ links within.
    made (λ cut. IsCutInRange cut.0 cut.1) _ (record { few = range.1; few_devices = range.0; shares = range.2; links_in_range = within })))

pub check_in_range : (version : DocVersion) → Reads (λ parts. IsCutInRange parts.folders parts.links) (read_check_parts version)
unfolding read_check_parts
check_in_range version d =
    keep (member_read (cut_in_range version) (codes "cut") d) (λ cut in_range.
    skip (read_member (codes "certificate") (read_list (read_row version)) d) (λ certificate.
    made (λ parts. IsCutInRange parts.folders parts.links) _ in_range))

row_in_range : (version : DocVersion) → Reads (λ row. IsInRange row.entry) (read_row version)
unfolding read_row
row_in_range version d =
    skip (read_member (codes "folder") read_folder_name d) (λ folder.
    skip (read_member (codes "device") (read_number 1 greatest_id) d) (λ device.
    keep (member_read (record_in_range version) (codes "record") d) (λ entry within.
    made (λ row. IsInRange row.entry) _ within)))

pub rows_in_range : (version : DocVersion) → Reads (λ parts. AreInRange parts.certificate) (read_check_parts version)
unfolding read_check_parts
rows_in_range version d =
    skip (read_member (codes "cut") (read_cut version) d) (λ cut.
    keep (member_read (list_read (row_in_range version)) (codes "certificate") d) (λ certificate within.
    made (λ parts. AreInRange parts.certificate) _ within))
