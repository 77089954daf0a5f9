-- All that is read is of files that are as short as those of its version.
use Rattle.std.proofs.Common.{◌≤◌, ℕ, false, List, [], length, codes, if◌then◌else◌, Option, Some, None, leb-true, arith}
use Rattle.std.specs.List.{AllByRecursion}
use Rattle.serde_json.specs.Data.{Data}
use Rattle.serde_json.specs.Find.{get, as_str}
use Rattle.bep_record.specs.declared.entry.Entry.{Entry}
use Rattle.bep_record.specs.declared.limits.TheConstants.{MAX_NANOSECONDS, MAX_FOLDERS, MAX_PULLS, MAX_MESSAGES}
use Rattle.bep_index.specs.declared.limits.TheConstants.{MAX_NAMES, MAX_RECORDS, MAX_SEQUENCE}
use Rattle.bep_json.specs.declared.nodes.NamedParts.{NamedParts}
use Rattle.bep_json.specs.declared.version.DocVersion.{DocVersion}
use Rattle.bep_json.specs.Version.{most_file_bytes}
use Rattle.bep_json.specs.Reading.{read_member, read_member_or}
use Rattle.bep_json.specs.Lists.{read_version, read_list}
use Rattle.bep_json.specs.Nodes.{read_body, read_node}
use Rattle.bep_json.specs.Numbers.{read_number, read_signed, read_flag, read_kind, greatest_id}
use Rattle.bep_json.specs.Records.{read_record, default_block_size}
use Rattle.bep_json.specs.Texts.{fits_file, read_name, read_target, read_hash, read_folder_name, read_folder_kind, read_text_bytes, read_hex_bytes}
use Rattle.bep_document.specs.Short.{IsViewShort, IsShareShort, IsFolderShort, IsFlightShort, IsLinkShort, IsCutShort}
use Rattle.bep_document.specs.read.Checks.{read_folders, read_cut}
use Rattle.bep_document.specs.read.Devices.{has_few_devices}
use Rattle.bep_document.specs.read.Folders.{read_folder}
use Rattle.bep_document.specs.read.Links.{read_flight, read_link}
use Rattle.bep_document.specs.read.Shares.{read_share}
use Rattle.bep_document.specs.read.Views.{read_view}
use Rattle.bep_document.proofs.Steps.{Gives, made, keep, skip, tested}
use Rattle.bep_document.proofs.read.Readers.{Reads, number_read, list_read, few_read, member_read, member_or_read}

record_short : (version : DocVersion) → Reads (λ entry. entry.size ≤ most_file_bytes version) (read_record version)
unfolding read_record
record_short version d =
    skip (read_member (codes "name") read_name d) (λ name.
    skip (read_member (codes "type") read_kind d) (λ kind.
    skip (read_member (codes "modified_s") read_signed d) (λ modified_s.
    skip (read_member (codes "modified_by") (read_number 1 greatest_id) d) (λ modified_by.
    skip (read_member (codes "version") read_version d) (λ counters.
    skip (read_member (codes "sequence") (read_number 0 9223372036854775807) d) (λ sequence.
    keep (member_or_read (number_read 0 (most_file_bytes version)) (omega arith) (codes "size") d) (λ size short.
    skip (read_member_or (codes "modified_ns") (read_number 0 MAX_NANOSECONDS) 0 d) (λ modified_ns.
    skip (read_member_or (codes "deleted") read_flag false d) (λ deleted.
    skip (read_member_or (codes "invalid") read_flag false d) (λ invalid.
    skip (read_member_or (codes "block_size") (read_number 0 4294967295) (default_block_size kind deleted) d) (λ block_size.
    skip (read_member_or (codes "blocks") (read_list read_hash) [] d) (λ hashes.
    skip (read_member_or (codes "target") read_target [] d) (λ target. made (λ (entry : Entry). entry.size ≤ most_file_bytes version) _ short)))))))))))))

-- bytes
abbrev AreFew : DocVersion → List ℕ → Type 0
AreFew version bytes = length bytes ≤ most_file_bytes version

fitting : (version : DocVersion) (bytes : List ℕ) → Gives (AreFew version) (if fits_file version bytes then Some bytes else None)
fitting version bytes = tested (AreFew version) (fits_file version bytes) bytes (λ fits. leb-true (length bytes) (most_file_bytes version) fits)

text_short : (version : DocVersion) → Reads (AreFew version) (read_text_bytes version)
unfolding read_text_bytes
text_short version d = skip (as_str d) (λ text. fitting version text)

hex_short : (version : DocVersion) → Reads (AreFew version) (read_hex_bytes version)
unfolding read_hex_bytes
hex_short version d = skip (as_str d) (λ text. skip _ (λ bytes. fitting version bytes))

body_short : (version : DocVersion) (text : Option Data) (d : Data) → Gives (AreFew version) (read_body version text d)
body_short version (Some text) d = text_short version text
body_short version None d = member_or_read (hex_short version) (omega arith) (codes "hex") d

node_short : (version : DocVersion) → Reads (λ node. length node.parts.bytes ≤ most_file_bytes version) (read_node version)
unfolding read_node
node_short version d =
    skip (read_member (codes "name") read_name d) (λ name.
    skip (read_member (codes "type") read_kind d) (λ kind.
    skip (read_member (codes "modified_s") read_signed d) (λ modified_s.
    skip (read_member_or (codes "modified_ns") (read_number 0 MAX_NANOSECONDS) 0 d) (λ modified_ns.
    keep (body_short version (get (codes "text") d) d) (λ bytes short.
    skip (read_member_or (codes "target") read_target [] d) (λ target. made (λ (node : NamedParts). length node.parts.bytes ≤ most_file_bytes version) _ short))))))

view_short : (version : DocVersion) → Reads (IsViewShort version) (read_view version)
unfolding read_view
view_short version d =
    skip (read_member (codes "of") (read_number 1 greatest_id) d) (λ of.
    skip (read_member (codes "index_id") (read_number 0 greatest_id) d) (λ index_id.
    skip (read_member (codes "max") (read_number 0 MAX_SEQUENCE) d) (λ max.
    keep (member_read (few_read MAX_NAMES (record_short version)) (codes "records") d) (λ records short. made (IsViewShort version) _ short.1))))

share_short : (version : DocVersion) → Reads (IsShareShort version) (read_share version)
unfolding read_share
share_short version d =
    skip (read_member (codes "device") (read_number 1 greatest_id) d) (λ device.
    skip (read_member (codes "kind") read_folder_kind d) (λ kind.
    skip (read_member (codes "index_id") (read_number 1 greatest_id) d) (λ index_id.
    skip (read_member (codes "max") (read_number 0 MAX_SEQUENCE) d) (λ max.
    keep (member_or_read (few_read MAX_NAMES (record_short version)) (omega arith, tt) (codes "own") d) (λ own own_short.
    keep (member_or_read (list_read (node_short version)) tt (codes "store") d) (λ store store_short.
    keep (member_or_read (list_read (view_short version)) tt (codes "views") d) (λ views views_short.
    keep (member_or_read (few_read MAX_PULLS (record_short version)) (omega arith, tt) (codes "pulls") d) (λ pulls pulls_short.
    made (IsShareShort version) _ (record { own = own_short.1; store = store_short; views = views_short; pulls = pulls_short.1 })))))))))

folder_short : (version : DocVersion) → Reads (IsFolderShort version) (read_folder version)
unfolding read_folder
folder_short version d =
    skip (read_member (codes "folder") read_folder_name d) (λ name.
    keep (member_read (list_read (share_short version)) (codes "devices") d) (λ devices short. made (IsFolderShort version) _ short))

flight_short : (version : DocVersion) → Reads (IsFlightShort version) (read_flight version)
unfolding read_flight
flight_short version d =
    skip (read_member (codes "folder") read_folder_name d) (λ folder.
    skip (read_member (codes "full") read_flag d) (λ full.
    keep (member_read (few_read MAX_RECORDS (record_short version)) (codes "records") d) (λ records short. made (IsFlightShort version) _ short.1)))

link_short : (version : DocVersion) → Reads (IsLinkShort version) (read_link version)
unfolding read_link
link_short version d =
    skip (read_member (codes "a") (read_number 1 greatest_id) d) (λ a.
    skip (read_member (codes "b") (read_number 1 greatest_id) d) (λ b.
    skip (read_member (codes "up") read_flag d) (λ up.
    skip (read_member (codes "epoch") (read_number 0 MAX_SEQUENCE) d) (λ epoch.
    keep (member_or_read (few_read MAX_MESSAGES (flight_short version)) (omega arith, tt) (codes "to_a") d) (λ to_a first.
    keep (member_or_read (few_read MAX_MESSAGES (flight_short version)) (omega arith, tt) (codes "to_b") d) (λ to_b second.
    made (IsLinkShort version) _ (record { to_a = first.1; to_b = second.1 })))))))

folders_short : (version : DocVersion) → Reads (AllByRecursion (IsFolderShort version)) (read_folders version)
folders_short version d =
    keep (member_read (few_read MAX_FOLDERS (folder_short version)) (codes "folders") d) (λ folders short.
    tested (AllByRecursion (IsFolderShort version)) (has_few_devices folders) folders (λ few. short.1))

pub cut_short : (version : DocVersion) → Reads (λ cut. IsCutShort version cut.0 cut.1) (read_cut version)
unfolding read_cut
cut_short version d =
    keep (folders_short version d) (λ folders each_folder.
    keep (member_or_read (list_read (link_short version)) tt (codes "links") d) (λ links each_link.
    made (λ cut. IsCutShort version cut.0 cut.1) _ (record { each_folder = each_folder; each_link = each_link })))
