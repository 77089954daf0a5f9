-- What is read has no fault.
use Rattle.std.proofs.Common.{◌≡◌, ◌≤◌, ℕ, true, List, [], length, codes, subst, leb-true, arith}
use Rattle.std.specs.List.{AllByRecursion}
use Rattle.serde_json.specs.Data.{Data}
use Rattle.serde_json.specs.Find.{get}
use Rattle.bep_index.specs.Batch.{NamesDiffer}
use Rattle.bep_record.specs.Entry.{IsWellFormed}
use Rattle.bep_record.specs.declared.entry.Entry.{Entry}
use Rattle.bep_document.specs.declared.fault.Fault.TheVariants.{VersionBad, Shape, Range}
use Rattle.bep_record.specs.declared.limits.TheConstants.{MAX_DEVICES}
use Rattle.bep_document.specs.declared.parts.ShareParts.{ShareParts}
use Rattle.bep_document.specs.declared.parts.FolderParts.{FolderParts}
use Rattle.bep_document.specs.declared.parts.FlightParts.{FlightParts}
use Rattle.bep_document.specs.declared.parts.LinkParts.{LinkParts}
use Rattle.bep_document.specs.declared.parts.CheckParts.{CheckParts}
use Rattle.bep_json.specs.declared.version.DocVersion.{DocVersion}
use Rattle.bep_json.specs.Tree.{names_of}
use Rattle.bep_tree.specs.Names.{has_only}
use Rattle.bep_document.specs.read.Checks.{is_cut, read_cut, doc_version, check_members, is_check, read_check_parts}
use Rattle.bep_document.specs.read.Devices.{is_one_of, with_devices}
use Rattle.bep_document.specs.Reading.{Read, first_fault, reading_of_tree, reading_of, without_rows, reading_of_cut, reading_of_cut_in, reading_of_cut_document}
use Rattle.bep_document.specs.Faultless.{AreInRange, IsFaultlessIndex, IsFaultlessShare, IsFaultlessFolder, IsFaultlessFlight, IsFaultlessLink, IsFaultless}
use Rattle.bep_document.proofs.read.DevicesKnown.{devices_known, known_are_of, no_more}
use Rattle.bep_document.proofs.FaultlessFacts.{HasNoFault, has_no_fault}
use Rattle.bep_document.proofs.faults.Flights.{AllFlights}
use Rattle.bep_document.proofs.faults.RecordsFacts.{IsGoodAt}
use Rattle.bep_document.proofs.faults.LinksFacts.{IsLinkOf}
use Rattle.bep_document.proofs.faults.NoFault.{all_map, all_both, all_four}
use Rattle.bep_document.proofs.faults.SequencesFacts.{AreNumbered, IsNumberedAt, RisesInRange}
use Rattle.bep_document.proofs.faults.TwiceFacts.{IsOnceAt, IsOnceIn}
use Rattle.bep_document.proofs.read.RangeFacts.{IsIndexInRange, IsShareInRange, IsFlightInRange, IsLinkInRange, IsCutInRange, cut_in_range, check_in_range, rows_in_range}
use Rattle.bep_document.proofs.faults.UnsharedFacts.{AreOfOthers, IsOfBoth}
use Rattle.bep_document.proofs.Steps.{passed_and, given_and, no_fault_and, of_bytes_and, of_shape_and}

-- ---- folders
index_faultless : (greatest : ℕ) (entries : List Entry) → IsIndexInRange greatest entries → NamesDiffer entries → AllByRecursion IsWellFormed entries → AreNumbered greatest entries → IsFaultlessIndex greatest entries
index_faultless greatest entries range names good numbered = record {
  within = range.within;
  few = range.few;
  names = names;
  well_formed = good;
  numbered = numbered.within;
  sequences = numbered.different;
}

share_faultless : (share : ShareParts) → IsShareInRange share → IsOnceAt share → IsGoodAt share → IsNumberedAt share → IsFaultlessShare share
share_faultless share range once good numbered = record {
  own_records = index_faultless share.max share.own range.own once.own_names good.own_records numbered.own_records;
  store_names = once.store_names;
  nodes = good.nodes;
  viewed = once.viewed;
  views = all_four (λ view. index_faultless view.max view.records) share.views range.views once.view_names good.view_records numbered.view_records;
  pulled = record {
    few = range.few_pulls;
    names = once.pull_names;
    well_formed = all_map (λ _ pull. pull.0) share.pulls good.pulls;
    valid = all_map (λ _ pull. pull.1) share.pulls good.pulls;
    within = range.pulls;
  };
}

shares_faultless : (folder : FolderParts) → AllByRecursion IsShareInRange folder.devices → IsOnceIn folder → AllByRecursion IsGoodAt folder.devices → AllByRecursion IsNumberedAt folder.devices → AllByRecursion IsFaultlessShare folder.devices
shares_faultless folder range once good numbered = all_four share_faultless folder.devices range once.shares good numbered

folder_faultless : (devices : List ℕ) → length devices ≤ MAX_DEVICES → (folder : FolderParts) → AllByRecursion IsFaultlessShare folder.devices → IsOnceIn folder → AreOfOthers folder → AllByRecursion (λ share. is_one_of devices share.device ≡ true) folder.devices → IsFaultlessFolder folder
folder_faultless devices few folder shares once others known = record {
  few = omega (arith, no_more (λ (share : ShareParts). share.device) devices folder.devices once.different known, few);
  different = once.different;
  shares = shares;
  views = others;
}

-- ---- links
flights_faultless : (folders : List FolderParts) (link : LinkParts) (flights : List FlightParts) → AllByRecursion IsFlightInRange flights → AllByRecursion (λ flight. NamesDiffer flight.records) flights → AllByRecursion (IsOfBoth folders link) flights → AllByRecursion (λ flight. AllByRecursion IsWellFormed flight.records) flights → AllByRecursion RisesInRange flights → AllByRecursion (IsFaultlessFlight folders link) flights
flights_faultless folders link flights range names shared good rising =
    all_four flight_faultless flights range names shared (all_both (λ _ good rising. (good, rising)) flights good rising) where
      flight_faultless : (flight : FlightParts) → IsFlightInRange flight → NamesDiffer flight.records → IsOfBoth folders link flight → AllByRecursion IsWellFormed flight.records × RisesInRange flight → IsFaultlessFlight folders link flight
      flight_faultless flight range names shared carried = record {
        batch = record { few = range.few; rises = carried.1 range.sequences; names = names };
        well_formed = carried.0;
        shared_by_a = shared.0;
        shared_by_b = shared.1;
      }

flights_of : (folders : List FolderParts) (link : LinkParts) → IsLinkInRange link × AllFlights (λ flight. NamesDiffer flight.records) link → AllFlights (IsOfBoth folders link) link → AllFlights (λ flight. AllByRecursion IsWellFormed flight.records) link → AllFlights RisesInRange link → AllFlights (IsFaultlessFlight folders link) link
flights_of folders link ranged shared good rising = (
  flights_faultless folders link link.to_a ranged.0.to_a ranged.1.0 shared.0 good.0 rising.0,
  flights_faultless folders link link.to_b ranged.0.to_b ranged.1.1 shared.1 good.1 rising.1,
)

link_faultless : (folders : List FolderParts) (link : LinkParts) → IsLinkInRange link × IsLinkOf folders link → AllFlights (IsFaultlessFlight folders link) link → IsFaultlessLink folders link
link_faultless folders link both flights = record {
  ends = both.1.ends;
  a_device = both.1.a_device;
  b_device = both.1.b_device;
  epoch = both.0.epoch;
  quiet = both.1.quiet;
  few_to_a = both.0.few_to_a;
  few_to_b = both.0.few_to_b;
  to_a = flights.0;
  to_b = flights.1;
}

-- ---- the whole
faultless : (parts : CheckParts) → IsCutInRange parts.folders parts.links → HasNoFault parts → IsFaultless parts
faultless parts range free =
    let devices = with_devices [] parts.folders in
    let few : length devices ≤ MAX_DEVICES = leb-true (length devices) MAX_DEVICES range.few_devices in
    let known = devices_known [] parts.folders in
    let shares = all_four shares_faultless parts.folders range.shares free.once.each_folder free.good.each_folder free.numbered.each_folder in
    let ranged = all_both (λ _ range names. (range, names)) parts.links range.links_in_range free.once.each_link in
    let flights = all_four (flights_of parts.folders) parts.links ranged free.shared.each_link free.good.each_link free.numbered.each_link in
    record {
      few_folders = range.few;
      few_devices = (devices, few, known_are_of devices parts.folders known);
      different = free.once.different_folders;
      each_folder = all_four (folder_faultless devices few) parts.folders shares free.once.each_folder free.shared.each_folder known;
      different_links = free.once.different_links;
      each_link = all_both (link_faultless parts.folders) parts.links (all_both (λ _ range link. (range, link)) parts.links range.links_in_range free.links) flights;
      rows = free.good.rows;
    }

tree_faultless : (tree : Data) (parts : CheckParts) → reading_of_tree tree ≡ Read parts → IsFaultless parts
unfolding reading_of_tree
tree_faultless tree parts e =
    let known = given_and VersionBad (doc_version tree) _ e in
    let found = of_shape_and (is_check known.0) (read_check_parts known.0) first_fault tree known.2 in
    faultless parts (check_in_range known.0 tree parts found.0) (has_no_fault parts found.1)

pub reading_faultless : (bytes : List ℕ) (parts : CheckParts) → reading_of bytes ≡ Read parts → IsFaultless parts
unfolding reading_of
reading_faultless bytes parts e = let tree = of_bytes_and reading_of_tree bytes e in tree_faultless tree.0 parts tree.1

tree_in_range : (tree : Data) (parts : CheckParts) → reading_of_tree tree ≡ Read parts → AreInRange parts.certificate
unfolding reading_of_tree
tree_in_range tree parts e =
    let known = given_and VersionBad (doc_version tree) _ e in
    let found = of_shape_and (is_check known.0) (read_check_parts known.0) first_fault tree known.2 in
    rows_in_range known.0 tree parts found.0

pub reading_in_range : (bytes : List ℕ) (parts : CheckParts) → reading_of bytes ≡ Read parts → AreInRange parts.certificate
unfolding reading_of
reading_in_range bytes parts e = let tree = of_bytes_and reading_of_tree bytes e in tree_in_range tree.0 parts tree.1

pub cut_faultless : (version : DocVersion) (tree : Data) (parts : CheckParts) → reading_of_cut version tree ≡ Read parts → IsFaultless parts
unfolding reading_of_cut
cut_faultless version tree parts e =
    let shaped = passed_and Shape (is_cut version) tree _ e in
    let found = given_and Range (read_cut version tree) _ shaped in
    let clean = no_fault_and (first_fault (without_rows version found.0)) found.2 in
    subst IsFaultless clean.1 (faultless (without_rows version found.0) (cut_in_range version tree found.0 found.1) (has_no_fault (without_rows version found.0) clean.0))

cut_in_faultless : (tree : Data) (parts : CheckParts) → reading_of_cut_in tree ≡ Read parts → IsFaultless parts
unfolding reading_of_cut_in
cut_in_faultless tree parts e =
    let known = given_and VersionBad (doc_version tree) _ e in
    let listed = passed_and Shape (has_only (names_of (check_members known.0))) tree _ known.2 in
    let cut = given_and Shape (get (codes "cut") tree) _ listed in
    cut_faultless known.0 cut.0 parts cut.2

pub cut_document_faultless : (bytes : List ℕ) (parts : CheckParts) → reading_of_cut_document bytes ≡ Read parts → IsFaultless parts
unfolding reading_of_cut_document
cut_document_faultless bytes parts e = let tree = of_bytes_and reading_of_cut_in bytes e in cut_in_faultless tree.0 parts tree.1
