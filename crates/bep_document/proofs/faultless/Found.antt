-- No fault is found in parts that have none.
use Rattle.std.proofs.Common.{◌≡◌, None}
use Rattle.std.specs.List.{AllByRecursion}
use Rattle.bep_index.specs.Batch.{NamesDiffer}
use Rattle.bep_record.specs.Entry.{IsWellFormed}
use Rattle.bep_document.specs.declared.parts.ShareParts.{ShareParts}
use Rattle.bep_document.specs.declared.parts.FolderParts.{FolderParts}
use Rattle.bep_document.specs.declared.parts.FlightParts.{FlightParts}
use Rattle.bep_document.specs.declared.parts.LinkParts.{LinkParts}
use Rattle.bep_document.specs.declared.parts.CheckParts.{CheckParts}
use Rattle.bep_document.specs.faults.Twice.{first_twice}
use Rattle.bep_document.specs.faults.Unshared.{first_unshared}
use Rattle.bep_document.specs.faults.Records.{first_bad}
use Rattle.bep_document.specs.faults.Sequences.{first_bad_sequence}
use Rattle.bep_document.specs.faults.Links.{first_bad_link}
use Rattle.bep_document.specs.Reading.{first_fault}
use Rattle.bep_document.specs.Faultless.{IsFaultlessShare, IsFaultlessFolder, IsFaultlessFlight, IsFaultlessLink, IsFaultless}
use Rattle.bep_document.proofs.faults.Flights.{AllFlights}
use Rattle.bep_document.proofs.faults.NoFault.{all_map, all_both}
use Rattle.bep_document.proofs.faults.TwiceFacts.{IsOnceAt, IsOnceIn, HasNothingTwice}
use Rattle.bep_document.proofs.faults.UnsharedFacts.{IsOfBoth, HasAllShared}
use Rattle.bep_document.proofs.faults.RecordsFacts.{IsGoodAt, HasAllGood}
use Rattle.bep_document.proofs.faults.SequencesFacts.{IsNumberedAt}
use Rattle.bep_document.proofs.faults.LinksFacts.{IsLinkOf}
use Rattle.bep_document.proofs.faultless.NoneFound.{none_of_both}
use Rattle.bep_document.proofs.faultless.NothingTwice.{none_twice}
use Rattle.bep_document.proofs.faultless.Shared.{none_unshared}
use Rattle.bep_document.proofs.faultless.Good.{none_bad}
use Rattle.bep_document.proofs.faultless.Numbered.{IsRising, none_out_of_order}
use Rattle.bep_document.proofs.faultless.Linked.{none_unlinked}

-- ---- a device
once_at : (share : ShareParts) → IsFaultlessShare share → IsOnceAt share
once_at share faultless = record {
  own_names = faultless.own_records.names;
  store_names = faultless.store_names;
  viewed = faultless.viewed;
  view_names = all_map (λ view known. known.names) share.views faultless.views;
  pull_names = faultless.pulled.names;
}

good_at : (share : ShareParts) → IsFaultlessShare share → IsGoodAt share
good_at share faultless = record {
  own_records = faultless.own_records.well_formed;
  nodes = faultless.nodes;
  view_records = all_map (λ view known. known.well_formed) share.views faultless.views;
  pulls = all_both (λ pull good valid. (good, valid)) share.pulls faultless.pulled.well_formed faultless.pulled.valid;
}

numbered_at : (share : ShareParts) → IsFaultlessShare share → IsNumberedAt share
numbered_at share faultless = record {
  own_records = record { within = faultless.own_records.numbered; different = faultless.own_records.sequences };
  view_records = all_map (λ view known. record { within = known.numbered; different = known.sequences }) share.views faultless.views;
}

-- ---- messages and links
abbrev FaultlessFlights : CheckParts → LinkParts → Type 0
FaultlessFlights parts link = AllFlights (IsFaultlessFlight parts.folders link) link

all_flights : {P Q : FlightParts → Type 0} → ((flight : FlightParts) → P flight → Q flight) → (link : LinkParts) → AllFlights P link → AllFlights Q link
all_flights each link all = (all_map each link.to_a all.0, all_map each link.to_b all.1)

each_link_of : (parts : CheckParts) (P : LinkParts → FlightParts → Type 0) → ((link : LinkParts) (flight : FlightParts) → IsFaultlessFlight parts.folders link flight → P link flight) → AllByRecursion (IsFaultlessLink parts.folders) parts.links → AllByRecursion (λ link. AllFlights (P link) link) parts.links
each_link_of parts P each links =
    all_map (λ link faultless. all_flights (each link) link (faultless.to_a, faultless.to_b)) parts.links links

link_of : (parts : CheckParts) (link : LinkParts) → IsFaultlessLink parts.folders link → IsLinkOf parts.folders link
link_of parts link faultless = record {
  ends = faultless.ends;
  a_device = faultless.a_device;
  b_device = faultless.b_device;
  quiet = faultless.quiet;
}

-- ---- the whole
once_in : (folder : FolderParts) → IsFaultlessFolder folder → IsOnceIn folder
once_in folder faultless = record { different = faultless.different; shares = all_map once_at folder.devices faultless.shares }

nothing_twice : (parts : CheckParts) → IsFaultless parts → HasNothingTwice parts
nothing_twice parts faultless = record {
  different_folders = faultless.different;
  each_folder = all_map once_in parts.folders faultless.each_folder;
  different_links = faultless.different_links;
  each_link = each_link_of parts (λ link flight. NamesDiffer flight.records) (λ link flight one. one.batch.names) faultless.each_link;
}

all_shared : (parts : CheckParts) → IsFaultless parts → HasAllShared parts
all_shared parts faultless = record {
  each_folder = all_map (λ folder one. one.views) parts.folders faultless.each_folder;
  each_link = each_link_of parts (IsOfBoth parts.folders) (λ link flight one. (one.shared_by_a, one.shared_by_b)) faultless.each_link;
}

all_good : (parts : CheckParts) → IsFaultless parts → HasAllGood parts
all_good parts faultless = record {
  each_folder = all_map (λ folder one. all_map good_at folder.devices one.shares) parts.folders faultless.each_folder;
  each_link = each_link_of parts (λ link flight. AllByRecursion IsWellFormed flight.records) (λ link flight one. one.well_formed) faultless.each_link;
  rows = faultless.rows;
}

pub none_found : (parts : CheckParts) → IsFaultless parts → first_fault parts ≡ None
unfolding first_fault
none_found parts faultless =
    none_of_both (first_twice parts) _ (none_twice parts (nothing_twice parts faultless))
    (none_of_both (first_unshared parts) _ (none_unshared parts (all_shared parts faultless))
    (none_of_both (first_bad parts) _ (none_bad parts (all_good parts faultless))
    (none_of_both (first_bad_sequence parts) (first_bad_link parts)
    (none_out_of_order parts
    (all_map (λ folder one. all_map numbered_at folder.devices one.shares) parts.folders faultless.each_folder)
    (each_link_of parts (λ link. IsRising) (λ link flight one. one.batch.rises) faultless.each_link))
    (none_unlinked parts (all_map (link_of parts) parts.links faultless.each_link)))))
