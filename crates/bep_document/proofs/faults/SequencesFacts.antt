-- What follows where no sequence is bad.
use Rattle.std.proofs.Common.{◌≡◌, ◌≤◌, ℕ, ◌==◌, leb, ltb, false, List, [], ◌∷◌, ◌++◌, None, subst, refl, arith}
use Rattle.std.specs.List.{list_any, AllByRecursion}
use Rattle.std.proofs.lemmas.Bool.{leb-false}
use Rattle.std.proofs.lemmas.Bool.Decides.{Decides-eqb, nat_tests}
use Rattle.bep_index.specs.Batch.{Rises, last_sequence}
use Rattle.bep_record.specs.declared.entry.Entry.{Entry}
use Rattle.bep_document.specs.declared.fault.Fault.TheVariants.{SequenceBad}
use Rattle.bep_document.specs.declared.parts.ShareParts.{ShareParts}
use Rattle.bep_document.specs.declared.parts.FolderParts.{FolderParts}
use Rattle.bep_document.specs.declared.parts.FlightParts.{FlightParts}
use Rattle.bep_document.specs.declared.parts.LinkParts.{LinkParts}
use Rattle.bep_document.specs.declared.parts.CheckParts.{CheckParts}
use Rattle.bep_document.specs.Fault.{at_name}
use Rattle.bep_document.specs.faults.Judge.{first_in}
use Rattle.bep_document.specs.faults.Sequences.{is_bad_sequence, bad_sequence, sequence_in, sequence_in_view, sequence_at_share, sequence_at_folder, bad_next, sequence_in_flight, sequence_at_link, first_bad_sequence}
use Rattle.bep_document.specs.Faultless.{KeysDiffer, IsNumbered}
use Rattle.bep_document.proofs.BoolFacts.{both_false}
use Rattle.bep_document.proofs.faults.Flights.{AllFlights, flights_where_none}
use Rattle.bep_document.proofs.faults.NoFault.{neither, fails_where_none, all_where_none, keys_differ}
use Rattle.bep_document.proofs.read.RangeFacts.{IsInRange}

-- ---- the records of an index
numbered : (n greatest : ℕ) → (n == 0) ≡ false → ltb greatest n ≡ false → (1 ≤ n) × (n ≤ greatest)
numbered n greatest some few = (grind (arith, nat_tests), grind (arith, nat_tests))

good_sequence : (folder : List ℕ) (device greatest : ℕ) (earlier : List Entry) (entry : Entry) → bad_sequence folder device greatest earlier entry ≡ None → IsNumbered greatest entry × (list_any (λ known. known.sequence == entry.sequence) earlier ≡ false)
good_sequence folder device greatest earlier entry none =
    let some = both_false (entry.sequence == 0) _ (fails_where_none (is_bad_sequence greatest earlier entry) (at_name SequenceBad folder device entry.name) none) in
    let few = both_false (ltb greatest entry.sequence) _ some.1 in
    (numbered entry.sequence greatest some.0 few.0, few.1)

-- the sequences of an index, as far as the greatest
pub record AreNumbered (greatest : ℕ) (entries : List Entry) : Type 0 where
  pub within : AllByRecursion (IsNumbered greatest) entries
  pub different : KeysDiffer (λ entry. entry.sequence) entries

records_numbered : (folder : List ℕ) (device greatest : ℕ) (entries : List Entry) → sequence_in folder device greatest entries ≡ None → AreNumbered greatest entries
records_numbered folder device greatest entries none = record {
  within = all_where_none (bad_sequence folder device greatest) (IsNumbered greatest) (λ before entry e. (good_sequence folder device greatest before entry e).0) [] entries none;
  different = keys_differ (λ a b. a == b) Decides-eqb (λ entry. entry.sequence) (bad_sequence folder device greatest) (λ before entry e. (good_sequence folder device greatest before entry e).1) [] entries none;
}

-- ---- devices and folders
-- the sequences of a device's records, and of those in its views
pub record IsNumberedAt (share : ShareParts) : Type 0 where
  pub own_records : AreNumbered share.max share.own
  pub view_records : AllByRecursion (λ view. AreNumbered view.max view.records) share.views

numbered_at_share : (folder : List ℕ) (earlier : List ShareParts) (share : ShareParts) → sequence_at_share folder earlier share ≡ None → IsNumberedAt share
unfolding sequence_at_share
numbered_at_share folder earlier share none =
    let both = neither (sequence_in folder share.device share.max share.own) (first_in (sequence_in_view folder share.device) [] share.views) none in
    record {
      own_records = records_numbered folder share.device share.max share.own both.0;
      view_records = all_where_none (sequence_in_view folder share.device) (λ view. AreNumbered view.max view.records) (λ _ view e. records_numbered folder share.device view.max view.records e) [] share.views both.1;
    }

numbered_in_folder : (earlier : List FolderParts) (folder : FolderParts) → sequence_at_folder earlier folder ≡ None → AllByRecursion IsNumberedAt folder.devices
unfolding sequence_at_folder
numbered_in_folder earlier folder none = all_where_none (sequence_at_share folder.folder) IsNumberedAt (numbered_at_share folder.folder) [] folder.devices none

-- ---- messages
pub last_of_more : (low : ℕ) (earlier : List Entry) (entry : Entry) → last_sequence low (earlier ++ entry ∷ []) ≡ entry.sequence
last_of_more low [] entry = refl
last_of_more low (first ∷ more) entry = last_of_more first.sequence more entry

records_rise : (folder : List ℕ) (device : ℕ) (earlier entries : List Entry) → first_in (bad_next folder device) earlier entries ≡ None → AllByRecursion IsInRange entries → Rises (last_sequence 0 earlier) entries
records_rise folder device earlier [] none within = tt
records_rise folder device earlier (entry ∷ more) none within =
    let both = neither (bad_next folder device earlier entry) (first_in (bad_next folder device) (earlier ++ entry ∷ []) more) none in
    let above = fails_where_none (leb entry.sequence (last_sequence 0 earlier)) (at_name SequenceBad folder device entry.name) both.0 in
    let behind = records_rise folder device (earlier ++ entry ∷ []) more both.1 within.1 in
    (leb-false entry.sequence (last_sequence 0 earlier) above, within.0, subst (λ low. Rises low more) (last_of_more 0 earlier entry) behind)

-- the sequences of a message rise, where they are in range
abbrev pub RisesInRange : FlightParts → Type 0
RisesInRange flight = AllByRecursion IsInRange flight.records → Rises 0 flight.records

rising_on_link : (earlier : List LinkParts) (link : LinkParts) → sequence_at_link earlier link ≡ None → AllFlights RisesInRange link
unfolding sequence_at_link
rising_on_link earlier link none =
    flights_where_none sequence_in_flight RisesInRange (λ device _ flight e. records_rise flight.folder device [] flight.records e) link none

-- ---- the whole
-- each index, view and message is numbered
pub record HasAllNumbered (parts : CheckParts) : Type 0 where
  pub each_folder : AllByRecursion (λ folder. AllByRecursion IsNumberedAt folder.devices) parts.folders
  pub each_link : AllByRecursion (AllFlights RisesInRange) parts.links

pub all_numbered : (parts : CheckParts) → first_bad_sequence parts ≡ None → HasAllNumbered parts
unfolding first_bad_sequence
all_numbered parts none =
    let both = neither (first_in sequence_at_folder [] parts.folders) (first_in sequence_at_link [] parts.links) none in
    record {
      each_folder = all_where_none sequence_at_folder (λ folder. AllByRecursion IsNumberedAt folder.devices) numbered_in_folder [] parts.folders both.0;
      each_link = all_where_none sequence_at_link (AllFlights RisesInRange) rising_on_link [] parts.links both.1;
    }
