-- No fault is found where each sequence is one that an index, a view or a message can have.
use Rattle.std.proofs.Common.{◌≡◌, ◌<◌, ℕ, ◌==◌, ◌||◌, Bool, leb, ltb, false, List, [], ◌∷◌, ◌++◌, None, sym, subst, refl, ap, ◌∙◌, arith}
use Rattle.std.specs.List.{list_any, AllByRecursion}
use Rattle.std.proofs.lemmas.Bool.{le-ltb}
use Rattle.std.proofs.lemmas.Bool.Decides.{Decides-eqb, nat_tests}
use Rattle.bep_index.specs.Batch.{Rises, last_sequence}
use Rattle.bep_record.specs.declared.entry.Entry.{Entry}
use Rattle.bep_document.specs.declared.fault.Fault.TheVariants.{SequenceBad}
use Rattle.bep_document.specs.declared.parts.ShareParts.{ShareParts}
use Rattle.bep_document.specs.declared.parts.ViewParts.{ViewParts}
use Rattle.bep_document.specs.declared.parts.FolderParts.{FolderParts}
use Rattle.bep_document.specs.declared.parts.FlightParts.{FlightParts}
use Rattle.bep_document.specs.declared.parts.LinkParts.{LinkParts}
use Rattle.bep_document.specs.declared.parts.CheckParts.{CheckParts}
use Rattle.bep_document.specs.Fault.{at_name}
use Rattle.bep_document.specs.faults.Judge.{first_in}
use Rattle.bep_document.specs.faults.Sequences.{is_bad_sequence, bad_sequence, sequence_in, sequence_in_view, sequence_at_share, sequence_at_folder, bad_next, sequence_in_flight, sequence_at_link, first_bad_sequence}
use Rattle.bep_document.specs.Faultless.{IsNumbered}
use Rattle.bep_document.proofs.faults.Flights.{AllFlights}
use Rattle.bep_document.proofs.faults.SequencesFacts.{AreNumbered, IsNumberedAt, last_of_more}
use Rattle.bep_document.proofs.faultless.NoneFound.{none_of_both, none_where_fails, none_in_all, none_in_different}

-- ---- the records of an index
none_of_three : (a b c : Bool) → a ≡ false → b ≡ false → c ≡ false → (a || (b || c)) ≡ false
none_of_three a b c first second third = ap (λ d. d || (b || c)) first ∙ ap (λ d. d || c) second ∙ third

none_at_entry : (folder : List ℕ) (device greatest : ℕ) (earlier : List Entry) (entry : Entry) → list_any (λ known. known.sequence == entry.sequence) earlier ≡ false → IsNumbered greatest entry → bad_sequence folder device greatest earlier entry ≡ None
none_at_entry folder device greatest earlier entry new numbered =
    let from = numbered.0 in
    let some : (entry.sequence == 0) ≡ false = grind (arith, nat_tests) in
    none_where_fails (is_bad_sequence greatest earlier entry) (at_name SequenceBad folder device entry.name)
    (none_of_three (entry.sequence == 0) (ltb greatest entry.sequence) _ some (le-ltb greatest entry.sequence numbered.1) new)

none_in_index : (folder : List ℕ) (device greatest : ℕ) (entries : List Entry) → AreNumbered greatest entries → sequence_in folder device greatest entries ≡ None
none_in_index folder device greatest entries numbered =
    none_in_different (λ a b. a == b) Decides-eqb (λ (entry : Entry). entry.sequence) (bad_sequence folder device greatest) (IsNumbered greatest) (none_at_entry folder device greatest) entries numbered.different numbered.within

-- ---- devices and folders
none_at_share : (folder : List ℕ) (earlier : List ShareParts) (share : ShareParts) → IsNumberedAt share → sequence_at_share folder earlier share ≡ None
unfolding sequence_at_share
none_at_share folder earlier share numbered =
    none_of_both (sequence_in folder share.device share.max share.own) (first_in (sequence_in_view folder share.device) [] share.views)
    (none_in_index folder share.device share.max share.own numbered.own_records)
    (none_in_all (sequence_in_view folder share.device) (λ (view : ViewParts). AreNumbered view.max view.records) (λ _ view e. none_in_index folder share.device view.max view.records e) [] share.views numbered.view_records)

none_at_folder : (earlier : List FolderParts) (folder : FolderParts) → AllByRecursion IsNumberedAt folder.devices → sequence_at_folder earlier folder ≡ None
unfolding sequence_at_folder
none_at_folder earlier folder numbered = none_in_all (sequence_at_share folder.folder) IsNumberedAt (none_at_share folder.folder) [] folder.devices numbered

-- ---- messages
not_below : (n last : ℕ) → last < n → leb n last ≡ false
not_below n last above = grind (arith, nat_tests)

none_where_rises : (folder : List ℕ) (device : ℕ) (earlier entries : List Entry) → Rises (last_sequence 0 earlier) entries → first_in (bad_next folder device) earlier entries ≡ None
none_where_rises folder device earlier [] rise = refl
none_where_rises folder device earlier (entry ∷ more) rise =
    none_of_both (bad_next folder device earlier entry) (first_in (bad_next folder device) (earlier ++ entry ∷ []) more)
    (none_where_fails (leb entry.sequence (last_sequence 0 earlier)) (at_name SequenceBad folder device entry.name) (not_below entry.sequence (last_sequence 0 earlier) rise.0))
    (none_where_rises folder device (earlier ++ entry ∷ []) more (subst (λ low. Rises low more) (sym (last_of_more 0 earlier entry)) rise.2))

-- the sequences of a message rise
abbrev pub IsRising : FlightParts → Type 0
IsRising flight = Rises 0 flight.records

none_at_link : (earlier : List LinkParts) (link : LinkParts) → AllFlights IsRising link → sequence_at_link earlier link ≡ None
unfolding sequence_at_link
none_at_link earlier link rising =
    none_of_both (first_in (sequence_in_flight link.a) [] link.to_a) (first_in (sequence_in_flight link.b) [] link.to_b)
    (none_in_all (sequence_in_flight link.a) IsRising (λ _ flight e. none_where_rises flight.folder link.a [] flight.records e) [] link.to_a rising.0)
    (none_in_all (sequence_in_flight link.b) IsRising (λ _ flight e. none_where_rises flight.folder link.b [] flight.records e) [] link.to_b rising.1)

-- ---- the whole
pub none_out_of_order : (parts : CheckParts) → AllByRecursion (λ folder. AllByRecursion IsNumberedAt folder.devices) parts.folders → AllByRecursion (AllFlights IsRising) parts.links → first_bad_sequence parts ≡ None
unfolding first_bad_sequence
none_out_of_order parts folders links =
    none_of_both (first_in sequence_at_folder [] parts.folders) (first_in sequence_at_link [] parts.links)
    (none_in_all sequence_at_folder (λ (folder : FolderParts). AllByRecursion IsNumberedAt folder.devices) none_at_folder [] parts.folders folders)
    (none_in_all sequence_at_link (AllFlights IsRising) none_at_link [] parts.links links)
