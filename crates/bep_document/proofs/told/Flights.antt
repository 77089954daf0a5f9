-- What is told of the members of a message that is on its way is what is told of it.
use Rattle.std.proofs.Common.{◌≡◌, ◌∙◌, ◌&&◌, Option, Some, None, sym, ap, ap₂}
use Rattle.std.specs.Prelude.{codes}
use Rattle.serde_json.specs.Data.{Data}
use Rattle.serde_json.specs.Find.{get}
use Rattle.bep_json.specs.declared.version.DocVersion.{DocVersion}
use Rattle.bep_json.specs.Reading.{read_member}
use Rattle.bep_json.specs.Tree.{has_member}
use Rattle.bep_json.specs.Taking.{judged, Fills, both, told_as}
use Rattle.bep_json.proofs.TakingFacts.{due_is, both_is, told_as_is, pair, read_3}
use Rattle.bep_document.specs.declared.take.flights.FlightSlots.{FlightSlots}
use Rattle.bep_document.specs.inner.Flights.{flight_names, flight_slots, flight_of, flight_told}
use Rattle.bep_json.specs.Records.{is_record, read_record}
use Rattle.bep_json.specs.Lists.{is_list}
use Rattle.bep_document.specs.read.Few.{read_few}
use Rattle.bep_json.specs.Numbers.{is_flag, read_flag}
use Rattle.bep_json.specs.Texts.{is_text, read_folder_name}
use Rattle.bep_index.specs.declared.limits.TheConstants.{MAX_RECORDS}
use Rattle.bep_document.specs.read.Links.{is_flight, read_flight}

-- of the members that a message that is on its way has
flight_members : (version : DocVersion) (d : Data) → flight_told (Some (flight_slots version (λ name. get name d))) ≡ judged ((has_member (codes "folder") (is_text) d) && ((has_member (codes "full") (is_flag) d) && (has_member (codes "records") (is_list (is_record version)) d))) (read_flight version d)
unfolding read_flight
flight_members version d =
    ap (told_as flight_of) (ap₂ both (due_is (codes "folder") (is_text) (read_folder_name) d) (ap₂ both (due_is (codes "full") (is_flag) (read_flag) d) (due_is (codes "records") (is_list (is_record version)) (read_few MAX_RECORDS (read_record version)) d) ∙ both_is (has_member (codes "full") (is_flag) d) (has_member (codes "records") (is_list (is_record version)) d) (read_member (codes "full") (read_flag) d) (read_member (codes "records") (read_few MAX_RECORDS (read_record version)) d)) ∙ both_is (has_member (codes "folder") (is_text) d) ((has_member (codes "full") (is_flag) d) && (has_member (codes "records") (is_list (is_record version)) d)) (read_member (codes "folder") (read_folder_name) d) (pair (read_member (codes "full") (read_flag) d) (read_member (codes "records") (read_few MAX_RECORDS (read_record version)) d)))
    ∙ told_as_is flight_of ((has_member (codes "folder") (is_text) d) && ((has_member (codes "full") (is_flag) d) && (has_member (codes "records") (is_list (is_record version)) d))) (pair (read_member (codes "folder") (read_folder_name) d) (pair (read_member (codes "full") (read_flag) d) (read_member (codes "records") (read_few MAX_RECORDS (read_record version)) d)))
    ∙ ap (judged ((has_member (codes "folder") (is_text) d) && ((has_member (codes "full") (is_flag) d) && (has_member (codes "records") (is_list (is_record version)) d)))) (read_3 flight_of (read_member (codes "folder") (read_folder_name) d) (read_member (codes "full") (read_flag) d) (read_member (codes "records") (read_few MAX_RECORDS (read_record version)) d))

pub flight_is : (version : DocVersion) (slots : Option FlightSlots) (d : Data) → Fills flight_names (flight_slots version) slots d → flight_told slots ≡ judged (is_flight version d) (read_flight version d)
unfolding is_flight
flight_is version None d strange = sym (ap (λ only. judged (only && ((has_member (codes "folder") (is_text) d) && ((has_member (codes "full") (is_flag) d) && (has_member (codes "records") (is_list (is_record version)) d)))) (read_flight version d)) strange)
flight_is version (Some slots) d (only, known) = ap (λ s. flight_told (Some s)) known ∙ flight_members version d ∙ sym (ap (λ only. judged (only && ((has_member (codes "folder") (is_text) d) && ((has_member (codes "full") (is_flag) d) && (has_member (codes "records") (is_list (is_record version)) d)))) (read_flight version d)) only)
