-- What is told of the members of a message that is on its way.
use Rattle.std.specs.Prelude.{ℕ, Bool, List, [], ◌∷◌, Option, None, Some, Result, Err, codes}
use Rattle.serde_json.specs.Data.{Data}
use Rattle.bep_json.specs.declared.told.Misread.{Misread}
use Rattle.bep_json.specs.declared.told.Misread.TheVariants.{Shape}
use Rattle.bep_json.specs.declared.version.DocVersion.{DocVersion}
use Rattle.bep_json.specs.Taking.{slot, due, both, told_as}
use Rattle.bep_document.specs.declared.parts.FlightParts.{FlightParts}
use Rattle.bep_document.specs.declared.take.flights.FlightSlots.{FlightSlots}
use Rattle.bep_json.specs.Records.{is_record, read_record}
use Rattle.bep_json.specs.Lists.{is_list}
use Rattle.bep_document.specs.read.Few.{read_few}
use Rattle.bep_json.specs.Numbers.{is_flag, read_flag}
use Rattle.bep_json.specs.Texts.{is_text, read_folder_name}
use Rattle.bep_index.specs.declared.limits.TheConstants.{MAX_RECORDS}
use Rattle.bep_record.specs.declared.entry.Entry.{Entry}

-- the names of the members
abbrev pub flight_names : List (List ℕ)
flight_names = codes "folder" ∷ codes "full" ∷ codes "records" ∷ []

-- what is told of the members, by what stands at each name
abbrev pub flight_slots : DocVersion → (List ℕ → Option Data) → FlightSlots
flight_slots version look = record {
  folder = slot (is_text) (read_folder_name) (look (codes "folder"));
  full = slot (is_flag) (read_flag) (look (codes "full"));
  records = slot (is_list (is_record version)) (read_few MAX_RECORDS (read_record version)) (look (codes "records"));
}

-- the message with these things
abbrev pub flight_of : List ℕ × (Bool × List Entry) → FlightParts
flight_of t = record {
  folder = t.0;
  full = t.1.0;
  records = t.1.1;
}

-- what is told of the message
abbrev pub flight_told : Option FlightSlots → Result FlightParts Misread
flight_told None = Err Shape
flight_told (Some slots) = told_as flight_of (both (due slots.folder) (both (due slots.full) (due slots.records)))
