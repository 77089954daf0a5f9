-- The candidates for a name, as the code finds them.
use Rattle.std.specs.Prelude.{◌≡◌, ◌≤◌, List, ◌++◌, Option, Some, Contains, unwrap_or}
use Rattle.std.specs.List.{flat_map}
use Rattle.std.specs.FinMap.{get}
use Rattle.bep_record.specs.declared.entry.Entry.{Entry}
use Rattle.bep_index.specs.View.{cleared}
use Rattle.bep_index.specs.Listing.{Listing}
use Rattle.bep_index.specs.declared.limits.TheConstants.{MAX_SEQUENCE}
use Rattle.bep_choice.specs.Choice.{Candidate}
use Rattle.bep_model.specs.Tables.{Device, FileName}
use Rattle.bep_model.specs.Winner.{beside}
use Rattle.bep_machine.specs.Replica.{ByDevice}

-- the record of a name in the view of a device
abbrev pub record_in : ByDevice Listing → FileName → Device → Option Entry
record_in views name other = get (unwrap_or (get views other) (cleared 0)).records name

-- these devices beside their records
abbrev pub viewed_among : ByDevice Listing → FileName → List Device → List Candidate
viewed_among views name = flat_map (λ (other : Device). beside other (record_in views name other))

-- the own record and those of the views
abbrev pub known_by : Device → Option Entry → ByDevice Listing → FileName → List Device → List Candidate
known_by device own views name others = beside device own ++ viewed_among views name others

-- the record stands under the name in an index
abbrev pub IsOf : FileName → Entry → Type 0
IsOf name entry = (entry.name ≡ name) × (entry.sequence ≤ MAX_SEQUENCE)

-- the same of the own record, if there is one, and of each of these
abbrev pub IsOwn : FileName → Option Entry → Type 0
IsOwn name own = (one : Entry) → own ≡ Some one → IsOf name one

abbrev pub AreNamed : FileName → List Candidate → Type 0
AreNamed name candidates = (one : Candidate) → Contains candidates one → IsOf name one.1
