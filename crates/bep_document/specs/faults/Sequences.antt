-- Which sequences an index, a view or a message can't have (this project's profile).
use Rattle.std.specs.Prelude.{ℕ, nat_lt, nat_le, ◌==◌, ◌||◌, Bool, List, [], Option, Some, None, if◌then◌else◌}
use Rattle.std.specs.List.{list_any}
use Rattle.bep_record.specs.declared.entry.Entry.{Entry}
use Rattle.bep_index.specs.Batch.{last_sequence}
use Rattle.bep_document.specs.declared.fault.DocFault.{DocFault}
use Rattle.bep_document.specs.declared.fault.Fault.TheVariants.{SequenceBad}
use Rattle.bep_document.specs.declared.parts.ShareParts.{ShareParts}
use Rattle.bep_document.specs.declared.parts.ViewParts.{ViewParts}
use Rattle.bep_document.specs.declared.parts.FolderParts.{FolderParts}
use Rattle.bep_document.specs.declared.parts.FlightParts.{FlightParts}
use Rattle.bep_document.specs.declared.parts.LinkParts.{LinkParts}
use Rattle.bep_document.specs.declared.parts.CheckParts.{CheckParts}
use Rattle.bep_document.specs.Fault.{at_name}
use Rattle.bep_document.specs.faults.Judge.{◌else_at◌, first_in}
use Rattle.bep_document.specs.faults.Walks.{at_shares, on_link}

-- the sequence is 0, above the greatest, or that of an earlier record
abbrev pub is_bad_sequence : ℕ → List Entry → Entry → Bool
is_bad_sequence greatest earlier entry =
    (entry.sequence == 0)
    || (nat_lt greatest entry.sequence || list_any (λ known. known.sequence == entry.sequence) earlier)

-- the record has such a sequence
abbrev pub bad_sequence : List ℕ → ℕ → ℕ → List Entry → Entry → Option DocFault
bad_sequence folder device greatest earlier entry =
    if is_bad_sequence greatest earlier entry then Some (at_name SequenceBad folder device entry.name) else None

-- such a record in a list whose greatest sequence is this
abbrev pub sequence_in : List ℕ → ℕ → ℕ → List Entry → Option DocFault
sequence_in folder device greatest entries = first_in (bad_sequence folder device greatest) [] entries

-- such a record in a view
abbrev pub sequence_in_view : List ℕ → ℕ → List ViewParts → ViewParts → Option DocFault
sequence_in_view folder device earlier view = sequence_in folder device view.max view.records

-- such a record of a device, or in one of its views
unfoldable pub sequence_at_share : List ℕ → List ShareParts → ShareParts → Option DocFault
sequence_at_share folder earlier share =
    sequence_in folder share.device share.max share.own
    else_at first_in (sequence_in_view folder share.device) [] share.views

-- such a record of a folder's devices
unfoldable pub sequence_at_folder : List FolderParts → FolderParts → Option DocFault
sequence_at_folder = at_shares (λ folder. sequence_at_share folder.folder)

-- the record's sequence isn't above that of the record before it, or above 0 if it is the first
abbrev pub bad_next : List ℕ → ℕ → List Entry → Entry → Option DocFault
bad_next folder device earlier entry =
    if nat_le entry.sequence (last_sequence 0 earlier) then Some (at_name SequenceBad folder device entry.name) else None

-- such a record in what is on its way to the device
abbrev pub sequence_in_flight : ℕ → List FlightParts → FlightParts → Option DocFault
sequence_in_flight device earlier flight = first_in (bad_next flight.folder device) [] flight.records

-- such a record on a link
unfoldable pub sequence_at_link : List LinkParts → LinkParts → Option DocFault
sequence_at_link = on_link (λ _. sequence_in_flight)

-- such a record in the folders, or else on the links
unfoldable pub first_bad_sequence : CheckParts → Option DocFault
first_bad_sequence parts =
    first_in sequence_at_folder [] parts.folders else_at first_in sequence_at_link [] parts.links
