-- What a reason asks of a sharing device, by its own record and its node alone (this project's profile).
use Rattle.std.specs.Prelude.{◌≡◌, ◌↔◌, ◌<◌, false, ⊤, Option, Some, None}
use Rattle.bep_record.specs.declared.entry.Entry.{Entry}
use Rattle.bep_record.specs.declared.node.NodeParts.{NodeParts}
use Rattle.bep_record.specs.Content.{Deleted, content_of}
use Rattle.bep_record.specs.Node.{IsClean}
use Rattle.bep_model.specs.declared.row.Row.{Row}
use Rattle.bep_model.specs.declared.reason.Reason.{Reason}
use Rattle.bep_model.specs.declared.reason.Reason.TheVariants.{RecordMissing, RecordDiffers, LocalOnly, StoreDiffers, StoreUnclean, ViewAhead}
use Rattle.bep_model.specs.Tables.{Tables, Device}
use Rattle.bep_model.specs.Settled.{content_of_node}
use Rattle.bep_model.specs.Reasons.{AsksShare}
use Rattle.bep_model.specs.Verdict.{number_of}

-- the device has a record, unless the winner is a deletion
abbrev pub AsksRecord : Option Entry → Entry → Type 0
AsksRecord own winner = own ≡ None → content_of winner ≡ Deleted

-- an own record that isn't local-only has the winner's content
abbrev pub AsksContent : Option Entry → Entry → Type 0
AsksContent own winner = (record_held : Entry) → own ≡ Some record_held → record_held.invalid ≡ false → content_of record_held ≡ content_of winner

-- an own record isn't local-only
abbrev pub AsksValid : Option Entry → Type 0
AsksValid own = (record_held : Entry) → own ≡ Some record_held → record_held.invalid ≡ false

-- what a reason asks of a device with this own record and this node, beside the winner of the name; the reasons on
-- foreign records ask nothing of these
abbrev pub AsksHere : Reason → Option Entry → Option NodeParts → Entry → Type 0
AsksHere RecordMissing own stored winner = AsksRecord own winner
AsksHere RecordDiffers own stored winner = AsksContent own winner
AsksHere LocalOnly own stored winner = AsksValid own
AsksHere StoreDiffers own stored winner = content_of_node stored ≡ content_of winner
AsksHere StoreUnclean own stored winner = IsClean stored own
AsksHere reason own stored winner = ⊤

-- before the reasons on foreign records, that is all that a reason asks of a device at a row
abbrev pub ShareIsAsked : Type 0
ShareIsAsked =
    (t : Tables) (reason : Reason) (row : Row) (device : Device) → number_of reason < number_of ViewAhead →
    AsksHere reason (t.own device row.folder row.entry.name) (t.node device row.folder row.entry.name) row.entry ↔ AsksShare t reason row device
