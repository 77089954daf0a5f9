-- What a cut has of a link: its state, and of what is on its way the messages with records of folders that both ends share
-- (BEP v1, 'Index' and 'Index Update'; this project's profile).
use Rattle.std.specs.Prelude.{◌&&◌, Bool, true, false, List, [], is_some}
use Rattle.std.specs.List.{flat_map}
use Rattle.std.specs.FinMap.{get}
use Rattle.bep_map.specs.NameMap.{ByName}
use Rattle.bep_index.specs.Batch.{IsBatch}
use Rattle.bep_model.specs.declared.flight.Flight.{Flight}
use Rattle.bep_model.specs.Tables.{Folder}
use Rattle.bep_machine.specs.declared.message.Message.{Message}
use Rattle.bep_machine.specs.declared.message.Message.TheVariants as messages
use Rattle.bep_machine.specs.Said.{flight_when}
use Rattle.bep_links.specs.Link.{LinkBetween}
use Rattle.bep_tables.specs.declared.link.LinkState.{LinkState}

-- both devices have the folder
abbrev pub both_have : {V : Type 0} → ByName V → ByName V → Folder → Bool
both_have lower upper folder = is_some (get lower folder) && is_some (get upper folder)

-- the records that a message carries, if both ends share its folder
abbrev pub carried : (Folder → Bool) → Message → List Flight
carried both (messages.Index folder batch) = flight_when (both folder) folder true batch
carried both (messages.IndexUpdate folder batch) = flight_when (both folder) folder false batch
carried both message = []

-- the link, where both ends share these folders
abbrev pub link_cut : (Folder → Bool) → LinkBetween → LinkState
link_cut both between = record {
  a = between.ends.0;
  b = between.ends.1;
  up = between.link.up;
  epoch = between.link.epoch;
  to_a = flat_map (carried both) between.link.to_lower;
  to_b = flat_map (carried both) between.link.to_upper;
}

-- its records are a batch
abbrev pub HasBatch : Flight → Type 0
HasBatch flight = IsBatch flight.records
