-- What calls that take what another device sent do to its view (BEP v1, 'Index' and 'Index Update').
use Rattle.std.specs.Prelude.{◌<◌, List, Option, Some, None, Contains, unwrap_or}
use Rattle.std.specs.FinMap.{get, insert, len, remove}
use Rattle.bep_record.specs.declared.entry.Entry.{Entry}
use Rattle.bep_index.specs.Batch.{with_all}
use Rattle.bep_index.specs.Listing.{Listing}
use Rattle.bep_index.specs.View.{IsOld, cleared}
use Rattle.bep_index.specs.declared.limits.TheConstants.{MAX_NAMES}
use Rattle.bep_model.specs.Tables.{Device}
use Rattle.bep_machine.specs.Replica.{ByDevice, with_view}
use Rattle.bep_folder.specs.Held.{Held}
use Rattle.bep_folder.specs.Trace.{no_trace}

-- the other device doesn't share the folder
abbrev pub IsApart : Held → Device → Type 0
IsApart held other = ¬ Contains held.tables.others other

-- what is known of a device's index; before anything was, an empty view at point (0, 0)
abbrev pub known_view : ByDevice Listing → Device → Listing
known_view views other = unwrap_or (get views other) (cleared 0)

-- the batch doesn't begin too early, but there would be more names than a view may have
abbrev pub IsTooMuch : Listing → List Entry → Type 0
IsTooMuch view batch = (¬ IsOld view.sequence batch) × (MAX_NAMES < len (with_all view.records batch))

-- the view of another device becomes this, and no call of the store was made
abbrev pub with_viewed : Held → Device → Listing → Held
with_viewed held other view = record held { tables = with_view held.tables other view; made = 0; trace = no_trace }

-- no call of the store was made, and all else is as before
abbrev pub unchanged : Held → Held
unchanged held = record held { made = 0; trace = no_trace }

-- the device's view becomes this one, or goes
abbrev pub exchanged : ByDevice Listing → Device → Option Listing → ByDevice Listing
exchanged views other None = remove views other
exchanged views other (Some view) = insert views other view

-- so does the folder's view of another device, and no call of the store was made
abbrev pub with_exchanged : Held → Device → Option Listing → Held
with_exchanged held other view =
    record held { tables = record held.tables { views = exchanged held.tables.views other view }; made = 0; trace = no_trace }
