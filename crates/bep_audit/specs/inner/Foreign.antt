-- What a reason asks of the records that a device has from elsewhere, beside a row (this project's profile).
use Rattle.std.specs.Prelude.{◌≡◌, false, ⊤, List, Option, Some, Contains}
use Rattle.std.specs.FinMap.{get}
use Rattle.bep_record.specs.declared.entry.Entry.{Entry}
use Rattle.bep_record.specs.Content.{content_of}
use Rattle.bep_model.specs.declared.flight.Flight.{Flight}
use Rattle.bep_model.specs.declared.reason.Reason.{Reason}
use Rattle.bep_model.specs.declared.reason.Reason.TheVariants.{ViewAhead, FlightAhead, PullAhead}
use Rattle.bep_model.specs.declared.row.Row.{Row}
use Rattle.bep_model.specs.Foreign.{IsHarmless}
use Rattle.bep_model.specs.Tables.{Device}
use Rattle.bep_tables.specs.declared.share.Share.{Share}
use Rattle.bep_tables.specs.declared.share.PeerView.{PeerView}
use Rattle.bep_tables.specs.declared.link.LinkState.{LinkState}

-- a record passes: it is invalid, or harmless to the row's content beside this own record
abbrev pub Passes : Row → Option Entry → Entry → Type 0
Passes row own entry = entry.invalid ≡ false → IsHarmless own (content_of row.entry) entry

-- what is found passes, if anything is
abbrev pub PassesIfThere : Row → Option Entry → Option Entry → Type 0
PassesIfThere row own found = (entry : Entry) → found ≡ Some entry → Passes row own entry

-- each record passes that the views have of the row's name
abbrev pub ViewsPass : Row → Option Entry → List PeerView → Type 0
ViewsPass row own views = (view : PeerView) → Contains views view → PassesIfThere row own (get view.records row.entry.name)

-- the record passes, if it has the row's name
abbrev pub PassesIfNamed : Row → Option Entry → Entry → Type 0
PassesIfNamed row own entry = entry.name ≡ row.entry.name → Passes row own entry

-- each of the records passes that has the row's name
abbrev pub RecordsPass : Row → Option Entry → List Entry → Type 0
RecordsPass row own entries = (entry : Entry) → Contains entries entry → PassesIfNamed row own entry

-- the message's records of the row's name pass, if the message is of the row's folder
abbrev pub FlightPasses : Row → Option Entry → Flight → Type 0
FlightPasses row own flight = flight.folder ≡ row.folder → RecordsPass row own flight.records

-- those of each message pass
abbrev pub FlightsPass : Row → Option Entry → List Flight → Type 0
FlightsPass row own flights = (flight : Flight) → Contains flights flight → FlightPasses row own flight

-- what is on its way to this end of a link passes, if the end is the device
abbrev pub EndPasses : Row → Option Entry → Device → Device → List Flight → Type 0
EndPasses row own device end flights = end ≡ device → FlightsPass row own flights

-- what is on its way to the device over the link passes
unfoldable pub LinkPasses : Row → Option Entry → Device → LinkState → Type 0
LinkPasses row own device link = EndPasses row own device link.a link.to_a × EndPasses row own device link.b link.to_b

-- what is on its way to the device over any of the links passes
abbrev pub LinksPass : Row → Option Entry → Device → List LinkState → Type 0
LinksPass row own device links = (link : LinkState) → Contains links link → LinkPasses row own device link

-- what a reason asks of a device's views, of what is on its way to it, and of its pulls; the others ask nothing of these
abbrev pub AsksForeign : Reason → Row → List LinkState → Share → Type 0
AsksForeign ViewAhead row links share = ViewsPass row (get share.own row.entry.name) share.views
AsksForeign FlightAhead row links share = LinksPass row (get share.own row.entry.name) share.device links
AsksForeign PullAhead row links share = PassesIfThere row (get share.own row.entry.name) (get share.pulls row.entry.name)
AsksForeign reason row links share = ⊤
