-- What keeps a settled cut from being firm, as the entries of the cut tell it (this project's profile).
use Rattle.std.specs.Prelude.{◌≡◌, ◌↔◌, Bool, true, false, List, Option, Some, None, Contains, map}
use Rattle.std.specs.declared.cmp.Ordering.{Ordering}
use Rattle.std.specs.Ordering.{nat_cmp, is_lt, on, then_cmp}
use Rattle.bep_record.specs.declared.entry.Entry.{Entry}
use Rattle.bep_record.specs.Vector.{IsAtMost}
use Rattle.bep_model.specs.declared.row.Row.{Row}
use Rattle.bep_model.specs.declared.firm_reason.FirmReason.{FirmReason}
use Rattle.bep_model.specs.declared.firm_reason.FirmReason.TheVariants.{VersionDiffers, ViewNotBelow, FlightNotBelow, PullNotBelow}
use Rattle.bep_model.specs.Settled.{key_of}
use Rattle.bep_model.specs.Firm.{AreEqual}
use Rattle.bep_model.specs.FirmVerdict.{FirmVerdict, Firm, Unsettled, Loose, AsksFirm, firm_number_of}
use Rattle.bep_model.specs.Reasons.{Place, place_cmp}
use Rattle.bep_tables.specs.declared.table.entry.Source.{Source}
use Rattle.bep_tables.specs.declared.table.entry.Source.TheVariants.{Own, View, Flight, Pull}
use Rattle.bep_tables.specs.declared.cut.CutParts.{CutParts}
use Rattle.bep_tables.specs.declared.table.entry.TableEntry.{TableEntry}
use Rattle.bep_tables.specs.Cut.{IsCut, tables_of}
use Rattle.bep_tables.specs.Listed.{Holding, Record, Node, Listed, IsGrouped, cut_listed, key_at, listed}
use Rattle.bep_audit.specs.declared.loose.Looseness.{Looseness}
use Rattle.bep_audit.specs.declared.firm.FirmVerdict as program
use Rattle.bep_audit.specs.declared.firm.FirmVerdict.TheVariants as lends

-- a reason at a place
pub record Loosening : Type 0 where
  pub reason : FirmReason
  pub place : Place

-- by reason, then place
abbrev pub loose_cmp : Loosening → Loosening → Ordering
loose_cmp = then_cmp (on (λ one. firm_number_of one.reason) nat_cmp) (on (λ one. one.place) place_cmp)

-- whether this one comes before the least so far; each may be missing
abbrev pub precedes : Option Loosening → Option Loosening → Bool
precedes None least = false
precedes (Some here) None = true
precedes (Some here) (Some least) = is_lt (loose_cmp here least)

-- one whose names are lent
abbrev pub loose_shown : Looseness → Loosening
loose_shown one = record { reason = one.reason; place = record { folder = one.folder.now; name = one.name.now; device = Some one.device } }

-- the verdict whose names are lent
abbrev pub firm_shown : program.FirmVerdict → FirmVerdict
firm_shown lends.Firm = Firm
firm_shown (lends.Unsettled reason folder name device) = Unsettled reason folder.now name.now device
firm_shown (lends.Loose reason folder name device) = Loose reason folder.now name.now device

-- the reason that asks something of records from there
abbrev pub asked_by : Source → FirmReason
asked_by Own = VersionDiffers
asked_by View = ViewNotBelow
asked_by Flight = FlightNotBelow
asked_by Pull = PullNotBelow

-- what it asks of such a record beside the winner
abbrev pub AsksVersion : Source → Entry → Entry → Type 0
AsksVersion Own entry winner = AreEqual entry.version winner.version
AsksVersion source entry winner = IsAtMost entry.version winner.version

-- where an entry stands
abbrev pub place_at : Listed → Place
place_at one = record { folder = one.folder; name = one.name; device = Some one.device }

-- what an entry's record is asked, by which reason and where
abbrev pub AsksEntry : List Row → Listed → Loosening → Type 0
AsksEntry rows one loose = (source : Source) (entry : Entry) (row : Row) →
    one.holding ≡ Record source entry → loose.reason ≡ asked_by source → loose.place ≡ place_at one →
    Contains rows row → key_of row ≡ key_at one → AsksVersion source entry row.entry

-- what all of these entries are asked
abbrev pub AsksEntries : List Row → List Listed → Loosening → Type 0
AsksEntries rows ones loose = (one : Listed) → Contains ones one → AsksEntry rows one loose

-- what an entry is asked and where, if it holds a record
abbrev pub loosening_at : Listed → Holding → Option Loosening
loosening_at one (Record source entry) = Some (record { reason = asked_by source; place = place_at one })
loosening_at one (Node node) = None

abbrev pub loosening_of : Listed → Option Loosening
loosening_of one = loosening_at one one.holding

-- an entry's record, if it holds one, has the version that it should have beside each of these rows that is about its name
abbrev pub MeetsFirm : List Row → Listed → Type 0
MeetsFirm rows one = (source : Source) (entry : Entry) (row : Row) →
    one.holding ≡ Record source entry → Contains rows row → key_of row ≡ key_at one → AsksVersion source entry row.entry

-- what the entries of a cut's table are asked is what the four reasons ask
abbrev pub EntriesAreAsked : Type 0
EntriesAreAsked = (cut : CutParts) (table : List TableEntry) (rows : List Row) (loose : Loosening) → IsCut cut → IsGrouped (cut_listed cut) table →
    AsksEntries rows (map listed table) loose ↔ AsksFirm (tables_of cut) rows loose.reason loose.place
