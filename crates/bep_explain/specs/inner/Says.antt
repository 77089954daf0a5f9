-- What each row, each device and each name of a cut says of a failure.
use Rattle.std.specs.Prelude.{◌≡◌, ⊤, List, Option, Some, None, Contains}
use Rattle.bep_record.specs.declared.entry.Entry.{Entry}
use Rattle.bep_record.specs.declared.node.NodeParts.{NodeParts}
use Rattle.bep_model.specs.declared.row.Row.{Row}
use Rattle.bep_model.specs.declared.reason.Reason.{Reason}
use Rattle.bep_model.specs.declared.reason.Reason.TheVariants.{CertificateOrder, NameMissing, NameUnknown, NotWinner}
use Rattle.bep_model.specs.Tables.{Tables, Device, Folder, FileName}
use Rattle.bep_model.specs.Foreign.{IsKnown}
use Rattle.bep_model.specs.Winner.{IsWinner}
use Rattle.bep_model.specs.Settled.{key_of, HasRow}
use Rattle.bep_model.specs.Reasons.{AsksShare, first_disordered}
use Rattle.bep_tables.specs.declared.cut.CutParts.{CutParts}
use Rattle.bep_tables.specs.declared.share.Share.{Share}
use Rattle.bep_tables.specs.Cut.{tables_of, shares_of}
use Rattle.bep_tables.specs.declared.table.entry.TableEntry.{TableEntry}
use Rattle.bep_tables.specs.Listed.{Listed, key_at, listed}
use Rattle.bep_audit.specs.Group.{AsksBeside}
use Rattle.bep_audit.specs.declared.checkers.TheConstants.{REASONS}
use Rattle.bep_audit.specs.Walk.{Failure}
use Rattle.bep_gather.specs.Adding.{Each}

-- the reason at this name, on this device
abbrev pub failure_at : Reason → Folder × FileName → Option Device → Failure
failure_at reason key device = record { reason = reason; place = record { folder = key.0; name = key.1; device = device } }

-- it isn't the first row out of order
abbrev pub SaysOrder : List Row → Failure → Type 0
SaysOrder rows one = (key : Folder × FileName) → first_disordered rows ≡ Some key → ¬ (one ≡ failure_at CertificateOrder key None)

-- the name has a row if it is known
abbrev pub NameHasRow : Tables → List Row → Folder × FileName → Type 0
NameHasRow t rows key = IsKnown t key.0 key.1 → HasRow rows key.0 key.1

-- so has an entry's name
abbrev pub SaysEntry : Tables → List Row → TableEntry → Failure → Type 0
SaysEntry t rows entry one = one ≡ failure_at NameMissing (key_at (listed entry)) None → NameHasRow t rows (key_at (listed entry))

-- an entry's name has a row, known or not
abbrev pub SaysHasRow : List Row → TableEntry → Failure → Type 0
SaysHasRow rows entry one =
    let key = key_at (listed entry) in
    one ≡ failure_at NameMissing key None → HasRow rows key.0 key.1

-- a row's name is known
abbrev pub SaysKnown : Tables → Row → Failure → Type 0
SaysKnown t row one = one ≡ failure_at NameUnknown (key_of row) None → IsKnown t row.folder row.entry.name

-- a row has the winner of its name
abbrev pub SaysWinner : Tables → Row → Failure → Type 0
SaysWinner t row one = one ≡ failure_at NotWinner (key_of row) None → IsWinner t row.folder row.entry.name (row.device, row.entry)

-- a device meets what a reason asks of it beside a row
abbrev pub SaysReason : Tables → Row → Share → Reason → Failure → Type 0
SaysReason t row share reason one = one ≡ failure_at reason (key_of row) (Some share.device) → AsksShare t reason row share.device

-- what all reasons ask of it
abbrev pub SaysShare : Tables → Row → Share → Failure → Type 0
SaysShare t row share = Each (SaysReason t row share) REASONS

-- what all reasons ask of a row and of these devices beside it
pub record SaysRow (t : Tables) (shares : List Share) (row : Row) (one : Failure) : Type 0 where
  pub known : SaysKnown t row one
  pub winner : SaysWinner t row one
  pub devices : Each (SaysShare t row) shares one

-- that of the devices that share its folder
abbrev pub SaysAtRow : CutParts → Row → Failure → Type 0
SaysAtRow cut row = SaysRow (tables_of cut) (shares_of row.folder cut.folders) row

-- ---- what the rows about one name say, all together

-- each of them has the name's winner
abbrev pub AreWon : Tables → Folder × FileName → List Row → Type 0
AreWon t key rows = (row : Row) → Contains rows row → IsWinner t key.0 key.1 (row.device, row.entry)

-- a device meets what a reason asks of it beside a row, and beside another one if there is one
abbrev pub AsksOther : Tables → Reason → Option Row → Device → Type 0
AsksOther t reason None device = ⊤
AsksOther t reason (Some other) device = AsksShare t reason other device

abbrev pub AsksBoth : Tables → Reason → Row → Option Row → Device → Type 0
AsksBoth t reason row other device = AsksShare t reason row device × AsksOther t reason other device

abbrev pub SaysReasonBoth : Tables → Row → Option Row → Share → Reason → Failure → Type 0
SaysReasonBoth t row other share reason one = one ≡ failure_at reason (key_of row) (Some share.device) → AsksBoth t reason row other share.device

-- what all reasons ask of it
abbrev pub SaysBoth : Tables → Row → Option Row → Share → Failure → Type 0
SaysBoth t row other share = Each (SaysReasonBoth t row other share) REASONS

-- what is asked of a row's name, of all rows about it, and of these devices beside two of these
pub record SaysName (t : Tables) (shares : List Share) (rows : List Row) (row : Row) (other : Option Row) (one : Failure) : Type 0 where
  pub known : SaysKnown t row one
  pub winner : one ≡ failure_at NotWinner (key_of row) None → AreWon t (key_of row) rows
  pub devices : Each (SaysBoth t row other) shares one

-- what a reason asks of a device beside the other row and the name's entries, if there is one
abbrev pub AsksOtherBeside : Reason → Option Row → List Listed → Device → Option Entry → Option NodeParts → Type 0
AsksOtherBeside reason None group device own stored = ⊤
AsksOtherBeside reason (Some other) group device own stored = AsksBeside reason other group device own stored
