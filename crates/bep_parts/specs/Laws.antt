-- What the parts of a cut say of the whole; the functions of src/laws.rt have these as contracts. No law asks that a record has
-- the name at which it stands, nor that a name is in one part only.
use Rattle.std.specs.Prelude.{◌≡◌, ◌↔◌, true, List, map, Contains}
use Rattle.bep_model.specs.declared.row.Row.{Row}
use Rattle.bep_model.specs.Tables.{Tables, Folder, FileName}
use Rattle.bep_model.specs.Foreign.{IsKnown}
use Rattle.bep_model.specs.Settled.{Rise, IsSettled}
use Rattle.bep_model.specs.Firm.{IsFirm}
use Rattle.bep_model.specs.Reasons.{Place, Asks}
use Rattle.bep_model.specs.FirmVerdict.{AsksFirm, FirmVerdict, IsFirmVerdict}
use Rattle.bep_model.specs.Verdict.{Verdict, IsVerdict}
use Rattle.bep_model.specs.declared.reason.Reason.{Reason}
use Rattle.bep_model.specs.declared.firm_reason.FirmReason.{FirmReason}
use Rattle.bep_tables.specs.declared.cut.CutParts.{CutParts}
use Rattle.bep_tables.specs.Cut.{tables_of}
use Rattle.bep_parts.specs.Parts.{Keeps, Part, IsInSome, AreRowsOf, all_but, only, rows_of}
use Rattle.bep_parts.specs.Document.{IsCutOf}
use Rattle.bep_parts.specs.FirstVerdict.{FirmJudged, IsFirstFirmVerdict, IsFirstVerdict, Judged}

-- a cut is settled if a part of it is, and so is the rest
abbrev pub SettledByParts : Type 0
SettledByParts = (t : Tables) (keeps : Keeps) (rows : List Row) → Rise rows →
    IsSettled (only keeps t) (rows_of keeps rows) → IsSettled (only (all_but keeps) t) (rows_of (all_but keeps) rows) → IsSettled t rows

-- a cut is settled if each of its parts is, and each name is in some part
abbrev pub SettledByManyParts : Type 0
SettledByManyParts = (t : Tables) (parts : List Keeps) (rows : List Row) → Rise rows → ((folder : Folder) (name : FileName) → IsInSome parts folder name) →
    ((keeps : Keeps) → Contains parts keeps → IsSettled (only keeps t) (rows_of keeps rows)) → IsSettled t rows

-- each part of a settled cut is settled
abbrev pub PartsOfSettled : Type 0
PartsOfSettled = (t : Tables) (keeps : Keeps) (rows : List Row) → IsSettled t rows → IsSettled (only keeps t) (rows_of keeps rows)

-- a cut is firm if a part of it is, and so is the rest
abbrev pub FirmByParts : Type 0
FirmByParts = (t : Tables) (keeps : Keeps) (rows : List Row) → Rise rows →
    IsFirm (only keeps t) (rows_of keeps rows) → IsFirm (only (all_but keeps) t) (rows_of (all_but keeps) rows) → IsFirm t rows

-- a cut is firm if each of its parts is, and each name is in some part
abbrev pub FirmByManyParts : Type 0
FirmByManyParts = (t : Tables) (parts : List Keeps) (rows : List Row) → Rise rows → ((folder : Folder) (name : FileName) → IsInSome parts folder name) →
    ((keeps : Keeps) → Contains parts keeps → IsFirm (only keeps t) (rows_of keeps rows)) → IsFirm t rows

-- each part of a firm cut is firm
abbrev pub PartsOfFirm : Type 0
PartsOfFirm = (t : Tables) (keeps : Keeps) (rows : List Row) → IsFirm t rows → IsFirm (only keeps t) (rows_of keeps rows)

-- if each part is settled for rows of its own, and each known name is in some part, then the cut is settled for exactly
-- these rows, in order
abbrev pub MergedIsSettled : Type 0
MergedIsSettled = (t : Tables) (parts : List Part) → ((folder : Folder) (name : FileName) → IsKnown t folder name → IsInSome (map (λ part. part.keeps) parts) folder name) →
    ((part : Part) → Contains parts part → IsSettled (only part.keeps t) part.rows) → (rows : List Row) × IsSettled t rows × AreRowsOf parts rows

-- and firm if each part is
abbrev pub MergedIsFirm : Type 0
MergedIsFirm = (t : Tables) (parts : List Part) → ((folder : Folder) (name : FileName) → IsKnown t folder name → IsInSome (map (λ part. part.keeps) parts) folder name) →
    ((part : Part) → Contains parts part → IsFirm (only part.keeps t) part.rows) → (rows : List Row) × IsFirm t rows × AreRowsOf parts rows

-- a reason asks at a place of a part what it asks there of the whole, if the part keeps the name, and else nothing
abbrev pub FaultsByParts : Type 0
FaultsByParts = (t : Tables) (keeps : Keeps) (rows : List Row) → Rise rows → (reason : Reason) (place : Place) →
    Asks (only keeps t) (rows_of keeps rows) reason place ↔ (keeps place.folder place.name ≡ true → Asks t rows reason place)

abbrev pub FirmFaultsByParts : Type 0
FirmFaultsByParts = (t : Tables) (keeps : Keeps) (rows : List Row) → Rise rows → (reason : FirmReason) (place : Place) →
    AsksFirm (only keeps t) (rows_of keeps rows) reason place ↔ (keeps place.folder place.name ≡ true → AsksFirm t rows reason place)

-- the verdict on a cut is the first of the verdicts on its parts, if each name is in some part
abbrev pub VerdictByParts : Type 0
VerdictByParts = (t : Tables) (parts : List Judged) (rows : List Row) (verdict : Verdict) → Rise rows →
    ((folder : Folder) (name : FileName) → IsInSome (map (λ part. part.keeps) parts) folder name) →
    ((part : Judged) → Contains parts part → IsVerdict (only part.keeps t) (rows_of part.keeps rows) part.verdict) →
    IsFirstVerdict parts verdict → IsVerdict t rows verdict

-- and where firm is asked for
abbrev pub FirmVerdictByParts : Type 0
FirmVerdictByParts = (t : Tables) (parts : List FirmJudged) (rows : List Row) (verdict : FirmVerdict) → Rise rows →
    ((folder : Folder) (name : FileName) → IsInSome (map (λ part. part.keeps) parts) folder name) →
    ((part : FirmJudged) → Contains parts part → IsFirmVerdict (only part.keeps t) (rows_of part.keeps rows) part.verdict) →
    IsFirstFirmVerdict parts verdict → IsFirmVerdict t rows verdict

-- a cut that was made of another one by names says what that one says of these names
abbrev pub DocumentsSayOnly : Type 0
DocumentsSayOnly = (keeps : Keeps) (whole part : CutParts) → IsCutOf keeps whole part → tables_of part ≡ only keeps (tables_of whole)
