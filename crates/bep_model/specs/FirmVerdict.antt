-- The four reasons for which a settled cut isn't firm, and the verdict on a cut and a list of rows (this project's profile).
use Rattle.std.specs.Prelude.{◌≡◌, ℕ, ◌<◌, false, List, Option, Some, Contains}
use Rattle.std.specs.declared.cmp.Ordering.TheVariants.{Less}
use Rattle.bep_record.specs.declared.entry.Entry.{Entry}
use Rattle.bep_record.specs.Vector.{IsAtMost}
use Rattle.bep_model.specs.declared.row.Row.{Row}
use Rattle.bep_model.specs.declared.reason.Reason.{Reason}
use Rattle.bep_model.specs.declared.firm_reason.FirmReason.{FirmReason}
use Rattle.bep_model.specs.declared.firm_reason.FirmReason.TheVariants.{VersionDiffers, ViewNotBelow, FlightNotBelow, PullNotBelow}
use Rattle.bep_model.specs.Tables.{Tables, Device, Folder, FileName, Shares}
use Rattle.bep_model.specs.Foreign.{IsViewed, IsFlying, IsTarget}
use Rattle.bep_model.specs.Settled.{IsSettled, key_of}
use Rattle.bep_model.specs.Firm.{OwnHasVersion, IsFirm}
use Rattle.bep_model.specs.Reasons.{Place, place_cmp}
use Rattle.bep_model.specs.Verdict.{IsFirstFault}

-- the place of a reason in the order in which they are told, from 1
abbrev pub firm_number_of : FirmReason → ℕ
firm_number_of VersionDiffers = 1
firm_number_of ViewNotBelow = 2
firm_number_of FlightNotBelow = 3
firm_number_of PullNotBelow = 4

-- a record that isn't invalid has a version that is at most the winner's
abbrev pub AsksAtMost : Row → Entry → Type 0
AsksAtMost row entry = entry.invalid ≡ false → IsAtMost entry.version row.entry.version

-- what a reason asks of a sharing device, beside a row
abbrev pub AsksFirmShare : Tables → FirmReason → Row → Device → Type 0
AsksFirmShare t VersionDiffers row device = OwnHasVersion (t.own device row.folder row.entry.name) row.entry.version
AsksFirmShare t ViewNotBelow row device =
    (entry : Entry) → IsViewed t device row.folder row.entry.name entry → AsksAtMost row entry
AsksFirmShare t FlightNotBelow row device =
    (entry : Entry) → IsFlying t device row.folder row.entry.name entry → AsksAtMost row entry
AsksFirmShare t PullNotBelow row device =
    (entry : Entry) → IsTarget t device row.folder row.entry.name entry → AsksAtMost row entry

-- what it asks at a device's part of a name: nothing, unless the device shares the folder and there is a row
abbrev pub AsksFirm : Tables → List Row → FirmReason → Place → Type 0
AsksFirm t rows reason place = (row : Row) (device : Device) →
    Contains rows row → key_of row ≡ (place.folder, place.name) → place.device ≡ Some device → Shares t device place.folder →
    AsksFirmShare t reason row device

-- the reason fails at the place, no reason before it fails anywhere, and it doesn't fail at an earlier place
pub record IsFirstLoose (t : Tables) (rows : List Row) (reason : FirmReason) (place : Place) : Type 0 where
  pub fails : ¬ AsksFirm t rows reason place
  pub least : (lesser : FirmReason) (any : Place) → firm_number_of lesser < firm_number_of reason → AsksFirm t rows lesser any
  pub first : (earlier : Place) → place_cmp earlier place ≡ Less → AsksFirm t rows reason earlier

pub data FirmVerdict : Type 0 where
  Firm : FirmVerdict
  -- it isn't settled, for this reason at this place
  Unsettled : Reason → Folder → FileName → Option Device → FirmVerdict
  -- it is settled, and isn't firm for this reason at this place
  Loose : FirmReason → Folder → FileName → Device → FirmVerdict

-- the verdict: firm; or else, where it isn't settled, the verdict on that; or else the first reason that fails, at its first
-- place
abbrev pub IsFirmVerdict : Tables → List Row → FirmVerdict → Type 0
IsFirmVerdict t rows Firm = IsFirm t rows
IsFirmVerdict t rows (Unsettled reason folder name device) =
    IsFirstFault t rows reason (record { folder = folder; name = name; device = device })
IsFirmVerdict t rows (Loose reason folder name device) =
    IsSettled t rows × IsFirstLoose t rows reason (record { folder = folder; name = name; device = Some device })
