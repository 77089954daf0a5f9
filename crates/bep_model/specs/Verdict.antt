-- The verdict on a cut and a list of rows (this project's profile).
use Rattle.std.specs.Prelude.{◌≡◌, ℕ, ◌<◌, List, Option}
use Rattle.std.specs.declared.cmp.Ordering.TheVariants.{Less}
use Rattle.bep_model.specs.declared.row.Row.{Row}
use Rattle.bep_model.specs.declared.reason.Reason.{Reason}
use Rattle.bep_model.specs.declared.reason.Reason.TheVariants.{CertificateOrder, NameMissing, NameUnknown, NotWinner, RecordMissing, RecordDiffers, LocalOnly, StoreDiffers, StoreUnclean, ViewAhead, FlightAhead, PullAhead}
use Rattle.bep_model.specs.Tables.{Tables, Device, Folder, FileName}
use Rattle.bep_model.specs.Settled.{IsSettled}
use Rattle.bep_model.specs.Reasons.{Place, place_cmp, Asks}

pub data Verdict : Type 0 where
  Settled : Verdict
  Not : Reason → Folder → FileName → Option Device → Verdict

-- the place of a reason in the table, from 1
abbrev pub number_of : Reason → ℕ
number_of CertificateOrder = 1
number_of NameMissing = 2
number_of NameUnknown = 3
number_of NotWinner = 4
number_of RecordMissing = 5
number_of RecordDiffers = 6
number_of LocalOnly = 7
number_of StoreDiffers = 8
number_of StoreUnclean = 9
number_of ViewAhead = 10
number_of FlightAhead = 11
number_of PullAhead = 12

-- the reason fails at the place, no reason before it fails anywhere, and it doesn't fail at an earlier place
pub record IsFirstFault (t : Tables) (rows : List Row) (reason : Reason) (place : Place) : Type 0 where
  pub fails : ¬ Asks t rows reason place
  pub least : (lesser : Reason) (any : Place) → number_of lesser < number_of reason → Asks t rows lesser any
  pub first : (earlier : Place) → place_cmp earlier place ≡ Less → Asks t rows reason earlier

-- the verdict: settled, or else the first reason that fails, at its first place
abbrev pub IsVerdict : Tables → List Row → Verdict → Type 0
IsVerdict t rows Settled = IsSettled t rows
IsVerdict t rows (Not reason folder name device) =
    IsFirstFault t rows reason (record { folder = folder; name = name; device = device })
