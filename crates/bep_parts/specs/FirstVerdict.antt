-- Which of the verdicts on the parts of a cut comes first (this project's profile).
use Rattle.std.specs.Prelude.{◌≡◌, ◌≢◌, ◌⊎◌, ◌<◌, ℕ, ⊤, List, Option, Some, Contains}
use Rattle.std.specs.declared.cmp.Ordering.TheVariants.{Greater}
use Rattle.bep_model.specs.Tables.{Device, Folder, FileName}
use Rattle.bep_model.specs.Reasons.{Place, place_cmp}
use Rattle.bep_model.specs.Verdict.{Verdict, Settled, Not, number_of}
use Rattle.bep_model.specs.FirmVerdict.{FirmVerdict, Firm, Unsettled, Loose, firm_number_of}
use Rattle.bep_parts.specs.Parts.{Keeps}

abbrev pub place_of : Folder → FileName → Option Device → Place
place_of folder name device = record { folder = folder; name = name; device = device }

-- a reason of this number at this place comes no later than another one: by number, then by place
abbrev pub IsUpTo : ℕ → Place → ℕ → Place → Type 0
IsUpTo number place other other_place = (number < other) ⊎ ((number ≡ other) × (place_cmp place other_place ≢ Greater))

-- one verdict comes no later than another; Settled comes last
abbrev pub ComesUpTo : Verdict → Verdict → Type 0
ComesUpTo one Settled = ⊤
ComesUpTo Settled (Not reason folder name device) = ⊥
ComesUpTo (Not reason folder name device) (Not other in_folder at_name of) =
    IsUpTo (number_of reason) (place_of folder name device) (number_of other) (place_of in_folder at_name of)

-- a part, with the verdict on it
pub record Judged : Type 0 where
  pub keeps : Keeps
  pub verdict : Verdict

-- the verdict is that on some part, and comes no later than that on any
pub record IsFirstVerdict (parts : List Judged) (verdict : Verdict) : Type 0 where
  pub among : (part : Judged) × Contains parts part × (part.verdict ≡ verdict)
  pub first : (part : Judged) → Contains parts part → ComesUpTo verdict part.verdict

-- ---- where firm is asked for

-- what isn't settled comes first, then what isn't firm; Firm comes last
abbrev pub FirmComesUpTo : FirmVerdict → FirmVerdict → Type 0
FirmComesUpTo one Firm = ⊤
FirmComesUpTo Firm (Unsettled reason folder name device) = ⊥
FirmComesUpTo Firm (Loose reason folder name device) = ⊥
FirmComesUpTo (Unsettled reason folder name device) (Unsettled other in_folder at_name of) =
    IsUpTo (number_of reason) (place_of folder name device) (number_of other) (place_of in_folder at_name of)
FirmComesUpTo (Unsettled reason folder name device) (Loose other in_folder at_name of) = ⊤
FirmComesUpTo (Loose reason folder name device) (Unsettled other in_folder at_name of) = ⊥
FirmComesUpTo (Loose reason folder name device) (Loose other in_folder at_name of) =
    IsUpTo (firm_number_of reason) (place_of folder name (Some device)) (firm_number_of other) (place_of in_folder at_name (Some of))

pub record FirmJudged : Type 0 where
  pub keeps : Keeps
  pub verdict : FirmVerdict

pub record IsFirstFirmVerdict (parts : List FirmJudged) (verdict : FirmVerdict) : Type 0 where
  pub among : (part : FirmJudged) × Contains parts part × (part.verdict ≡ verdict)
  pub first : (part : FirmJudged) → Contains parts part → FirmComesUpTo verdict part.verdict
