-- The verdict on a cut of which it is asked whether it converges (this project's profile).
use Rattle.std.specs.Prelude.{◌≡◌, ◌<◌, Option}
use Rattle.std.specs.declared.cmp.Ordering.TheVariants.{Less}
use Rattle.bep_model.specs.Tables.{Tables, Device, Folder, FileName}
use Rattle.bep_model.specs.Reasons.{Place, place_cmp}
use Rattle.bep_converge.specs.declared.converge_reason.ConvergeReason.{ConvergeReason}
use Rattle.bep_converge.specs.Prevails.{AllPrevail}
use Rattle.bep_converge.specs.ConvergeReasons.{AsksToConverge, converge_number_of}

-- the reason fails at the place, no reason before it fails anywhere, and it doesn't fail at an earlier place
pub record IsFirstHindrance (t : Tables) (reason : ConvergeReason) (place : Place) : Type 0 where
  pub fails : ¬ AsksToConverge t reason place
  pub least : (lesser : ConvergeReason) (any : Place) → converge_number_of lesser < converge_number_of reason → AsksToConverge t lesser any
  pub first : (earlier : Place) → place_cmp earlier place ≡ Less → AsksToConverge t reason earlier

pub data ConvergeVerdict : Type 0 where
  Converging : ConvergeVerdict
  -- it doesn't converge, for this reason at this place
  NotConverging : ConvergeReason → Folder → FileName → Option Device → ConvergeVerdict

-- the verdict: converging, where all prevail; else the first reason that fails, at its first place
abbrev pub IsConvergeVerdict : Tables → ConvergeVerdict → Type 0
IsConvergeVerdict t Converging = AllPrevail t
IsConvergeVerdict t (NotConverging reason folder name device) = IsFirstHindrance t reason (record { folder = folder; name = name; device = device })
