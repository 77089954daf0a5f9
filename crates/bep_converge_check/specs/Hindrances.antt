-- All that keeps a cut from converging, as one list (this project's profile).
use Rattle.std.specs.Prelude.{◌↔◌, List, [], ◌∷◌, Contains}
use Rattle.std.specs.List.Sorted.{IsStrictlySortedBy}
use Rattle.bep_model.specs.Tables.{Tables}
use Rattle.bep_converge.specs.ConvergeReasons.{AsksToConverge}
use Rattle.bep_converge.specs.ConvergeVerdict.{ConvergeVerdict, Converging, NotConverging}
use Rattle.bep_converge_check.specs.Hindrance.{Hinder, hinder_cmp}

-- what the reason asks holds at its place
abbrev pub IsMetThere : Tables → Hinder → Type 0
IsMetThere t one = AsksToConverge t one.reason one.place

-- these are all of the eight reasons that fail, each at each place at which it fails, each once, by reason, then folder, name
-- and device
pub record AreHindrances (t : Tables) (found : List Hinder) : Type 0 where
  pub exact : (one : Hinder) → Contains found one ↔ (¬ IsMetThere t one)
  pub rise : IsStrictlySortedBy hinder_cmp found

-- the verdict that the first of these tells
abbrev pub converge_verdict_of : List Hinder → ConvergeVerdict
converge_verdict_of [] = Converging
converge_verdict_of (one ∷ more) = NotConverging one.reason one.place.folder one.place.name one.place.device
