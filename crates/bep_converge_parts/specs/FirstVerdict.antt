-- Which of the verdicts on the parts of a cut comes first, where it is asked whether it converges (this project's profile).
use Rattle.std.specs.Prelude.{◌≡◌, ⊤, List, Contains}
use Rattle.bep_converge.specs.ConvergeReasons.{converge_number_of}
use Rattle.bep_converge.specs.ConvergeVerdict.{ConvergeVerdict, Converging, NotConverging}
use Rattle.bep_parts.specs.FirstVerdict.{IsUpTo, place_of}
use Rattle.bep_parts.specs.Parts.{Keeps}

-- one verdict comes no later than another; Converging comes last
abbrev pub ConvergeComesUpTo : ConvergeVerdict → ConvergeVerdict → Type 0
ConvergeComesUpTo one Converging = ⊤
ConvergeComesUpTo Converging (NotConverging reason folder name device) = ⊥
ConvergeComesUpTo (NotConverging reason folder name device) (NotConverging other in_folder at_name of) =
    IsUpTo (converge_number_of reason) (place_of folder name device) (converge_number_of other) (place_of in_folder at_name of)

-- a part, with the verdict on it
pub record ConvergeJudged : Type 0 where
  pub keeps : Keeps
  pub verdict : ConvergeVerdict

-- the verdict is that on some part, and comes no later than that on any
pub record IsFirstConvergeVerdict (parts : List ConvergeJudged) (verdict : ConvergeVerdict) : Type 0 where
  pub among : (part : ConvergeJudged) × Contains parts part × (part.verdict ≡ verdict)
  pub first : (part : ConvergeJudged) → Contains parts part → ConvergeComesUpTo verdict part.verdict
