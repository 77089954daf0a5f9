-- What the parts of a cut say of whether the whole converges; the functions of src/laws.rt have these as contracts.
use Rattle.std.specs.Prelude.{◌≡◌, ◌↔◌, true, List, map, Contains}
use Rattle.bep_converge.specs.ConvergeReasons.{AsksToConverge}
use Rattle.bep_converge.specs.ConvergeVerdict.{ConvergeVerdict, IsConvergeVerdict}
use Rattle.bep_converge.specs.declared.converge_reason.ConvergeReason.{ConvergeReason}
use Rattle.bep_model.specs.Foreign.{IsKnown}
use Rattle.bep_model.specs.Reasons.{Place}
use Rattle.bep_model.specs.Tables.{Tables, Folder, FileName}
use Rattle.bep_parts.specs.Parts.{IsInSome, Keeps, only}
use Rattle.bep_converge_parts.specs.FirstVerdict.{ConvergeJudged, IsFirstConvergeVerdict}

-- a reason asks at a place of a part what it asks there of the whole, if the part keeps the name, and else nothing
abbrev pub ConvergeFaultsByParts : Type 0
ConvergeFaultsByParts = (t : Tables) (keeps : Keeps) (reason : ConvergeReason) (place : Place) →
    AsksToConverge (only keeps t) reason place ↔ (keeps place.folder place.name ≡ true → AsksToConverge t reason place)

-- the verdict on a cut is the first of the verdicts on its parts, if each known name is in some part
abbrev pub ConvergeVerdictByParts : Type 0
ConvergeVerdictByParts = (t : Tables) (parts : List ConvergeJudged) (verdict : ConvergeVerdict) →
    ((folder : Folder) (name : FileName) → IsKnown t folder name → IsInSome (map (λ part. part.keeps) parts) folder name) →
    ((part : ConvergeJudged) → Contains parts part → IsConvergeVerdict (only part.keeps t) part.verdict) →
    IsFirstConvergeVerdict parts verdict → IsConvergeVerdict t verdict
