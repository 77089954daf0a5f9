-- The line of the verdict on a run, and what is told beside it (this project's profile).
use Rattle.std.specs.Prelude.{◌++◌, ℕ, List, [], ◌∷◌, codes, if◌then◌else◌, length, nat_lt}
use Rattle.std.specs.List.{concat, flat_map}
use Rattle.std.specs.Fmt.{decimal}
use Rattle.bep_fit.specs.Logs.{ObjectLog}
use Rattle.bep_fit.specs.declared.object.Object.{Object}
use Rattle.bep_fit.specs.declared.object.Object.TheVariants as objects
use Rattle.bep_fit.specs.declared.verdict.RunVerdict.{RunVerdict}
use Rattle.bep_fit.specs.declared.verdict.RunVerdict.TheVariants.{Fits, Misfit}
use Rattle.bep_lines.specs.Lines.{newline}
use Rattle.bep_log.specs.declared.limits.TheConstants.{MAX_EVENTS}

-- these words and the number
abbrev pub told_line : List ℕ → ℕ → List ℕ
told_line words number = concat (words ∷ decimal number ∷ newline ∷ [])

-- how many events the run has, or the least ticket at fault
abbrev pub run_line : RunVerdict → List ℕ
run_line (Fits count) = told_line (codes "run fits: ") count
run_line (Misfit object ticket) = told_line (codes "run misfit: ") ticket

-- these words and the device or the link
abbrev pub object_line : List ℕ → Object → List ℕ
object_line words (objects.Device device) = concat (words ∷ codes "device " ∷ decimal device ∷ newline ∷ [])
object_line words (objects.Link lower upper) = concat (words ∷ codes "link " ∷ decimal lower ∷ codes " " ∷ decimal upper ∷ newline ∷ [])

-- where the logs don't fit, the first object at fault
abbrev pub fault_line : RunVerdict → List ℕ
fault_line (Fits count) = []
fault_line (Misfit object ticket) = object_line (codes "at fault: ") object

-- a log that has no room for another event
abbrev pub full_line : ObjectLog → List ℕ
full_line log = if nat_lt (length log.events) MAX_EVENTS then [] else object_line (codes "log full: ") log.object

-- what is told of the logs of a run beside the verdict on them
abbrev pub log_lines : RunVerdict → List ObjectLog → List ℕ
log_lines verdict logs = fault_line verdict ++ flat_map full_line logs
