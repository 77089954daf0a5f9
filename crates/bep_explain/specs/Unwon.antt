-- All that fails of a cut under the winners of its names, of which some may have none (this project's profile).
use Rattle.std.specs.Prelude.{◌≡◌, List, map}
use Rattle.bep_audit.specs.Walk.{Failure}
use Rattle.bep_model.specs.Tables.{Tables}
use Rattle.bep_model.specs.declared.reason.Reason.{Reason}
use Rattle.bep_model.specs.declared.reason.Reason.TheVariants.{NameMissing, NotWinner}
use Rattle.bep_model.specs.declared.row.Row.{Row}
use Rattle.bep_explain.specs.Found.{AreFailures}

-- a name that has no row among the winners has no winner
abbrev pub reason_unwon : Reason → Reason
reason_unwon NameMissing = NotWinner
reason_unwon reason = reason

abbrev pub as_unwon : Failure → Failure
as_unwon one = record one { reason = reason_unwon one.reason }

-- these are all failures under the winners, in order; a name without a winner, for which no row can stand, is told as that
abbrev pub AreFailuresUnwon : Tables → List Row → List Failure → Type 0
AreFailuresUnwon t rows told = (found : List Failure) × AreFailures t rows found × (told ≡ map as_unwon found)
