-- All that fails of a cut under a certificate, as one list (this project's profile).
use Rattle.std.specs.Prelude.{◌↔◌, List, [], ◌∷◌, Contains}
use Rattle.std.specs.List.Sorted.{IsStrictlySortedBy}
use Rattle.bep_model.specs.declared.row.Row.{Row}
use Rattle.bep_model.specs.Tables.{Tables}
use Rattle.bep_model.specs.Reasons.{Asks}
use Rattle.bep_model.specs.Verdict.{Verdict, Settled, Not}
use Rattle.bep_audit.specs.Walk.{Failure, failure_cmp}

-- what the reason of a failure asks holds at its place
abbrev pub IsMet : Tables → List Row → Failure → Type 0
IsMet t rows one = Asks t rows one.reason one.place

-- these are all failures, each once, by reason, then folder, name and device
pub record AreFailures (t : Tables) (rows : List Row) (found : List Failure) : Type 0 where
  pub exact : (one : Failure) → Contains found one ↔ (¬ IsMet t rows one)
  pub rise : IsStrictlySortedBy failure_cmp found

-- the verdict that the first of these tells
abbrev pub verdict_of : List Failure → Verdict
verdict_of [] = Settled
verdict_of (one ∷ more) = Not one.reason one.place.folder one.place.name one.place.device
