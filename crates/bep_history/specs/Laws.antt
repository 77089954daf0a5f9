-- What the parts of one history are together; the functions of src/ have these as contracts (this project's profile).
use Rattle.std.specs.Prelude.{◌≡◌, ℕ, true, List, Contains}
use Rattle.bep_fit.specs.declared.object.Object.{Object}
use Rattle.bep_fit.specs.declared.stamped.Stamped.{Stamped}
use Rattle.bep_fit.specs.Fit.{AreOfOneRound, Fits}
use Rattle.bep_fit.specs.Logs.{HasLog, ObjectLog}
use Rattle.bep_fit.specs.Merge as lists
use Rattle.bep_history.specs.declared.view.Row.{Row}
use Rattle.bep_history.specs.declared.view.View.{View}
use Rattle.bep_history.specs.Parts.{is_about}
use Rattle.bep_history.specs.View.{IsTold, MayAdd, claims_of, row, with_event}

-- in each log the tickets rise
abbrev pub AllRise : List ObjectLog → Type 0
AllRise logs = (log : ObjectLog) → Contains logs log → lists.Rises (λ (one : Stamped). one.ticket) log.events

-- Logs of one round that have the rows of what was told, one for each object at least, fit.
abbrev pub PartsFit : Type 0
PartsFit = (objects : List Object) (old : View) (logs : List ObjectLog) →
    IsTold objects old → ((log : ObjectLog) → Contains logs log → Contains old.rows (row log.object log.events)) →
    ((object : Object) → Contains objects object → HasLog logs object) → AllRise logs → AreOfOneRound logs →
    (count : ℕ) × Fits logs count

-- what a seat has added stands among the claims that it gives
abbrev pub AddedIsClaimed : Type 0
AddedIsClaimed = (objects : List Object) (old : View) (event : Stamped) →
    MayAdd objects old event → Contains (claims_of (with_event event old)).claims event

-- what is claimed stands in each row that it touches
abbrev pub ClaimedStands : Type 0
ClaimedStands = (objects : List Object) (old : View) (one : Row) (event : Stamped) →
    IsTold objects old → Contains old.claims event → Contains old.rows one → is_about one.object event ≡ true → Contains one.events event
