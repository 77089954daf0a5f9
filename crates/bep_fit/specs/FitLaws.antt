-- Where logs fit, they are of one run; the functions of src/ have these as contracts.
use Rattle.std.specs.Prelude.{◌≡◌, ◌↔◌, ℕ, List, length, Contains}
use Rattle.bep_model.specs.declared.row.Row.{Row}
use Rattle.bep_model.specs.Settled.{IsSettled}
use Rattle.bep_model.specs.Stays.{Stays}
use Rattle.bep_model.specs.Tables.{Tables, Device}
use Rattle.bep_machine.specs.Cluster.{Cluster}
use Rattle.bep_machine.specs.HalfLaws.{HasStepsOf}
use Rattle.bep_machine.specs.Said.{tables_of_cluster}
use Rattle.bep_machine.specs.Sound.{IsSound}
use Rattle.bep_machine.specs.Steps.{Event, IsRun}
use Rattle.bep_fit.specs.declared.object.Object.{Object}
use Rattle.bep_fit.specs.declared.stamped.Stamped.{Stamped}
use Rattle.bep_fit.specs.declared.verdict.RunVerdict.{RunVerdict}
use Rattle.bep_fit.specs.Fit.{AreFaultless, AreOfOneRound, DoAgree, Fits, IsMerged, IsRunVerdict}
use Rattle.bep_fit.specs.Logs.{HasLog, ObjectLog, events_of, named, touches}
use Rattle.bep_fit.specs.Merge as lists
use Rattle.bep_fit.specs.Replayed.{AreQuietLogs, AreReplayed, AreResetOf, AreSoundLogs}

-- ---- the merged list

-- each object's log is what touches the object in the list, in the list's order
abbrev pub AreParts : List ObjectLog → List Stamped → Type 0
AreParts = lists.AreParts (λ (log : ObjectLog). log.events) touches

-- no event is at fault exactly where the logs agree
abbrev pub FaultlessLogsAgree : Type 0
FaultlessLogsAgree = (logs : List ObjectLog) → AreFaultless logs ↔ DoAgree logs

-- such logs have a merged list, and each of them is its part of that list
abbrev pub FaultlessLogsMerge : Type 0
FaultlessLogsMerge = (logs : List ObjectLog) → AreFaultless logs → (merged : List Stamped) × IsMerged logs merged × AreParts logs merged

-- they have no other merged list
abbrev pub MergedIsOne : Type 0
MergedIsOne = (logs : List ObjectLog) (merged other : List Stamped) → IsMerged logs merged → IsMerged logs other → merged ≡ other

-- One list of events, by rising ticket, of which each object's log is what touches the object, in that order. Each event of it
-- is logged, and what it names has a log.
pub record IsListOf (logs : List ObjectLog) (list : List Stamped) : Type 0 where
  pub rises : lists.Rises (λ (one : Stamped). one.ticket) list
  pub parts : AreParts logs list
  pub logged : (one : Stamped) → Contains list one → lists.IsLogged (λ (log : ObjectLog). log.events) logs one
  pub there : (one : Stamped) (object : Object) → Contains list one → Contains (named one) object → HasLog logs object

-- logs fit exactly where they are of one round and of one list; the count is its length
abbrev pub LogsFitExactly : Type 0
LogsFitExactly = (logs : List ObjectLog) (count : ℕ) →
    Fits logs count ↔ (AreOfOneRound logs × ((list : List Stamped) × IsListOf logs list × (length list ≡ count)))

-- ---- the verdict

-- no logs have two verdicts: they fit or have a misfit, not both, and one count or one misfit
abbrev pub RunVerdictIsOne : Type 0
RunVerdictIsOne = (logs : List ObjectLog) (verdict other : RunVerdict) → IsRunVerdict logs verdict → IsRunVerdict logs other → verdict ≡ other

-- all logs have one
abbrev pub RunVerdictIsThere : Type 0
RunVerdictIsThere = (logs : List ObjectLog) → (verdict : RunVerdict) × IsRunVerdict logs verdict

-- ---- one run

-- The merged list is a run of the machine, from the cluster of all bases to that of all present states. Each event stands in
-- it once, and each object's events in that object's order.
pub record IsOneRun (logs : List ObjectLog) (merged : List Stamped) (bases present : Cluster) : Type 0 where
  pub is_merged : IsMerged logs merged
  pub parts : AreParts logs merged
  pub events : List Event
  pub steps : HasStepsOf (events_of merged) events
  pub run : IsRun bases events present
  pub sound : IsSound present

-- the same of a sound cluster whose devices and links are what fitting logs make of their bases
abbrev pub FittingLogsAreOneRun : Type 0
FittingLogsAreOneRun = (logs : List ObjectLog) (bases present : Cluster) (count : ℕ) →
    IsSound bases → AreReplayed logs bases present → AreSoundLogs logs → Fits logs count →
    (merged : List Stamped) × (length merged ≡ count) × IsOneRun logs merged bases present

-- if the cut of the bases is settled for some rows, and no event is a local step, each store holds what it held, and only
-- these devices, which were reset, may lack records
abbrev pub SettledLogsStayPut : Type 0
SettledLogsStayPut = (logs : List ObjectLog) (bases present : Cluster) (count : ℕ) (tables : Tables) (rows : List Row) (reset : List Device) →
    IsSound bases → AreReplayed logs bases present → Fits logs count → AreQuietLogs logs → AreResetOf logs reset →
    tables_of_cluster bases ≡ tables → IsSettled tables rows → Stays tables rows reset (tables_of_cluster present)
