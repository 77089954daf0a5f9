-- What is proved of cuts that prevail; the functions of src/laws.rt and src/steps.rt have these as contracts.
use Rattle.std.specs.Prelude.{◌≡◌, ◌≤◌, ◌↔◌, ℕ, List, [], length, Option, Some}
use Rattle.bep_record.specs.declared.entry.Entry.{Entry}
use Rattle.bep_model.specs.Tables.{Tables, Device, Folder, FileName, Shares}
use Rattle.bep_model.specs.declared.row.Row.{Row}
use Rattle.bep_model.specs.Settled.{IsListOfWinners}
use Rattle.bep_model.specs.Free.{IsFreeRun}
use Rattle.bep_record.specs.Content.{content_of}
use Rattle.bep_model.specs.Firm.{AreEqual, IsFirm}
use Rattle.bep_machine.specs.declared.step.Step.{Step}
use Rattle.bep_machine.specs.Answer.{Answer}
use Rattle.bep_machine.specs.Cluster.{Cluster}
use Rattle.bep_machine.specs.Steps.{IsStep, Event, IsRun, IsQuiet, AreQuiet, reset_made, HasNoReset}
use Rattle.bep_machine.specs.Said.{tables_of_cluster}
use Rattle.bep_machine.specs.Sound.{IsSound}
use Rattle.bep_tables.specs.declared.cut.CutParts.{CutParts}
use Rattle.bep_origin.specs.FromCut.{cluster_from}
use Rattle.bep_converge.specs.Received.{AllHaveHashes}
use Rattle.bep_converge.specs.Prevails.{Prevails, AllPrevail}
use Rattle.bep_converge.specs.Orderly.{StaysAt, IsOrderlyStep, IsOrderlyRun}
use Rattle.bep_model.specs.Reasons.{Place}
use Rattle.bep_converge.specs.declared.converge_reason.ConvergeReason.{ConvergeReason}
use Rattle.bep_converge.specs.ConvergeReasons.{AsksToConverge}
use Rattle.bep_converge.specs.ConvergeVerdict.{ConvergeVerdict, IsConvergeVerdict}
use Rattle.bep_converge.specs.Bound.{TakesTimes, HasAllAbove}
use Rattle.bep_converge.specs.Ended.{IsEnded, HearsOfNone}
use Rattle.bep_converge.specs.Rises.{GoesOnPrevailing}

-- each orderly run is one of free peers
abbrev pub OrderlyRunsAreFree : Type 0
OrderlyRunsAreFree = (old new : Tables) (between : List Tables) → IsOrderlyRun old between new → IsFreeRun old between new

-- a cut prevails exactly where none of the eight reasons fails anywhere
abbrev pub ConvergingIsFaultless : Type 0
ConvergingIsFaultless = (t : Tables) → AllPrevail t ↔ ((reason : ConvergeReason) (place : Place) → AsksToConverge t reason place)

-- there is one verdict at most
abbrev pub ConvergeVerdictIsUnique : Type 0
ConvergeVerdictIsUnique = (t : Tables) (one other : ConvergeVerdict) → IsConvergeVerdict t one → IsConvergeVerdict t other → one ≡ other

-- of a name one version prevails at most, with one content
abbrev pub PrevailingIsUnique : Type 0
PrevailingIsUnique = (t : Tables) (folder : Folder) (name : FileName) (one other : Entry) →
    Prevails t folder name one → Prevails t folder name other → AreEqual one.version other.version × (content_of one ≡ content_of other)

-- what prevails goes on prevailing after each step of orderly peers
abbrev pub StepsKeepPrevailing : Type 0
StepsKeepPrevailing = (old new : Tables) → AllPrevail old → IsOrderlyStep old new → GoesOnPrevailing old new

-- and after every run of theirs
abbrev pub RunsKeepPrevailing : Type 0
RunsKeepPrevailing = (old new : Tables) (between : List Tables) → AllPrevail old → IsOrderlyRun old between new → GoesOnPrevailing old new

-- in a run of orderly peers a device takes over no more records of a name than were known above its own one
abbrev pub TakesAreBounded : Type 0
TakesAreBounded = (old new : Tables) (between : List Tables) (device : Device) (folder : Folder) (name : FileName) (above : List Entry) (times : ℕ) →
    AllPrevail old → IsOrderlyRun old between new → Shares old device folder → HasAllAbove old device folder name above →
    TakesTimes device folder name old between times → times ≤ length above

-- and each step either takes a record over or leaves all as it is there, so some number fits each run
abbrev pub TakesAreCounted : Type 0
TakesAreCounted = (old new : Tables) (between : List Tables) (device : Device) (folder : Folder) (name : FileName) →
    AllPrevail old → IsOrderlyRun old between new → Shares old device folder → (times : ℕ) × TakesTimes device folder name old between times

-- where it has come to all, and nothing is heard of that isn't deleted at a device that has no record, the cut is firm for the
-- list of its winners: nothing changes any more
abbrev pub EndIsFirm : Type 0
EndIsFirm = (t : Tables) (rows : List Row) → IsEnded t → HearsOfNone t → IsListOfWinners t rows → IsFirm t rows

-- a device that is at the top with a record of its own goes on having this very record and file
abbrev pub TopStays : Type 0
TopStays = (old new : Tables) (folder : Folder) (name : FileName) (top own : Entry) (device : Device) → AllPrevail old → IsOrderlyStep old new →
    Prevails old folder name top → Shares old device folder → old.own device folder name ≡ Some own → AreEqual own.version top.version →
    StaysAt old new device folder name

-- ---- this project's peers

-- each quiet step that makes no reset is one of orderly peers, where received blocks have their hashes
abbrev pub StepsAreOrderly : Type 0
StepsAreOrderly = (step : Step) (failed : Option ℕ) (old new : Cluster) (answer : Answer) →
    IsQuiet step → reset_made step answer ≡ [] → IsSound old → AllHaveHashes old → IsStep step failed old new answer →
    IsOrderlyStep (tables_of_cluster old) (tables_of_cluster new)

-- and they have them after every step
abbrev pub StepsKeepHashes : Type 0
StepsKeepHashes = (step : Step) (failed : Option ℕ) (old new : Cluster) (answer : Answer) →
    AllHaveHashes old → IsStep step failed old new answer → AllHaveHashes new

-- so each quiet run without a reset is one of orderly peers
abbrev pub RunsAreOrderly : Type 0
RunsAreOrderly = (cluster later : Cluster) (events : List Event) →
    IsSound cluster → AllHaveHashes cluster → IsRun cluster events later → AreQuiet events → HasNoReset events →
    (between : List Tables) × IsOrderlyRun (tables_of_cluster cluster) between (tables_of_cluster later)

-- After every quiet run without a reset from a cluster with these tables, in any interleaving and with any failing calls of the
-- stores: what prevails goes on prevailing.
abbrev pub GoesOnInRuns : Tables → Type 0
GoesOnInRuns tables = (cluster later : Cluster) (events : List Event) →
    IsSound cluster → AllHaveHashes cluster → tables_of_cluster cluster ≡ tables → IsRun cluster events later → AreQuiet events → HasNoReset events →
    GoesOnPrevailing tables (tables_of_cluster later)

abbrev pub PrevailingGoesOn : Type 0
PrevailingGoesOn = (tables : Tables) → AllPrevail tables → GoesOnInRuns tables

-- the cluster that a cut is of has received no block, so what is said of clusters with hashes is said of one with its tables
abbrev pub CutsHaveHashes : Type 0
CutsHaveHashes = (cut : CutParts) → AllHaveHashes (cluster_from cut)
