-- What follows from the definitions, for every cluster and every list of steps; the functions of src/ have these as
-- contracts.
use Rattle.std.specs.Prelude.{◌≡◌, ℕ, ⊤, List, [], ◌∷◌, Option, Contains}
use Rattle.bep_record.specs.Node.{IsNode}
use Rattle.bep_index.specs.Listing.{Listing}
use Rattle.bep_index.specs.Index.{IsIndex}
use Rattle.bep_index.specs.View.{IsView}
use Rattle.bep_model.specs.declared.row.Row.{Row}
use Rattle.bep_model.specs.Tables.{Tables, Device}
use Rattle.bep_model.specs.Foreign.{IsFinite}
use Rattle.bep_model.specs.Settled.{IsSettled}
use Rattle.bep_model.specs.Calm.{Contents, IsCalm, Kept}
use Rattle.bep_model.specs.Stays.{Stays, KeepsRecords, SameContents}
use Rattle.bep_machine.specs.declared.step.Step.{Step}
use Rattle.bep_machine.specs.declared.step.Step.TheVariants.{Edit, Remove, Scan, Override, Revert, Connect, Lose, Begin, Deliver, Announce, StartPull, Ask, Finish, Restart, Reset}
use Rattle.bep_machine.specs.Answer.{Answer}
use Rattle.bep_machine.specs.Cluster.{Cluster}
use Rattle.bep_machine.specs.Steps.{IsStep, Event, IsRun, IsQuiet, AreQuiet, reset_made, reset_in, HasNoReset}
use Rattle.bep_machine.specs.Said.{tables_of_cluster}
use Rattle.bep_machine.specs.Sound.{IsSound}
use Rattle.bep_machine.specs.Gapless.{HasNoGap, IsGapless, IsOfNoLaterIndex, IsApart, IsFresh}

-- what a user puts into a folder is a node
abbrev pub IsSoundStep : Step → Type 0
IsSoundStep (Edit device folder name node) = IsNode node
IsSoundStep (Remove device folder name) = ⊤
IsSoundStep (Scan device folder name) = ⊤
IsSoundStep (Override device folder name) = ⊤
IsSoundStep (Revert device folder name) = ⊤
IsSoundStep (Connect one other) = ⊤
IsSoundStep (Lose one other) = ⊤
IsSoundStep (Begin device other) = ⊤
IsSoundStep (Deliver device other) = ⊤
IsSoundStep (Announce device other folder) = ⊤
IsSoundStep (StartPull device folder name) = ⊤
IsSoundStep (Ask device other folder name) = ⊤
IsSoundStep (Finish device folder name) = ⊤
IsSoundStep (Restart device) = ⊤
IsSoundStep (Reset device id) = ⊤

abbrev pub AreSound : List Event → Type 0
AreSound [] = ⊤
AreSound (event ∷ more) = IsSoundStep event.step × AreSound more

-- ---- every cluster

-- all devices of the one list are in the other
abbrev pub AreAmong : List Device → List Device → Type 0
AreAmong some all = (device : Device) → Contains some device → Contains all device

-- a cluster's tables are finite, as every cut's are: only these devices are viewed, and only these names known
abbrev pub ClusterIsFinite : Type 0
ClusterIsFinite = (cluster : Cluster) → IsSound cluster → IsFinite (tables_of_cluster cluster)

-- ---- one step

-- no step breaks what holds of every cluster
abbrev pub StepsKeepSound : Type 0
StepsKeepSound = (step : Step) (failed : Option ℕ) (old new : Cluster) (answer : Answer) →
    IsSoundStep step → IsSound old → IsStep step failed old new answer → IsSound new

-- a quiet step keeps calm, where the device that it resets is one of those that may lack records, and each store byte for
-- byte
abbrev pub QuietStepsKeepCalm : Type 0
QuietStepsKeepCalm =
    (contents : Contents) (reset : List Device) (step : Step) (failed : Option ℕ) (old new : Cluster) (answer : Answer) →
    IsQuiet step → AreAmong (reset_made step answer) reset → IsSound old → IsCalm (tables_of_cluster old) contents reset → IsStep step failed old new answer →
    IsCalm (tables_of_cluster new) contents reset × Kept (tables_of_cluster old) (tables_of_cluster new)

-- a quiet step that makes no reset takes no own record away
abbrev pub QuietStepsKeepRecords : Type 0
QuietStepsKeepRecords = (step : Step) (failed : Option ℕ) (old new : Cluster) (answer : Answer) →
    IsQuiet step → reset_made step answer ≡ [] → IsSound old → IsStep step failed old new answer →
    KeepsRecords (tables_of_cluster old) (tables_of_cluster new)

-- no view has a gap, and none is of an index that is still to come, in every cluster that a run reaches from one of which this
-- holds and whose links are all down
abbrev pub RunsAreGapless : Type 0
RunsAreGapless = (cluster later : Cluster) (events : List Event) →
    IsSound cluster → IsApart cluster → AreSound events → IsRun cluster events later → IsGapless later × IsOfNoLaterIndex later

-- so it is where nothing was exchanged yet
abbrev pub FreshIsApart : Type 0
FreshIsApart = (cluster : Cluster) → IsSound cluster → IsFresh cluster → IsApart cluster

-- a view without a gap, at the point of the index, is the index
abbrev pub SamePointSameIndex : Type 0
SamePointSameIndex = (index view : Listing) →
    IsIndex index → IsView view → HasNoGap index view → view.id ≡ index.id → view.sequence ≡ index.sequence → view ≡ index

-- ---- the headline

-- After every quiet run from a cluster with these tables, in any interleaving and with any failing calls of the stores:
-- each store holds byte for byte what it held, and each row's name has its certified content. Only a device that was reset
-- in the run may lack an own record of it.
abbrev pub StaysPut : Tables → List Row → Type 0
StaysPut tables rows = (cluster later : Cluster) (events : List Event) →
    IsSound cluster → tables_of_cluster cluster ≡ tables → IsRun cluster events later → AreQuiet events →
    Stays tables rows (reset_in events) (tables_of_cluster later)

-- And where no device was reset, the later cluster is settled for its own winners, whose names and contents are those of the
-- rows.
abbrev pub StaysSettled : Tables → List Row → Type 0
StaysSettled tables rows = (cluster later : Cluster) (events : List Event) →
    IsSound cluster → tables_of_cluster cluster ≡ tables → IsRun cluster events later → AreQuiet events → HasNoReset events →
    (others : List Row) × IsSettled (tables_of_cluster later) others × SameContents rows others

abbrev pub SettledStaysPut : Type 0
SettledStaysPut = (tables : Tables) (rows : List Row) → IsSettled tables rows → StaysPut tables rows

abbrev pub SettledStaysSettled : Type 0
SettledStaysSettled = (tables : Tables) (rows : List Row) → IsSettled tables rows → StaysSettled tables rows
