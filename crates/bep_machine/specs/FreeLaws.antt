-- The steps of this project's peers, but for resets, are steps of free peers, so what is firm stays put; the functions of
-- src/free.rt have these as contracts. A device that was reset has no record, so every record is news to it that isn't
-- deleted, and its files aren't clean: a free peer may then record what it likes under any version, and write any file of
-- the folder. So a leave to forget records can't be among those of free peers.
use Rattle.std.specs.Prelude.{◌≡◌, ℕ, List, [], Option}
use Rattle.bep_model.specs.declared.row.Row.{Row}
use Rattle.bep_model.specs.Tables.{Tables}
use Rattle.bep_model.specs.Free.{MayBecome, IsFreeRun}
use Rattle.bep_model.specs.Firm.{IsFirm, IsUnchanged}
use Rattle.bep_machine.specs.declared.step.Step.{Step}
use Rattle.bep_machine.specs.Answer.{Answer}
use Rattle.bep_machine.specs.Cluster.{Cluster}
use Rattle.bep_machine.specs.Steps.{IsStep, Event, IsRun, IsQuiet, AreQuiet, reset_made, HasNoReset}
use Rattle.bep_machine.specs.Said.{tables_of_cluster}
use Rattle.bep_machine.specs.Sound.{IsSound}

-- each quiet step that makes no reset changes the tables by leave of free peers alone
abbrev pub StepsAreFree : Type 0
StepsAreFree = (step : Step) (failed : Option ℕ) (old new : Cluster) (answer : Answer) →
    IsQuiet step → reset_made step answer ≡ [] → IsSound old → IsStep step failed old new answer → MayBecome (tables_of_cluster old) (tables_of_cluster new)

-- so each quiet run without a reset is one of free peers
abbrev pub RunsAreFree : Type 0
RunsAreFree = (cluster later : Cluster) (events : List Event) →
    IsSound cluster → IsRun cluster events later → AreQuiet events → HasNoReset events →
    (between : List Tables) × IsFreeRun (tables_of_cluster cluster) between (tables_of_cluster later)

-- After every quiet run without a reset from a cluster with these tables, in any interleaving and with any failing calls of
-- the stores: the tables are firm for the same rows, and each sharing device has the very records and files that it had.
abbrev pub FirmStaysPut : Tables → List Row → Type 0
FirmStaysPut tables rows = (cluster later : Cluster) (events : List Event) →
    IsSound cluster → tables_of_cluster cluster ≡ tables → IsRun cluster events later → AreQuiet events → HasNoReset events →
    IsFirm (tables_of_cluster later) rows × IsUnchanged tables (tables_of_cluster later)

abbrev pub FirmCutsStayPut : Type 0
FirmCutsStayPut = (tables : Tables) (rows : List Row) → IsFirm tables rows → FirmStaysPut tables rows
