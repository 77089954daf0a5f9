-- That what prevails in a cut comes to all, also where its links are up and messages are on their way: the links go down first
-- (this project's profile).
use Rattle.std.specs.Prelude.{◌≡◌, ◌+◌, ◌≤◌, ℕ, List, length}
use Rattle.bep_model.specs.Tables.{Device, Folder, FileName}
use Rattle.bep_machine.specs.Cluster.{Cluster}
use Rattle.bep_machine.specs.Steps.{Event, IsRun, AreQuiet, HasNoReset}
use Rattle.bep_machine.specs.Said.{tables_of_cluster}
use Rattle.bep_machine.specs.Gapless.{IsGapless, IsOfNoLaterIndex}
use Rattle.bep_tables.specs.declared.cut.CutParts.{CutParts}
use Rattle.bep_tables.specs.Cut.{tables_of}
use Rattle.bep_origin.specs.FromCut.{HasCluster, cluster_from}
use Rattle.bep_converge.specs.Prevails.{AllPrevail}
use Rattle.bep_converge.specs.Orderly.{StaysAt}
use Rattle.bep_converge.specs.Bring.{AreDone, IsJoinedUp, HasRoomFor, IsReady}
use Rattle.bep_converge.specs.Arrival.{Behind, HasAllBehind, steps_for, AllArrive}

-- The cut prevails, no view of it has a gap or is of an index that is still to come, all who share a folder are linked, and there
-- is room for so many runs. Its links may be up, and messages on their way.
pub record IsReadyCut (turns : ℕ) (cut : CutParts) : Type 0 where
  pub from : HasCluster cut
  pub gapless : IsGapless (cluster_from cut)
  pub earlier : IsOfNoLaterIndex (cluster_from cut)
  pub prevails : AllPrevail (tables_of cut)
  pub joined : IsJoinedUp (cluster_from cut).config
  pub room : HasRoomFor turns (cluster_from cut)

-- A quiet run without a reset, each step of which is done, leads to a cluster that is ready, in a step for each link at most.
-- Each device has the very records and files that it had.
pub record ComesDown (turns : ℕ) (cut : CutParts) : Type 0 where
  pub events : List Event
  pub later : Cluster
  pub run : IsRun (cluster_from cut) events later
  pub quiet : AreQuiet events
  pub unreset : HasNoReset events
  pub each_done : AreDone events
  pub few : length events ≤ length cut.links
  pub config : later.config ≡ (cluster_from cut).config
  pub ready : IsReady turns later
  pub still : (device : Device) (folder : Folder) (name : FileName) → StaysAt (tables_of cut) (tables_of_cluster later) device folder name

abbrev pub CutsComeDown : Type 0
CutsComeDown = (turns : ℕ) (cut : CutParts) → IsReadyCut turns cut → ComesDown turns cut

-- so what prevails in the cut comes to all, in a step for each link more
abbrev pub AllComeFromCuts : Type 0
AllComeFromCuts = (cut : CutParts) (behind : List Behind) → IsReadyCut (length behind) cut → HasAllBehind (tables_of cut) behind →
    AllArrive (cluster_from cut) (length cut.links + steps_for behind)
