-- Clusters that steps lead to (this project's profile).
use Rattle.std.specs.Prelude.{List}
use Rattle.bep_machine.specs.Cluster.{Cluster}
use Rattle.bep_machine.specs.Gapless.{IsApart, IsGapless, IsOfNoLaterIndex}
use Rattle.bep_machine.specs.Laws.{AreSound}
use Rattle.bep_machine.specs.Sound.{IsSound}
use Rattle.bep_machine.specs.Steps.{Event, IsRun}

-- A run leads to the cluster from one that is sound and has no gap, and whose links are all down. A cluster that begins is
-- such a one.
pub record IsReached (cluster : Cluster) : Type 0 where
  pub from : Cluster
  pub events : List Event
  pub sound : IsSound from
  pub apart : IsApart from
  pub nodes : AreSound events
  pub run : IsRun from events cluster

-- such a cluster is sound, and what its devices know of each other has no gap and is of no index that is still to come
abbrev pub ReachedIsGapless : Type 0
ReachedIsGapless = (cluster : Cluster) → IsReached cluster → IsSound cluster × IsGapless cluster × IsOfNoLaterIndex cluster
