-- A run from a cluster that steps lead to leads to such a cluster.
use Rattle.std.proofs.Common.{◌++◌, List, [], ◌∷◌, subst}
use Rattle.bep_core.specs.Reached.{IsReached}
use Rattle.bep_machine.specs.Cluster.{Cluster}
use Rattle.bep_machine.specs.Laws.{AreSound}
use Rattle.bep_machine.specs.Steps.{Event, IsRun}

sound_both : (events more : List Event) → AreSound events → AreSound more → AreSound (events ++ more)
sound_both [] more sound later = later
sound_both (event ∷ events) more sound later = (sound.0, sound_both events more sound.1 later)

run_both : (from old new : Cluster) (events more : List Event) → IsRun from events old → IsRun old more new → IsRun from (events ++ more) new
run_both from old new [] more same later = subst (λ (cluster : Cluster). IsRun cluster more new) same later
run_both from old new (event ∷ events) more run later = (run.0, run.1, run_both run.0 old new events more run.2 later)

pub reached_on : (old new : Cluster) (events : List Event) → AreSound events → IsRun old events new → IsReached old → IsReached new
reached_on old new events nodes run reached = record {
  from = reached.from;
  events = reached.events ++ events;
  sound = reached.sound;
  apart = reached.apart;
  nodes = sound_both reached.events events reached.nodes nodes;
  run = run_both reached.from old new reached.events events reached.run run;
}
