-- Threads that run a cluster that steps lead to lead it to such a cluster.
use Rattle.std.proofs.Common.{◌≡◌, ℕ, List, [], ◌∷◌, Contains, ap, subst, sym}
use Rattle.bep_facts.specs.Members.{Contains-first, Contains-more}
use Rattle.bep_core.specs.Reached.{IsReached}
use Rattle.bep_fit.specs.declared.stamped.Stamped.{Stamped}
use Rattle.bep_fit.specs.Logs.{events_of}
use Rattle.bep_fit.specs.Replayed.{AreSoundLogs}
use Rattle.bep_machine.specs.Cluster.{Cluster}
use Rattle.bep_machine.specs.declared.logged.Logged.{Logged}
use Rattle.bep_machine.specs.declared.step.Step.{Step}
use Rattle.bep_machine.specs.HalfLaws.{HasStepsOf}
use Rattle.bep_machine.specs.Laws.{AreSound, IsSoundStep}
use Rattle.bep_machine.specs.Steps.{Event}
use Rattle.bep_peer.specs.network.Network.{cluster_of}
use Rattle.bep_play.proofs.ReachedOn.{reached_on}
use Rattle.bep_run_cut.specs.OneRun.{IsRunOf}
use Rattle.bep_run_cut.specs.RunCut.{RunState}

-- the edits of a run put nodes where those that are logged of it do
sound_run : (merged : List Stamped) (events : List Event) → HasStepsOf (events_of merged) events → ((one : Stamped) → Contains merged one → IsSoundStep one.event.step) → AreSound events
sound_run [] [] steps sound = tt
sound_run [] (event ∷ events) steps sound = absurd steps
sound_run (one ∷ merged) [] steps sound = absurd steps
sound_run (one ∷ merged) (event ∷ events) steps sound = (
  subst (λ (s : Step). IsSoundStep s) (ap (λ (l : Logged). l.step) steps.0) (sound one (Contains-first one merged)),
  sound_run merged events steps.2 (λ later stands. sound later (Contains-more one merged later stands)),
)

pub reached_by_threads : (before : Cluster) (run : RunState) → cluster_of run.bases ≡ before → AreSoundLogs run.logs → (count : ℕ) × IsRunOf run count → IsReached before → IsReached (cluster_of run.present)
reached_by_threads before run from nodes one_run reached =
    let merged = one_run.1.0 in
    let is = one_run.1.2 in
    let sound = sound_run merged is.events is.steps (λ one stands.
    let log = (is.is_merged.holds one).0 stands in
    nodes log.0 one log.1 log.2) in
    reached_on (cluster_of run.bases) (cluster_of run.present) is.events sound is.run (subst IsReached (sym from) reached)
