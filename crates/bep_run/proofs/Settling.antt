-- A cluster that is settled stays so, along one run without local steps and resets.
use Rattle.std.proofs.Common.{◌≡◌, ◌++◌, ℕ, List, [], ◌∷◌, Contains, refl, ap, subst, ◌∙◌}
use Rattle.bep_facts.specs.Members.{Contains-first, Contains-from_image, Contains-more, not_in_none}
use Rattle.bep_fit.specs.declared.stamped.Stamped.{Stamped}
use Rattle.bep_fit.specs.Fit.{IsMerged}
use Rattle.bep_fit.specs.Logs.{ObjectLog, events_of}
use Rattle.bep_fit.specs.Replayed.{AreQuietLogs, AreResetOf}
use Rattle.bep_machine.specs.Answer.{Answer, Done, Refused, OutOfMemory}
use Rattle.bep_machine.specs.Cluster.{Cluster}
use Rattle.bep_machine.specs.declared.logged.Logged.{Logged}
use Rattle.bep_machine.specs.declared.step.Step.{Step}
use Rattle.bep_machine.specs.HalfLaws.{HasStepsOf}
use Rattle.bep_machine.specs.Laws.{SettledStaysPut, SettledStaysSettled}
use Rattle.bep_machine.specs.Said.{tables_of_cluster}
use Rattle.bep_machine.specs.Steps.{AreQuiet, Event, HasNoReset, IsQuiet, reset_by, reset_made, reset_in}
use Rattle.bep_model.specs.Stays.{Stays}
use Rattle.bep_model.specs.Tables.{Device}
use Rattle.bep_peer.specs.network.Network.{cluster_of}
use Rattle.bep_run_cut.specs.OneRun.{IsRunOf}
use Rattle.bep_run_cut.specs.RunCut.{IsRunCut, RunState}
use Rattle.bep_run.specs.Settling.{StaysSettled}

-- the step is no local step, and resets no device
abbrev IsStill : Step → Type 0
IsStill step = IsQuiet step × (reset_by step ≡ [])

none_of : (devices : List Device) → ((device : Device) → Contains devices device → Contains [] device) → devices ≡ []
none_of [] among = refl
none_of (device ∷ more) among = absurd (not_in_none device (among device (Contains-first device more)))

-- a step that is no reset makes none
none_made : (step : Step) (answer : Answer) → reset_by step ≡ [] → reset_made step answer ≡ []
none_made step (Done moved) none = none
none_made step (Refused why) none = refl
none_made step OutOfMemory none = refl

-- a run is still where what is logged of it is
still_run : (logged : List Logged) (events : List Event) → HasStepsOf logged events → ((one : Logged) → Contains logged one → IsStill one.step) → AreQuiet events × HasNoReset events
still_run [] [] steps still = (tt, refl)
still_run [] (event ∷ events) steps still = absurd steps
still_run (one ∷ logged) [] steps still = absurd steps
still_run (one ∷ logged) (event ∷ events) steps still =
    let first : IsStill event.step = subst IsStill (ap (λ (l : Logged). l.step) steps.0) (still one (Contains-first one logged)) in
    let more = still_run logged events steps.2 (λ later stands. still later (Contains-more one logged later stands)) in
    ((first.0, more.0), ap (λ (devices : List Device). devices ++ reset_in events) (none_made event.step event.answer first.1) ∙ more.1)

-- each event of the merged list is one of the logs
merged_is_still : (logs : List ObjectLog) (merged : List Stamped) → IsMerged logs merged → AreQuietLogs logs → AreResetOf logs [] → (one : Logged) → Contains (events_of merged) one → IsStill one.step
merged_is_still logs merged is quiet no_reset one stands =
    let found = Contains-from_image (λ (s : Stamped). s.event) merged one stands in
    let log = (is.holds found.0).0 found.1 in
    subst (λ (l : Logged). IsStill l.step) found.2
    (quiet log.0 found.0 log.1 log.2, none_of (reset_by found.0.event.step) (no_reset log.0 found.0 log.1 log.2))

pub settled_of : SettledStaysPut → SettledStaysSettled → (before : Cluster) (run : RunState) → cluster_of run.bases ≡ before → IsRunCut run → AreQuietLogs run.logs → AreResetOf run.logs [] → (count : ℕ) × IsRunOf run count →
    StaysSettled before (cluster_of run.present)
settled_of stays_put stays_settled before run from cut quiet no_reset one_run =
    subst (λ (cluster : Cluster). StaysSettled cluster (cluster_of run.present)) from (λ rows settled.
    let bases = cluster_of run.bases in
    let merged = one_run.1.0 in
    let is = one_run.1.2 in
    let still = still_run (events_of merged) is.events is.steps (merged_is_still run.logs merged is.is_merged quiet no_reset) in (
      subst (λ (reset : List Device). Stays (tables_of_cluster bases) rows reset (tables_of_cluster (cluster_of run.present))) still.1
          (stays_put (tables_of_cluster bases) rows settled bases (cluster_of run.present) is.events cut.sound refl is.run still.0),
      stays_settled (tables_of_cluster bases) rows settled bases (cluster_of run.present) is.events cut.sound refl is.run still.0 still.1,
    ))
