-- What a step answers, and that it leads from a reached cluster to another.
use Rattle.std.proofs.Common.{◌≢◌, ◌++◌, ℕ, List, [], ◌∷◌, Option, Result, Ok, Err, OnErr, refl, sym, subst}
use Rattle.bep_machine.specs.declared.moved.Moved.{Moved}
use Rattle.bep_machine.specs.declared.step.Step.{Step}
use Rattle.bep_machine.specs.Answer.{Answer, Done, Refused as Refuses, OutOfMemory, Row}
use Rattle.bep_machine.specs.Cluster.{Cluster}
use Rattle.bep_machine.specs.Laws.{AreSound, IsSoundStep, RunsAreGapless, StepsKeepSound}
use Rattle.bep_machine.specs.Sound.{IsSound}
use Rattle.bep_machine.specs.Steps.{Event, IsRun, IsStep}
use Rattle.bep_machine.specs.Undone.{LeavesAll, UndoneStepsLeaveAll}
use Rattle.bep_core.specs.declared.why.Why.{Why}
use Rattle.bep_core.specs.declared.why.Why.TheVariants.{Refused, ConfigBad, Memory}
use Rattle.bep_core.specs.Reached.{IsReached, ReachedIsGapless}
use Rattle.bep_core.specs.Why.{Gives}

-- what was answered is an answer of the row
given : {S : Type 0} (row : Row S) (new : S) (result : Result Moved Why) → Gives row new result → (answer : Answer) × row new answer
given row new (Ok moved) is = (Done moved, is)
given row new (Err (Refused refusal)) is = (Refuses refusal, is)
given row new (Err ConfigBad) is = absurd is
given row new (Err Memory) is = (OutOfMemory, is)

-- no row gives a configuration's refusal
pub never_bad : {S : Type 0} (row : Row S) (new : S) (result : Result Moved Why) → Gives row new result → result ≢ Err ConfigBad
never_bad row new (Ok moved) is same = absurd (cc)
never_bad row new (Err (Refused refusal)) is same = absurd (cc)
never_bad row new (Err ConfigBad) is same = is
never_bad row new (Err Memory) is same = absurd (cc)

-- what an error leaves
pub left_undone : UndoneStepsLeaveAll → (step : Step) (failed : Option ℕ) (old new : Cluster) (result : Result Moved Why) → Gives (IsStep step failed old) new result → OnErr result (LeavesAll step old new)
left_undone law step failed old new (Ok moved) is = tt
left_undone law step failed old new (Err (Refused refusal)) is = law step failed old new (Refuses refusal) is (λ done. done)
left_undone law step failed old new (Err ConfigBad) is = absurd is
left_undone law step failed old new (Err Memory) is = law step failed old new OutOfMemory is (λ done. done)

-- a run and one step more
one_more : (from : Cluster) (events : List Event) (old new : Cluster) (event : Event) → IsRun from events old → IsStep event.step event.failed old new event.answer → IsRun from (events ++ event ∷ []) new
one_more from [] old new event same made = (new, subst (λ (c : Cluster). IsStep event.step event.failed c new event.answer) same made, refl)
one_more from (first ∷ more) old new event run made = (run.0, run.1, one_more run.0 more old new event run.2 made)

one_more_sound : (events : List Event) (event : Event) → AreSound events → IsSoundStep event.step → AreSound (events ++ event ∷ [])
one_more_sound [] event sound good = (good, tt)
one_more_sound (first ∷ more) event sound good = (sound.0, one_more_sound more event sound.1 good)

pub reaches : (step : Step) (failed : Option ℕ) (old new : Cluster) (result : Result Moved Why) → IsSoundStep step → Gives (IsStep step failed old) new result → IsReached old → IsReached new
reaches step failed old new result good gives reached =
    let made = given (IsStep step failed old) new result gives in
    let event : Event = record { step = step; failed = failed; answer = made.0 } in
    record {
      from = reached.from;
      events = reached.events ++ event ∷ [];
      sound = reached.sound;
      apart = reached.apart;
      nodes = one_more_sound reached.events event reached.nodes good;
      run = one_more reached.from reached.events old new event reached.run made.1;
    }

-- what no step breaks, no run does
sound_later : StepsKeepSound → (from : Cluster) (events : List Event) (later : Cluster) → IsSound from → AreSound events → IsRun from events later → IsSound later
sound_later keep from [] later sound nodes same = subst IsSound (sym same) sound
sound_later keep from (event ∷ more) later sound nodes run =
    sound_later keep run.0 more later (keep event.step event.failed from run.0 event.answer nodes.0 sound run.1) nodes.1 run.2

pub reached_is_gapless : StepsKeepSound → RunsAreGapless → ReachedIsGapless
reached_is_gapless keep gapless cluster reached =
    let later = gapless reached.from cluster reached.events reached.sound reached.apart reached.nodes reached.run in
    (sound_later keep reached.from reached.events cluster reached.sound reached.nodes reached.run, later.0, later.1)
