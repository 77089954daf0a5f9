-- Runs one after the other, and steps that no user makes and that reset no device.
use Rattle.std.proofs.Common.{◌≡◌, ◌∙◌, Bool, true, false, nat_lt, List, [], ◌∷◌, ◌++◌, map, refl, sym, ap, subst, if◌then◌else◌}
use Rattle.bep_model.specs.Tables.{Device}
use Rattle.bep_machine.specs.declared.step.Step.{Step}
use Rattle.bep_machine.specs.declared.step.Step.TheVariants.{Connect}
use Rattle.bep_machine.specs.Cluster.{Cluster}
use Rattle.bep_machine.specs.Steps.{Event, IsRun, IsQuiet, AreQuiet, reset_by, reset_in, HasNoReset}
use Rattle.bep_machine.specs.Laws.{IsSoundStep, AreSound}
use Rattle.bep_converge.specs.Bring.{AreDone, done, connect}

-- ---- runs

-- a run, and then another one
pub runs_on : (first middle last : Cluster) (one two : List Event) → IsRun first one middle → IsRun middle two last → IsRun first (one ++ two) last
runs_on first middle last [] two run more = subst (λ (c : Cluster). IsRun c two last) run more
runs_on first middle last (event ∷ one) two run more = (run.0, run.1, runs_on run.0 middle last one two run.2 more)

done_on : (one two : List Step) → map done (one ++ two) ≡ map done one ++ map done two
done_on [] two = refl
done_on (step ∷ one) two = ap (λ (events : List Event). done step ∷ events) (done_on one two)

pub all_are_done : (steps : List Step) → AreDone (map done steps)
all_are_done [] = tt
all_are_done (step ∷ more) = (refl, all_are_done more)

pub all_done_on : (one two : List Event) → AreDone one → AreDone two → AreDone (one ++ two)
all_done_on [] two first second = second
all_done_on (event ∷ one) two first second = (first.0, all_done_on one two first.1 second)

-- steps that are done, and then others
pub steps_run_on : (first middle last : Cluster) (one two : List Step) → IsRun first (map done one) middle → IsRun middle (map done two) last → IsRun first (map done (one ++ two)) last
steps_run_on first middle last one two run more =
    subst (λ (events : List Event). IsRun first events last) (sym (done_on one two)) (runs_on first middle last (map done one) (map done two) run more)

pub sound_on : (one two : List Event) → AreSound one → AreSound two → AreSound (one ++ two)
sound_on [] two first second = second
sound_on (event ∷ one) two first second = (first.0, sound_on one two first.1 second)

-- ---- steps that no user makes, and that reset no device

pub record IsCalm (step : Step) : Type 0 where
  pub quiet : IsQuiet step
  pub unreset : reset_by step ≡ []
  pub sound : IsSoundStep step

abbrev pub AreCalm : List Step → Type 0
AreCalm [] = Unit {0}
AreCalm (step ∷ more) = IsCalm step × AreCalm more

pub are_quiet : (steps : List Step) → AreCalm steps → AreQuiet (map done steps)
are_quiet [] calm = tt
are_quiet (step ∷ more) calm = (calm.0.quiet, are_quiet more calm.1)

pub are_sound : (steps : List Step) → AreCalm steps → AreSound (map done steps)
are_sound [] calm = tt
are_sound (step ∷ more) calm = (calm.0.sound, are_sound more calm.1)

pub have_no_reset : (steps : List Step) → AreCalm steps → HasNoReset (map done steps)
have_no_reset [] calm = refl
have_no_reset (step ∷ more) calm = ap (λ (devices : List Device). devices ++ reset_in (map done more)) calm.0.unreset ∙ have_no_reset more calm.1

-- ---- a link that comes up

pub connect_is_calm : (device owner : Device) → IsCalm (connect device owner)
connect_is_calm device owner = by_test (nat_lt device owner)
  where
    by_test : (b : Bool) → IsCalm (if b then Connect device owner else Connect owner device)
    by_test true = record { quiet = tt; unreset = refl; sound = tt }
    by_test false = record { quiet = tt; unreset = refl; sound = tt }
