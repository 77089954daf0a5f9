-- Quiet runs without a reset: of no step, of one, and one after the other.
use Rattle.std.proofs.Common.{◌≡◌, ◌∙◌, ℕ, List, [], ◌∷◌, ◌++◌, Option, Result, Ok, Err, refl, ap, subst}
use Rattle.bep_model.specs.Tables.{Device}
use Rattle.bep_machine.specs.declared.moved.Moved.{Moved}
use Rattle.bep_machine.specs.declared.step.Step.{Step}
use Rattle.bep_machine.specs.Answer.{Answer, Done, OutOfMemory, Refused as Refuses}
use Rattle.bep_machine.specs.Cluster.{Cluster}
use Rattle.bep_machine.specs.Laws.{IsSoundStep, AreSound}
use Rattle.bep_machine.specs.Steps.{Event, IsStep, IsRun, IsQuiet, AreQuiet, HasNoReset, reset_by, reset_made, reset_in}
use Rattle.bep_core.specs.declared.why.Why.{Why}
use Rattle.bep_core.specs.declared.why.Why.TheVariants as whys
use Rattle.bep_core.specs.Why.{Gives}
use Rattle.bep_rounds.specs.Rounds.{IsQuietRun}

sound_both : (one two : List Event) → AreSound one → AreSound two → AreSound (one ++ two)
sound_both [] two first second = second
sound_both (event ∷ one) two first second = (first.0, sound_both one two first.1 second)

quiet_both : (one two : List Event) → AreQuiet one → AreQuiet two → AreQuiet (one ++ two)
quiet_both [] two first second = second
quiet_both (event ∷ one) two first second = (first.0, quiet_both one two first.1 second)

run_both : (from old new : Cluster) (one two : List Event) → IsRun from one old → IsRun old two new → IsRun from (one ++ two) new
run_both from old new [] two same later = subst (λ (cluster : Cluster). IsRun cluster two new) same later
run_both from old new (event ∷ one) two run later = (run.0, run.1, run_both run.0 old new one two run.2 later)

none_left : (some more : List Device) → some ++ more ≡ [] → (some ≡ []) × (more ≡ [])
none_left [] more none = (refl, none)
none_left (device ∷ some) more none = absurd (cc)

unreset_both : (one two : List Event) → HasNoReset one → HasNoReset two → HasNoReset (one ++ two)
unreset_both [] two first second = second
unreset_both (event ∷ one) two first second =
    let parts = none_left (reset_made event.step event.answer) (reset_in one) first in
    ap (λ (devices : List Device). devices ++ reset_in (one ++ two)) parts.0 ∙ unreset_both one two parts.1 second

-- nothing was made
pub no_step : (cluster : Cluster) → IsQuietRun cluster cluster
no_step cluster = record { events = []; nodes = tt; run = refl; quiet = tt; unreset = refl }

-- one run, and then the other
pub both_runs : (first middle last : Cluster) → IsQuietRun first middle → IsQuietRun middle last → IsQuietRun first last
both_runs first middle last one two = record {
  events = one.events ++ two.events;
  nodes = sound_both one.events two.events one.nodes two.nodes;
  run = run_both first middle last one.events two.events one.run two.run;
  quiet = quiet_both one.events two.events one.quiet two.quiet;
  unreset = unreset_both one.events two.events one.unreset two.unreset;
}

-- one step
one_event : (step : Step) (failed : Option ℕ) (answer : Answer) (old new : Cluster) → IsStep step failed old new answer → IsQuiet step → reset_made step answer ≡ [] → IsSoundStep step → IsQuietRun old new
one_event step failed answer old new made quiet unreset node = record {
  events = record { step = step; failed = failed; answer = answer } ∷ [];
  nodes = (node, tt);
  run = (new, made, refl);
  quiet = (quiet, tt);
  unreset = ap (λ (devices : List Device). devices ++ []) unreset;
}

pub one_step : (step : Step) (failed : Option ℕ) (answer : Result Moved Why) (old new : Cluster) → Gives (IsStep step failed old) new answer → IsQuiet step → reset_by step ≡ [] → IsSoundStep step → IsQuietRun old new
one_step step failed (Ok moved) old new made quiet unreset node = one_event step failed (Done moved) old new made quiet unreset node
one_step step failed (Err (whys.Refused refusal)) old new made quiet unreset node = one_event step failed (Refuses refusal) old new made quiet refl node
one_step step failed (Err whys.ConfigBad) old new made quiet unreset node = absurd made
one_step step failed (Err whys.Memory) old new made quiet unreset node = one_event step failed OutOfMemory old new made quiet refl node
