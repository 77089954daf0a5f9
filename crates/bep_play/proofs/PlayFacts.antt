-- Steps that are made one after another, and what is told of them.
use Rattle.std.proofs.Common.{IsUtf8, suc, ◌≡◌, ◌≢◌, ◌≤◌, ◌+◌, ◌++◌, ℕ, List, [], ◌∷◌, map, length, Option, None, Result, Ok, Err, refl, sym, ap, subst, ◌∙◌, arith}
use Rattle.std.proofs.lemmas.List.{append_assoc, append-nil}
use Rattle.bep_machine.specs.declared.moved.Moved.{Moved}
use Rattle.bep_machine.specs.declared.step.Step.{Step}
use Rattle.bep_machine.specs.Answer.{Answer, Done, OutOfMemory, Refused as Refuses}
use Rattle.bep_machine.specs.Cluster.{Cluster}
use Rattle.bep_machine.specs.Determined.{HadMemory}
use Rattle.bep_machine.specs.Laws.{AreSound, IsSoundStep}
use Rattle.bep_machine.specs.Steps.{Event, IsRun, IsStep}
use Rattle.bep_core.specs.declared.why.Why.{Why}
use Rattle.bep_core.specs.declared.why.Why.TheVariants as whys
use Rattle.bep_core.specs.Why.{Gives}
use Rattle.bep_play.specs.Played.{AreSure, IsTold, answer_line, refused_lines}

-- one step more
run_on : (old : Cluster) (events : List Event) (now new : Cluster) (event : Event) → IsRun old events now → IsStep event.step event.failed now new event.answer → IsRun old (events ++ event ∷ []) new
run_on old [] now new event is step = (new, subst (λ (start : Cluster). IsStep event.step event.failed start new event.answer) is step, refl)
run_on old (first ∷ more) now new event run step = (run.0, run.1, run_on run.0 more now new event run.2 step)

made_on : (events : List Event) (event : Event) → HadMemory events → event.answer ≢ OutOfMemory → HadMemory (events ++ event ∷ [])
made_on [] event made is = (is, tt)
made_on (first ∷ more) event made is = (made.0, made_on more event made.1 is)

sure_on : (events : List Event) (event : Event) → AreSure events → event.failed ≡ None → AreSure (events ++ event ∷ [])
sure_on [] event sure is = (is, tt)
sure_on (first ∷ more) event sure is = (sure.0, sure_on more event sure.1 is)

sound_on : (events : List Event) (event : Event) → AreSound events → IsSoundStep event.step → AreSound (events ++ event ∷ [])
sound_on [] event sound is = (is, tt)
sound_on (first ∷ more) event sound is = (sound.0, sound_on more event sound.1 is)

steps_on : (events : List Event) (event : Event) → map (λ (e : Event). e.step) (events ++ event ∷ []) ≡ map (λ (e : Event). e.step) events ++ event.step ∷ []
steps_on [] event = refl
steps_on (first ∷ more) event = ap (λ steps. first.step ∷ steps) (steps_on more event)

-- the line of one step more stands at the end
lines_on : (place : ℕ) (events : List Event) (event : Event) → refused_lines place (events ++ event ∷ []) ≡ refused_lines place events ++ answer_line (place + length events) event.answer
lines_on place [] event = append-nil (answer_line place event.answer) ∙ ap (λ (at : ℕ). answer_line at event.answer) (here place)
  where
    here : (n : ℕ) → n ≡ n + 0
    here n = omega arith
lines_on place (first ∷ more) event =
    ap (λ told. answer_line place first.answer ++ told) (lines_on (suc place) more event
    ∙ ap (λ (at : ℕ). refused_lines (suc place) more ++ answer_line at event.answer) (further (length more) place))
    ∙ sym (append_assoc (answer_line place first.answer) (refused_lines (suc place) more) (answer_line (place + suc (length more)) event.answer))
  where
    further : (n p : ℕ) → suc p + n ≡ p + suc n
    further n p = omega arith

length_on : (events : List Event) (event : Event) → length (events ++ event ∷ []) ≡ suc (length events)
length_on [] event = refl
length_on (first ∷ more) event = ap suc (length_on more event)

-- the steps so far, and those that are left
pub record LeadsSoFar (old : Cluster) (steps : List Step) (now : Cluster) (left : List Step) (told : List ℕ) (place : ℕ) : Type 0 where
  pub events : List Event
  pub all : map (λ (event : Event). event.step) events ++ left ≡ steps
  pub run : IsRun old events now
  pub nodes : AreSound events
  pub made : HadMemory events
  pub sure : AreSure events
  pub tells : told ≡ refused_lines 1 events
  pub text : IsUtf8 told
  pub place_is : place ≡ length events

counted : (events : List Event) (left : List Step) → length events + length left ≡ length (map (λ (event : Event). event.step) events ++ left)
counted [] left = none (length left)
  where
    none : (n : ℕ) → 0 + n ≡ n
    none n = omega arith
counted (first ∷ more) left = one_more (length more) (length left) ∙ ap suc (counted more left)
  where
    one_more : (a b : ℕ) → suc a + b ≡ suc (a + b)
    one_more a b = omega arith

-- a step that is still to be made has a place among all of them
pub place_among : (old : Cluster) (steps : List Step) (now : Cluster) (step : Step) (left : List Step) (told : List ℕ) (place : ℕ) → LeadsSoFar old steps now (step ∷ left) told place → place + 1 ≤ length steps
place_among old steps now step left told place so_far = within (length so_far.events) (length left) (length steps) so_far.place_is (counted so_far.events (step ∷ left) ∙ ap length so_far.all)
  where
    within : (made more all : ℕ) → place ≡ made → made + suc more ≡ all → place + 1 ≤ all
    within made more all is whole = omega (arith, is, whole)

module _ (old : Cluster) (steps : List Step) (now : Cluster) (step : Step) (left : List Step) (told : List ℕ) (place : ℕ) (so_far : LeadsSoFar old steps now (step ∷ left) told place) (failed : Option ℕ) (sure : failed ≡ None) (node : IsSoundStep step) (new : Cluster) where
  one_more : (answer : Answer) (later : List ℕ) → answer ≢ OutOfMemory → IsUtf8 later → IsStep step failed now new answer → later ≡ told ++ answer_line (suc place) answer → LeadsSoFar old steps new left later (suc place)
  one_more answer later made text is tells =
      let event : Event = record { step = step; failed = failed; answer = answer } in
      record {
        events = so_far.events ++ event ∷ [];
        all =
            ap (λ (made : List Step). made ++ left) (steps_on so_far.events event)
            ∙ append_assoc (map (λ (e : Event). e.step) so_far.events) (step ∷ []) left
            ∙ so_far.all;
        run = run_on old so_far.events now new event so_far.run is;
        nodes = sound_on so_far.events event so_far.nodes node;
        made = made_on so_far.events event so_far.made made;
        sure = sure_on so_far.events event so_far.sure sure;
        tells =
            tells
            ∙ ap (λ (before : List ℕ). before ++ answer_line (suc place) answer) so_far.tells
            ∙ ap (λ (at : ℕ). refused_lines 1 so_far.events ++ answer_line at answer) (ap suc so_far.place_is ∙ next (length so_far.events))
            ∙ sym (lines_on 1 so_far.events event);
        text = text;
        place_is = ap suc so_far.place_is ∙ sym (length_on so_far.events event);
      }
    where
      next : (n : ℕ) → suc n ≡ 1 + n
      next n = omega arith

  -- a step was made, or refused and told
  next_so_far : (answer : Result Moved Why) (later : List ℕ) → IsUtf8 later → Gives (IsStep step failed now) new answer → IsTold (suc place) answer told later → LeadsSoFar old steps new left later (suc place)
  next_so_far (Ok moved) later text is tells = one_more (Done moved) later (λ same. absurd (cc)) text is (tells ∙ sym (append-nil told))
  next_so_far (Err (whys.Refused refusal)) later text is tells = one_more (Refuses refusal) later (λ same. absurd (cc)) text is tells
  next_so_far (Err whys.ConfigBad) later text is tells = absurd is
  next_so_far (Err whys.Memory) later text is tells = absurd tells

  pub leads_on : (answer : Result Moved Why) (later : List ℕ) → IsUtf8 later → Gives (IsStep step failed now) new answer → IsTold (place + 1) answer told later → LeadsSoFar old steps new left later (place + 1)
  leads_on answer later text is tells =
      subst (LeadsSoFar old steps new left later) (sym (one_above place))
      (next_so_far answer later text is (subst (λ (at : ℕ). IsTold at answer told later) (one_above place) tells))
    where
      one_above : (n : ℕ) → n + 1 ≡ suc n
      one_above n = omega arith
