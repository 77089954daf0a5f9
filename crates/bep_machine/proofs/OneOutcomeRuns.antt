-- Two runs of the same steps from a sound cluster are one.
use Rattle.std.proofs.Common.{◌≡◌, [], ◌∷◌, refl, sym, subst, ◌∙◌}
use Rattle.bep_machine.specs.Cluster.{Cluster}
use Rattle.bep_machine.specs.Steps.{IsStep, Event, IsRun}
use Rattle.bep_machine.specs.Laws.{StepsKeepSound}
use Rattle.bep_machine.specs.Determined.{StepsAreDetermined, RunsAreDetermined}

same_event : (one other : Event) → one.step ≡ other.step → one.failed ≡ other.failed → one.answer ≡ other.answer → one ≡ other
same_event one other step failed answer = λ i. record { step = step i; failed = failed i; answer = answer i }

-- the step of the one event with the answer of the other
same_call : (one other : Event) (old new : Cluster) → one.step ≡ other.step → one.failed ≡ other.failed → IsStep other.step other.failed old new other.answer → IsStep one.step one.failed old new other.answer
same_call one other old new step failed made =
    subst (λ s. IsStep s one.failed old new other.answer) (sym step) (subst (λ f. IsStep other.step f old new other.answer) (sym failed) made)

module _ (determined : StepsAreDetermined) (keeps_sound : StepsKeepSound) where
  pub runs_are_determined_lem : RunsAreDetermined
  runs_are_determined_lem old one other [] [] sound user same made made_too run again = (run ∙ sym again, refl)
  runs_are_determined_lem old one other [] (event ∷ others) sound user same made made_too run again = absurd same
  runs_are_determined_lem old one other (event ∷ events) [] sound user same made made_too run again = absurd same
  runs_are_determined_lem old one other (event ∷ events) (next ∷ others) sound user same made made_too run again =
      let ends =
      determined event.step event.failed old run.0 again.0 event.answer next.answer sound run.1
      (same_call event next old again.0 same.0 same.1 again.1) made.0 made_too.0 in
      let rest =
      runs_are_determined_lem run.0 one other events others (keeps_sound event.step event.failed old run.0 event.answer user.0 sound run.1)
      user.1 same.2 made.1 made_too.1 run.2 (subst (λ (c : Cluster). IsRun c others other) (sym ends.0) again.2) in
      (rest.0, λ i. same_event event next same.0 same.1 ends.1 i ∷ rest.1 i)
