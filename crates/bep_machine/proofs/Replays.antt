-- Of every run there is a log that all objects replay, and one log that all objects replay is of a run.
use Rattle.std.proofs.Common.{List, [], ◌∷◌, refl, sym, subst, ◌∙◌, inl, inr, ⊎_elim}
use Rattle.bep_machine.specs.Cluster.{Cluster}
use Rattle.bep_machine.specs.Steps.{Event}
use Rattle.bep_machine.specs.declared.logged.Logged.{Logged}
use Rattle.bep_machine.specs.Halves.{logged_of, IsDone}
use Rattle.bep_machine.specs.HalfLaws.{IsMadeBy, HalvesMakeTheStep, StepHasHalves, IsReplayed, IsLogOf, RunReplays, AreThere, ReplaysRun}
use Rattle.bep_machine.proofs.HalfSteps.{same_cluster}

-- no event is replayed
replays_nothing : (cluster : Cluster) → IsReplayed [] cluster cluster
replays_nothing cluster = record { config = refl; peers = λ device. refl; links = λ lower upper. refl }

-- one event is replayed before the others
replays_one_more : (event : Logged) (logged : List Logged) (old next new : Cluster) → IsMadeBy event old next → IsReplayed logged next new → IsReplayed (event ∷ logged) old new
replays_one_more event logged old next new made replayed = record {
  config = replayed.config ∙ made.config;
  peers = λ device. (next.peer device, made.peers device, replayed.peers device);
  links = λ lower upper. (next.link lower upper, made.links lower upper, replayed.links lower upper);
}

-- the log has all but an event that isn't done
log_without : (event : Event) (events : List Event) (logged : List Logged) → ¬ IsDone event.answer → IsLogOf events logged → IsLogOf (event ∷ events) logged
log_without event events [] undone of_run = (undone, of_run)
log_without event events (one ∷ logged) undone of_run = inl (undone, of_run)

module _ (has_halves : StepHasHalves) where
  pub run_replays_lem : RunReplays
  run_replays_lem old new [] same = ([], tt, tt, subst (λ c. IsReplayed [] old c) (sym same) (replays_nothing old))
  run_replays_lem old new (event ∷ events) (next, step, run) =
      let rest = run_replays_lem next new events run in
      ⊎_elim
      (λ nothing. (
        rest.0,
        log_without event events rest.0 nothing.0 rest.1,
        subst (λ c. AreThere c.config rest.0) nothing.1 rest.2,
        subst (λ c. IsReplayed rest.0 c new) nothing.1 rest.3,
      ))
      (λ half. (
        logged_of event half.0 ∷ rest.0,
        inr (refl, rest.1),
        (half.1, subst (λ c. AreThere c rest.0) half.2.config rest.2),
        replays_one_more (logged_of event half.0) rest.0 old next new half.2 rest.3,
      ))
      (has_halves event old next step)

module _ (make_step : HalvesMakeTheStep) where
  pub replays_run_lem : ReplaysRun
  replays_run_lem old new [] there replayed = ([], tt, same_cluster new old replayed.config replayed.peers replayed.links)
  replays_run_lem old new (event ∷ logged) there replayed =
      let next : Cluster = record { config = old.config; peer = λ device. (replayed.peers device).0; link = λ lower upper. (replayed.links lower upper).0 } in
      let made = make_step event old next there.0 (record { config = refl; peers = λ device. (replayed.peers device).1; links = λ lower upper. (replayed.links lower upper).1 }) in
      let rest = replays_run_lem next new logged there.1 (record { config = replayed.config; peers = λ device. (replayed.peers device).2; links = λ lower upper. (replayed.links lower upper).2 }) in
      (record { step = event.step; failed = event.failed; answer = made.0 } ∷ rest.0, (made.2, refl, rest.1), (next, made.1, rest.2))
