-- Where logs fit, and no event is a local step, what was settled stays put.
use Rattle.std.proofs.Common.{List, [], ◌∷◌, Option, Some, None, Contains, sym, ap, subst, inl, inr, ⊎_elim}
use Rattle.std.proofs.lemmas.List.Elements.{Contains-append_cases, Contains-append_left, Contains-append_right}
use Rattle.bep_facts.specs.Members.{Contains-first, Contains-from_image, Contains-more, not_in_none}
use Rattle.bep_record.specs.declared.entry.Entry.{Entry}
use Rattle.bep_record.specs.Content.{Content}
use Rattle.bep_model.specs.declared.row.Row.{Row}
use Rattle.bep_model.specs.Stays.{OwnHas, Stays}
use Rattle.bep_model.specs.Tables.{Tables, Device}
use Rattle.bep_machine.specs.declared.logged.Logged.{Logged}
use Rattle.bep_machine.specs.declared.step.Step.{Step}
use Rattle.bep_machine.specs.declared.step.Step.TheVariants.{Edit, Remove, Scan, Override, Revert, Connect, Lose, Begin, Deliver, Announce, StartPull, Ask, Finish, Restart, Reset}
use Rattle.bep_machine.specs.Answer.{Answer, Done, Refused, OutOfMemory}
use Rattle.bep_machine.specs.HalfLaws.{HasStepsOf}
use Rattle.bep_machine.specs.Halves.{reset_in_log}
use Rattle.bep_machine.specs.Laws.{AreAmong, IsSoundStep, SettledStaysPut}
use Rattle.bep_machine.specs.Said.{tables_of_cluster}
use Rattle.bep_machine.specs.Steps.{AreQuiet, Event, IsQuiet, reset_by, reset_made, reset_in}
use Rattle.bep_fit.specs.declared.stamped.Stamped.{Stamped}
use Rattle.bep_fit.specs.Fit.{IsMerged}
use Rattle.bep_fit.specs.FitLaws.{FittingLogsAreOneRun, SettledLogsStayPut}
use Rattle.bep_fit.specs.Logs.{ObjectLog, events_of}
use Rattle.bep_fit.specs.Replayed.{AreQuietLogs, AreResetOf, AreSoundLogs}

-- a step that no user makes puts nothing that a user gave
quiet_is_sound : (step : Step) → IsQuiet step → IsSoundStep step
quiet_is_sound (Edit device folder name node) quiet = absurd quiet
quiet_is_sound (Remove device folder name) quiet = tt
quiet_is_sound (Scan device folder name) quiet = tt
quiet_is_sound (Override device folder name) quiet = tt
quiet_is_sound (Revert device folder name) quiet = tt
quiet_is_sound (Connect one other) quiet = tt
quiet_is_sound (Lose one other) quiet = tt
quiet_is_sound (Begin device other) quiet = tt
quiet_is_sound (Deliver device other) quiet = tt
quiet_is_sound (Announce device other folder) quiet = tt
quiet_is_sound (StartPull device folder name) quiet = tt
quiet_is_sound (Ask device other folder name) quiet = tt
quiet_is_sound (Finish device folder name) quiet = tt
quiet_is_sound (Restart device) quiet = tt
quiet_is_sound (Reset device id) quiet = tt

-- a run is quiet where what is logged of it is
quiet_run : (logged : List Logged) (events : List Event) → HasStepsOf logged events → ((one : Logged) → Contains logged one → IsQuiet one.step) → AreQuiet events
quiet_run [] [] steps quiet = tt
quiet_run [] (event ∷ events) steps quiet = absurd steps
quiet_run (one ∷ logged) [] steps quiet = absurd steps
quiet_run (one ∷ logged) (event ∷ events) steps quiet = (
  subst (λ (s : Step). IsQuiet s) (ap (λ (l : Logged). l.step) steps.0) (quiet one (Contains-first one logged)),
  quiet_run logged events steps.2 (λ later stands. quiet later (Contains-more one logged later stands)),
)

-- each event of the merged list is one of the logs
merged_is_quiet : (logs : List ObjectLog) (merged : List Stamped) → IsMerged logs merged → AreQuietLogs logs → (one : Logged) → Contains (events_of merged) one → IsQuiet one.step
merged_is_quiet logs merged is quiet one stands =
    let found = Contains-from_image (λ (s : Stamped). s.event) merged one stands in
    let in_log = (is.holds found.0).0 found.1 in
    subst (λ (l : Logged). IsQuiet l.step) found.2 (quiet in_log.0 found.0 in_log.1 in_log.2)

-- a reset that was made is a reset
made_is_by : (step : Step) (answer : Answer) → AreAmong (reset_made step answer) (reset_by step)
made_is_by step (Done moved) device is = is
made_is_by step (Refused why) device is = absurd (not_in_none device is)
made_is_by step OutOfMemory device is = absurd (not_in_none device is)

-- the devices of the resets that were made in a run are among those of its log
reset_logged : (logged : List Logged) (events : List Event) → HasStepsOf logged events → AreAmong (reset_in events) (reset_in_log logged)
reset_logged [] [] steps device is = is
reset_logged [] (event ∷ events) steps device is = absurd steps
reset_logged (one ∷ logged) [] steps device is = absurd steps
reset_logged (one ∷ logged) (event ∷ events) steps device is =
    ⊎_elim
    (λ now.
    Contains-append_left (reset_by one.step) (reset_in_log logged) device
    (subst (λ (s : Step). Contains (reset_by s) device) (sym (ap (λ (l : Logged). l.step) steps.0)) (made_is_by event.step event.answer device now)))
    (λ later. Contains-append_right (reset_by one.step) (reset_in_log logged) device (reset_logged logged events steps.2 device later))
    (Contains-append_cases (reset_made event.step event.answer) (reset_in events) device is)

-- each of them is of an event in the merged list, so of one in the logs
reset_is_logged : (logged : List Logged) (device : Device) → Contains (reset_in_log logged) device → (one : Logged) × Contains logged one × Contains (reset_by one.step) device
reset_is_logged [] device is = absurd (not_in_none device is)
reset_is_logged (one ∷ more) device is =
    ⊎_elim
    (λ now. (one, Contains-first one more, now))
    (λ later.
    let found = reset_is_logged more device later in
    (found.0, Contains-more one more found.0 found.1, found.2))
    (Contains-append_cases (reset_by one.step) (reset_in_log more) device is)

merged_resets : (logs : List ObjectLog) (merged : List Stamped) (reset : List Device) → IsMerged logs merged → AreResetOf logs reset → AreAmong (reset_in_log (events_of merged)) reset
merged_resets logs merged reset is all device stands =
    let found = reset_is_logged (events_of merged) device stands in
    let stamped = Contains-from_image (λ (s : Stamped). s.event) merged found.0 found.1 in
    let in_log = (is.holds stamped.0).0 stamped.1 in
    all in_log.0 stamped.0 in_log.1 in_log.2 device (subst (λ (l : Logged). Contains (reset_by l.step) device) (sym stamped.2) found.2)

-- more devices may lack records where fewer may
own_has_still : (reset more : Type 0) (own : Option Entry) (content : Content) → (reset → more) → OwnHas reset own content → OwnHas more own content
own_has_still reset more None content wider has = ⊎_elim (λ deleted. inl deleted) (λ was. inr (wider was)) has
own_has_still reset more (Some own) content wider has = has

stays_with : (before : Tables) (rows : List Row) (reset more : List Device) (after : Tables) → AreAmong reset more → Stays before rows reset after → Stays before rows more after
stays_with before rows reset more after among stays = record {
  kept = stays.kept;
  store = stays.store;
  own = λ row device member shares. own_has_still _ _ _ _ (among device) (stays.own row device member shares);
  unlisted = stays.unlisted;
}

module _ (runs : FittingLogsAreOneRun) (puts : SettledStaysPut) where
  pub settled_logs_stay_put_lem : SettledLogsStayPut
  settled_logs_stay_put_lem logs bases present count tables rows reset sound replayed fits quiet all says settled =
      let nodes : AreSoundLogs logs = λ log one there stands. quiet_is_sound one.event.step (quiet log one there stands) in
      let run = runs logs bases present count sound replayed nodes fits in
      stays_with tables rows (reset_in run.2.events) reset (tables_of_cluster present)
      (λ device is. merged_resets logs run.0 reset run.2.is_merged all device (reset_logged (events_of run.0) run.2.events run.2.steps device is))
      (puts tables rows settled bases present run.2.events sound says run.2.run
      (quiet_run (events_of run.0) run.2.events run.2.steps (merged_is_quiet logs run.0 run.2.is_merged quiet)))
