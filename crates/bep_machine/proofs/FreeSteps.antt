-- Each quiet step of a sound cluster is one of free peers.
use Rattle.std.proofs.Common.{◌≡◌, ◌⊎◌, ℕ, Bool, true, false, List, [], ◌∷◌, Option, Some, Contains, refl, sym, ap, subst, subst₂, ◌∙◌, inl, inr, ⊎_elim}
use Rattle.std.specs.FinMap.{get}
use Rattle.bep_facts.specs.Members.{Contains-one, not_in_none}
use Rattle.bep_record.specs.declared.entry.Entry.{Entry}
use Rattle.bep_index.specs.Laws.{FoundIsOfBatchOrBefore, AmongIsContained}
use Rattle.bep_model.specs.declared.flight.Flight.{Flight}
use Rattle.bep_model.specs.declared.row.Row.{Row as CertificateRow}
use Rattle.bep_model.specs.Tables.{Tables, Device, Folder, FileName}
use Rattle.bep_model.specs.Foreign.{IsFlying}
use Rattle.bep_model.specs.Free.{MayWant, CarriesOwn, MayBecome, IsFreeRun}
use Rattle.bep_model.specs.Firm.{IsFirm}
use Rattle.bep_model.specs.Laws.{FirmStaysFirm}
use Rattle.bep_machine.specs.declared.message.Message.{Message}
use Rattle.bep_machine.specs.declared.message.Message.TheVariants as messages
use Rattle.bep_machine.specs.declared.step.Step.{Step}
use Rattle.bep_machine.specs.declared.step.Step.TheVariants.{Edit, Remove, Scan, Override, Revert, Connect, Lose, Begin, Deliver, Announce, StartPull, Ask, Finish, Restart, Reset}
use Rattle.bep_machine.specs.Answer.{Answer, Row}
use Rattle.bep_machine.specs.Replica.{Replica, own_at}
use Rattle.bep_machine.specs.Local.{ScanRow}
use Rattle.bep_machine.specs.Pull.{StartPullRow, FinishRow}
use Rattle.bep_machine.specs.Peer.{with_replica}
use Rattle.bep_machine.specs.Cluster.{Config, Cluster, with_peer}
use Rattle.bep_machine.specs.Steps.{SharesFolder, IsThere, AtReplica, StepRow, IsQuiet, reset_made}
use Rattle.bep_machine.specs.Said.{looked_up, replica_said, both_share, flight_when, flights_of, on_its_way, tables_of_cluster}
use Rattle.bep_machine.specs.Sound.{IsSound, IsSoundReplica}
use Rattle.bep_machine.specs.Laws.{StepsKeepSound}
use Rattle.bep_machine.specs.FreeLaws.{StepsAreFree, RunsAreFree, FirmStaysPut}
use Rattle.bep_machine.proofs.CalmStep.{sound_at, step_or_nothing, unmade_reset_reads}
use Rattle.bep_machine.proofs.Flights.{flights_go_on}
use Rattle.bep_machine.proofs.FreePlaces.{HasNews, IsFreePlace, free_where_same, free_where_read}
use Rattle.bep_machine.proofs.FreeRows.{scan_is_free, start_pull_is_free, finish_is_free}
use Rattle.bep_machine.proofs.LinkSteps.{AreOwn}
use Rattle.bep_machine.proofs.Places.{each_name_after_insert, each_after_change}
use Rattle.bep_machine.proofs.ReadingSteps.{SendsOwn, IsReadingStep, nothing_happens, connect_reads, lose_reads, restart_reads, begin_reads, announce_reads, ask_reads, deliver_reads}
use Rattle.bep_machine.proofs.RunFacts.{quiet_is_sound, no_reset_parts}
use Rattle.bep_machine.proofs.SaidReplicas.{said_where_shared}

-- ---- from the parts of a cluster to its tables

-- each device's replicas, and what flies between any two devices
record AreFreeParts (old new : Cluster) : Type 0 where
  config : new.config ≡ old.config
  places : (device : Device) (folder : Folder) → IsFreePlace (IsFlying (tables_of_cluster old) device folder) (get (old.peer device).replicas folder) (get (new.peer device).replicas folder)
  flights : (sender receiver : Device) (flight : Flight) → Contains (on_its_way new sender receiver) flight → Contains (on_its_way old sender receiver) flight ⊎ CarriesOwn (tables_of_cluster old) sender flight

module _ (old new : Cluster) (parts : AreFreeParts old new) where
  place : (device : Device) (folder : Folder) → SharesFolder old.config device folder → IsFreePlace (IsFlying (tables_of_cluster old) device folder) (replica_said old device folder) (replica_said new device folder)
  place device folder shares =
      let shares_still = subst (λ (config : Config). SharesFolder config device folder) (sym parts.config) shares in
      subst₂ (λ before after. IsFreePlace (IsFlying (tables_of_cluster old) device folder) before after)
      (sym (said_where_shared old device folder shares)) (sym (said_where_shared new device folder shares_still)) (parts.places device folder)

  wanted : (device : Device) (folder : Folder) (name : FileName) → HasNews (replica_said old device folder) name → MayWant (tables_of_cluster old) device folder name
  wanted device folder name news = record { entry = news.entry; had = news.had; valid = news.valid; news = news.news }

  become : MayBecome (tables_of_cluster old) (tables_of_cluster new)
  become = record {
    sharing = λ folder. ap (λ (config : Config). config.sharing folder) parts.config;
    own = λ device folder name shares.
        ⊎_elim
        (λ same. inl same)
        (λ leave. inr (⊎_elim (λ unclean. inl unclean) (λ news. inr (wanted device folder name news)) leave))
        ((place device folder shares).own name);
    node = λ device folder name shares.
        ⊎_elim
        (λ same. inl same)
        (λ leave. inr (leave.0, wanted device folder leave.0 leave.1))
        ((place device folder shares).node name);
    had = λ device folder name entry shares has. (place device folder shares).elsewhere name entry has;
    flying = parts.flights;
  }

-- ---- steps of one replica

module _ (old : Cluster) (sound : IsSound old) where
  replica_is_free : (new : Cluster) (device : Device) (folder : Folder) (row : Replica → Row Replica) (answer : Answer) →
      ((before after : Replica) → IsSoundReplica device before → row before after answer → IsFreePlace (IsFlying (tables_of_cluster old) device folder) (Some before) (Some after)) →
      SharesFolder old.config device folder → AtReplica device folder row old new answer → MayBecome (tables_of_cluster old) (tables_of_cluster new)
  replica_is_free new device folder row answer free shares made =
      let change = free made.0 made.1 (sound_at old sound device folder made.0 shares made.2) made.3 in
      subst (λ one. MayBecome (tables_of_cluster old) (tables_of_cluster one)) (sym made.4)
      (become old (with_peer old device (with_replica (old.peer device) folder made.1))
      (record {
        config = refl;
        places = each_after_change
            (λ one peer. (in_folder : Folder) → IsFreePlace (IsFlying (tables_of_cluster old) one in_folder) (get (old.peer one).replicas in_folder) (get peer.replicas in_folder))
            old.peer device (with_replica (old.peer device) folder made.1)
            (each_name_after_insert
            (λ in_folder replica. IsFreePlace (IsFlying (tables_of_cluster old) device in_folder) (get (old.peer device).replicas in_folder) replica)
            (old.peer device).replicas folder made.1
            (subst (λ replica. IsFreePlace (IsFlying (tables_of_cluster old) device folder) replica (Some made.1)) (sym made.2) change)
            (λ in_folder. free_where_same _ _))
            (λ one in_folder. free_where_same _ _);
        flights = λ sender receiver flight sent. inl sent;
      }))

  -- ---- steps over links

  module _ (among : AmongIsContained) where
    -- a device's index says what its tables say
    own_is_said : (device : Device) (folder : Folder) (replica : Replica) (entry : Entry) → Contains old.config.devices device → get (old.peer device).replicas folder ≡ Some replica → own_at replica entry.name ≡ Some entry → (tables_of_cluster old).own device folder entry.name ≡ Some entry
    own_is_said device folder replica entry there here own =
        let fit = (sound.peers device there).fit folder replica here in
        ap (looked_up own_at entry.name) (said_where_shared old device folder (replica.kind, fit.kind) ∙ here) ∙ own

    batch_is_own : (device : Device) (folder : Folder) (batch : List Entry) → Contains old.config.devices device → AreOwn (old.peer device) folder batch → (full shared : Bool) (flight : Flight) → Contains (flight_when shared folder full batch) flight → CarriesOwn (tables_of_cluster old) device flight
    batch_is_own device folder batch there own full true flight carries entry member valid =
        let same : record { folder = folder; full = full; records = batch } ≡ flight = Contains-one _ flight carries in
        let in_batch = subst (λ (one : Flight). Contains one.records entry) (sym same) member in
        subst (λ (one : Flight). (tables_of_cluster old).own device one.folder entry.name ≡ Some entry) same
        (own_is_said device folder own.0 entry there own.1 (own.2 entry ((among entry batch).1 in_batch)))
    batch_is_own device folder batch there own full false flight carries entry member valid = absurd (not_in_none flight carries)

    sent_is_own : (sender receiver : Device) (message : Message) → SendsOwn old sender receiver message → (flight : Flight) → Contains (flights_of old.config sender receiver message) flight → CarriesOwn (tables_of_cluster old) sender flight
    sent_is_own sender receiver (messages.Index folder batch) sends flight carries = batch_is_own sender folder batch sends.0 sends.1 true (both_share old.config sender receiver folder) flight carries
    sent_is_own sender receiver (messages.IndexUpdate folder batch) sends flight carries = batch_is_own sender folder batch sends.0 sends.1 false (both_share old.config sender receiver folder) flight carries
    sent_is_own sender receiver (messages.ClusterConfig named) sends flight carries = absurd (not_in_none flight carries)
    sent_is_own sender receiver (messages.Request request) sends flight carries = absurd (not_in_none flight carries)
    sent_is_own sender receiver (messages.Response response) sends flight carries = absurd (not_in_none flight carries)

    reading_is_free : (new : Cluster) → IsReadingStep old new → MayBecome (tables_of_cluster old) (tables_of_cluster new)
    reading_is_free new step = become old new (record {
      config = step.config;
      places = λ device folder. free_where_read (IsFlying (tables_of_cluster old) device folder) _ _ (step.reads device folder);
      flights = flights_go_on old (CarriesOwn (tables_of_cluster old)) sent_is_own new step;
    })

-- ---- each step

module _ (found : FoundIsOfBatchOrBefore) (among : AmongIsContained) (old new : Cluster) (answer : Answer) (failed : Option ℕ) (sound : IsSound old) where
  abbrev IsFree : Type 0
  IsFree = MayBecome (tables_of_cluster old) (tables_of_cluster new)

  row_is_free : (step : Step) → IsQuiet step → reset_made step answer ≡ [] → IsThere old.config step → StepRow step failed old new answer → IsFree
  row_is_free (Edit device folder name node) quiet unreset there made = absurd quiet
  row_is_free (Remove device folder name) quiet unreset there made = absurd quiet
  row_is_free (Scan device folder name) quiet unreset there made =
      replica_is_free old sound new device folder (ScanRow device name failed) answer (λ before after. scan_is_free _ device name failed before after answer) there made
  row_is_free (Override device folder name) quiet unreset there made = absurd quiet
  row_is_free (Revert device folder name) quiet unreset there made = absurd quiet
  row_is_free (Connect one other) quiet unreset there made = reading_is_free old sound among new (connect_reads old new one other answer made)
  row_is_free (Lose one other) quiet unreset there made = reading_is_free old sound among new (lose_reads old new one other answer made)
  row_is_free (Begin device other) quiet unreset there made = reading_is_free old sound among new (begin_reads old sound device other there new answer made)
  row_is_free (Deliver device other) quiet unreset there made = reading_is_free old sound among new (deliver_reads old sound device other there found among failed new answer made)
  row_is_free (Announce device other folder) quiet unreset there made = reading_is_free old sound among new (announce_reads old sound device other there.0 folder new answer made)
  row_is_free (StartPull device folder name) quiet unreset there made =
      replica_is_free old sound new device folder (StartPullRow device name) answer (λ before after. start_pull_is_free _ device name before after answer) there made
  row_is_free (Ask device other folder name) quiet unreset there made = reading_is_free old sound among new (ask_reads old sound device other there.0 folder name new answer made)
  row_is_free (Finish device folder name) quiet unreset there made =
      replica_is_free old sound new device folder (FinishRow device name failed) answer (λ before after. finish_is_free _ device name failed before after answer) there made
  row_is_free (Restart device) quiet unreset there made = reading_is_free old sound among new (restart_reads old new device answer made)
  row_is_free (Reset device id) quiet unreset there made = reading_is_free old sound among new (unmade_reset_reads device id old new answer unreset made)

pub steps_are_free_lem : FoundIsOfBatchOrBefore → AmongIsContained → StepsAreFree
steps_are_free_lem found among step failed old new answer quiet unreset sound made =
    step_or_nothing (λ one. MayBecome (tables_of_cluster old) (tables_of_cluster one)) step failed old new answer
    (reading_is_free old sound among old (nothing_happens old))
    (λ there row. row_is_free found among old new answer failed sound step quiet unreset there row)
    made

-- ---- runs

pub runs_are_free_lem : StepsKeepSound → StepsAreFree → RunsAreFree
runs_are_free_lem keep_sound free cluster later [] sound run quiet unreset = ([], ap tables_of_cluster run)
runs_are_free_lem keep_sound free cluster later (event ∷ more) sound run quiet unreset =
    let parts = no_reset_parts event more unreset in
    let next = run.0 in
    let sound_next = keep_sound event.step event.failed cluster next event.answer (quiet_is_sound event.step quiet.0) sound run.1 in
    let rest = runs_are_free_lem keep_sound free next later more sound_next run.2 quiet.1 parts.1 in
    (tables_of_cluster next ∷ rest.0, (free event.step event.failed cluster next event.answer quiet.0 parts.0 sound run.1, rest.1))

pub firm_stays_put_lem : RunsAreFree → FirmStaysFirm → (tables : Tables) (rows : List CertificateRow) → IsFirm tables rows → FirmStaysPut tables rows
firm_stays_put_lem free stays tables rows firm cluster later events sound says run quiet unreset =
    let between = free cluster later events sound run quiet unreset in
    stays tables rows firm (tables_of_cluster later) between.0 (subst (λ (t : Tables). IsFreeRun t between.0 (tables_of_cluster later)) says between.1)
