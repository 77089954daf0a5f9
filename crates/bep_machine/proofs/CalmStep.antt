-- Every quiet step of a sound cluster keeps calm, and takes no own record away, but for a reset that is made.
use Rattle.std.proofs.Common.{◌≡◌, ℕ, Bool, true, false, List, [], ◌∷◌, Option, Some, None, IsSome, Contains, refl, sym, ap, subst, ◌∙◌, inl, ⊎_elim}
use Rattle.std.specs.FinMap.{get}
use Rattle.bep_facts.specs.Members.{Contains-first, Contains-one, not_in_none}
use Rattle.bep_record.specs.declared.entry.Entry.{Entry}
use Rattle.bep_record.specs.declared.folder_kind.FolderKind.{FolderKind}
use Rattle.bep_record.specs.declared.folder_kind.FolderKind.TheVariants.{ReceiveOnly}
use Rattle.bep_record.specs.Content.{Content, content_of}
use Rattle.bep_record.specs.Laws.{CutIsOfOneLength}
use Rattle.bep_index.specs.Laws.{FoundIsOfBatchOrBefore, AmongIsContained}
use Rattle.bep_model.specs.declared.flight.Flight.{Flight}
use Rattle.bep_model.specs.Tables.{Device, Folder, FileName}
use Rattle.bep_model.specs.Calm.{Contents, content_due, OwnIsCalm, WasReset, OnlyReceives, IsCalm, Kept}
use Rattle.bep_model.specs.Foreign.{IsFlying}
use Rattle.bep_machine.specs.declared.message.Message.{Message}
use Rattle.bep_machine.specs.declared.message.Message.TheVariants as messages
use Rattle.bep_machine.specs.declared.step.Step.{Step}
use Rattle.bep_machine.specs.declared.step.Step.TheVariants.{Edit, Remove, Scan, Override, Revert, Connect, Lose, Begin, Deliver, Announce, StartPull, Ask, Finish, Restart, Reset}
use Rattle.bep_machine.specs.declared.moved.Moved.TheVariants.{Changed}
use Rattle.bep_machine.specs.Answer.{Answer, Done, Row}
use Rattle.bep_machine.specs.Replica.{Replica, own_at}
use Rattle.bep_machine.specs.Local.{ScanRow}
use Rattle.bep_machine.specs.Pull.{StartPullRow, FinishRow}
use Rattle.bep_machine.specs.Peer.{with_replica}
use Rattle.bep_machine.specs.Cluster.{Cluster, with_peer}
use Rattle.bep_machine.specs.Steps.{SharesFolder, IsThere, AtReplica, ResetRow, StepRow, IsStep, IsQuiet, reset_made}
use Rattle.bep_machine.specs.Said.{looked_up, both_share, flight_when, flights_of, tables_of_cluster}
use Rattle.bep_machine.specs.Sound.{IsSound, IsSoundReplica}
use Rattle.bep_machine.specs.Laws.{AreAmong, QuietStepsKeepCalm, QuietStepsKeepRecords}
use Rattle.bep_model.specs.Stays.{KeepsRecords}
use Rattle.bep_machine.proofs.CalmParts.{IsCalmReplica, IsQuietChange}
use Rattle.bep_machine.proofs.CalmTables.{HasDue, IsQuietMove, calm_after_move, kept_after_move}
use Rattle.bep_machine.proofs.CalmMoves.{AllDue, IsComing, AreQuietParts, move_of_parts}
use Rattle.bep_machine.proofs.CalmReplicaStep.{calm_replica, quiet_parts_of_change}
use Rattle.bep_machine.proofs.SaidReplicas.{said_where_shared, records_said}
use Rattle.bep_machine.proofs.Places.{each_name_after_insert, each_after_change}
use Rattle.bep_machine.proofs.CalmRows.{at_answers, at_becomes}
use Rattle.bep_machine.proofs.CalmScan.{scan_is_quiet}
use Rattle.bep_machine.proofs.CalmPull.{start_pull_is_quiet}
use Rattle.bep_machine.proofs.CalmFinish.{finish_is_quiet}
use Rattle.bep_machine.proofs.CalmReset.{after_restart, after_reset, reset_moves}
use Rattle.bep_machine.proofs.KeepsOwn.{KeepsOwn, scan_keeps_own, start_pull_keeps_own, finish_keeps_own}
use Rattle.bep_machine.proofs.ThereDecided.{there_decided}
use Rattle.bep_machine.proofs.ReadOn.{quiet_where_read}
use Rattle.bep_machine.proofs.Flights.{flights_go_on}
use Rattle.bep_machine.proofs.LinkSteps.{AreOwn}
use Rattle.bep_machine.proofs.ReadingSteps.{SendsOwn, IsReadingStep, nothing_happens, connect_reads, lose_reads, restart_reads, begin_reads, announce_reads, ask_reads, deliver_reads}

-- ---- what is sent has the contents that are due

due_content : (due : Option Content) (content : Content) → content ≡ content_due due → ¬ (due ≡ None) → due ≡ Some content
due_content None content is listed = absurd (listed refl)
due_content (Some other) content is listed = ap (λ one. Some one) (sym is)

module _ (among : AmongIsContained) (contents : Contents) (reset : List Device) (cluster : Cluster) (sound : IsSound cluster) (calm : IsCalm (tables_of_cluster cluster) contents reset) where
  own_is_due : (device : Device) (folder : Folder) (replica : Replica) (entry : Entry) → Contains cluster.config.devices device → get (cluster.peer device).replicas folder ≡ Some replica → own_at replica entry.name ≡ Some entry → HasDue contents folder entry.name entry
  own_is_due device folder replica entry there here own =
      let fit = (sound.peers device there).fit folder replica here in
      let at = calm device folder entry.name (replica.kind, fit.kind) in
      let has : (tables_of_cluster cluster).own device folder entry.name ≡ Some entry = ap (looked_up own_at entry.name) (said_where_shared cluster device folder (replica.kind, fit.kind) ∙ here) ∙ own in
      let of_due : OwnIsCalm (WasReset reset device) (OnlyReceives (tables_of_cluster cluster) device folder) (Some entry) (content_due (contents folder entry.name)) =
      subst (λ one. OwnIsCalm (WasReset reset device) (OnlyReceives (tables_of_cluster cluster) device folder) one (content_due (contents folder entry.name))) has at.own
      in
      due_content (contents folder entry.name) (content_of entry) of_due.1
      (λ none. let nothing = (at.unlisted none).own in absurd (cc))

  batch_is_due : (device : Device) (folder : Folder) (batch : List Entry) → Contains cluster.config.devices device → AreOwn (cluster.peer device) folder batch → (full shared : Bool) (flight : Flight) → Contains (flight_when shared folder full batch) flight → AllDue contents flight
  batch_is_due device folder batch there own full true flight carries entry member =
      let same : record { folder = folder; full = full; records = batch } ≡ flight = Contains-one _ flight carries in
      let in_batch = subst (λ (one : Flight). Contains one.records entry) (sym same) member in
      subst (λ (one : Flight). HasDue contents one.folder entry.name entry) same
      (own_is_due device folder own.0 entry there own.1 (own.2 entry ((among entry batch).1 in_batch)))
  batch_is_due device folder batch there own full false flight carries entry member = absurd (not_in_none flight carries)

  sent_is_due : (sender receiver : Device) (message : Message) → SendsOwn cluster sender receiver message → (flight : Flight) → Contains (flights_of cluster.config sender receiver message) flight → AllDue contents flight
  sent_is_due sender receiver (messages.Index folder batch) sends flight carries = batch_is_due sender folder batch sends.0 sends.1 true (both_share cluster.config sender receiver folder) flight carries
  sent_is_due sender receiver (messages.IndexUpdate folder batch) sends flight carries = batch_is_due sender folder batch sends.0 sends.1 false (both_share cluster.config sender receiver folder) flight carries
  sent_is_due sender receiver (messages.ClusterConfig named) sends flight carries = absurd (not_in_none flight carries)
  sent_is_due sender receiver (messages.Request request) sends flight carries = absurd (not_in_none flight carries)
  sent_is_due sender receiver (messages.Response response) sends flight carries = absurd (not_in_none flight carries)

  -- ---- steps over links

  pub reading_parts : (new : Cluster) → IsReadingStep cluster new → AreQuietParts contents cluster new
  reading_parts new step = record {
    config = step.config;
    places = λ device folder. quiet_where_read (IsFlying (tables_of_cluster cluster) device folder) (IsComing contents cluster device folder) (OnlyReceives (tables_of_cluster cluster) device folder) (λ name entry flies. inl flies) _ _ (step.reads device folder);
    flights = flights_go_on cluster (λ _ flight. AllDue contents flight) sent_is_due new step;
  }

-- ---- steps of one replica

-- the row of a quiet step of a device's replica changes a calm replica quietly
abbrev pub RowIsQuiet : Device → (Replica → Row Replica) → Type 1
RowIsQuiet device row =
    (reset receives : Type 0) (contents : FileName → Option Content) (old new : Replica) (answer : Answer) → (old.kind ≡ ReceiveOnly → receives) →
    IsSoundReplica device old → IsCalmReplica reset receives contents old → row old new answer → IsQuietChange receives old new

-- and takes no own record away, calm or not
abbrev pub RowKeepsOwn : (Replica → Row Replica) → Type 0
RowKeepsOwn row = (old new : Replica) (answer : Answer) → row old new answer → KeepsOwn old new

-- the cluster stays calm, with its files
abbrev KeepsCalm : Contents → List Device → Cluster → Cluster → Type 0
KeepsCalm contents reset old new = IsCalm (tables_of_cluster new) contents reset × Kept (tables_of_cluster old) (tables_of_cluster new)

move_keeps_calm : (contents : Contents) (reset : List Device) (old new : Cluster) → IsCalm (tables_of_cluster old) contents reset → IsQuietMove contents reset (tables_of_cluster old) (tables_of_cluster new) → KeepsCalm contents reset old new
move_keeps_calm contents reset old new calm move =
    (calm_after_move contents reset (tables_of_cluster old) (tables_of_cluster new) move calm, kept_after_move contents reset (tables_of_cluster old) (tables_of_cluster new) move)

parts_keep_calm : (contents : Contents) (reset : List Device) (old new : Cluster) → IsCalm (tables_of_cluster old) contents reset → AreQuietParts contents old new → KeepsCalm contents reset old new
parts_keep_calm contents reset old new calm parts = move_keeps_calm contents reset old new calm (move_of_parts contents old new parts reset calm)

pub sound_at : (cluster : Cluster) → IsSound cluster → (device : Device) (folder : Folder) (replica : Replica) → SharesFolder cluster.config device folder → get (cluster.peer device).replicas folder ≡ Some replica → IsSoundReplica device replica
sound_at cluster sound device folder replica shares here = (sound.peers device (sound.config.sharing folder device shares)).replicas folder replica here

-- a replica of a folder that its device only receives
receives_only : (cluster : Cluster) → IsSound cluster → (device : Device) (folder : Folder) (replica : Replica) → SharesFolder cluster.config device folder → get (cluster.peer device).replicas folder ≡ Some replica → replica.kind ≡ ReceiveOnly → OnlyReceives (tables_of_cluster cluster) device folder
receives_only cluster sound device folder replica shares here kind =
    subst (λ (k : FolderKind). Contains (cluster.config.sharing folder) (device, k)) kind ((sound.peers device (sound.config.sharing folder device shares)).fit folder replica here).kind

replica_keeps_calm : (contents : Contents) (reset : List Device) (old new : Cluster) (device : Device) (folder : Folder) (row : Replica → Row Replica) (answer : Answer) → RowIsQuiet device row → IsSound old → IsCalm (tables_of_cluster old) contents reset → SharesFolder old.config device folder → AtReplica device folder row old new answer → KeepsCalm contents reset old new
replica_keeps_calm contents reset old new device folder row answer quiet sound calm shares made =
    let here = made.2 in
    let change = quiet (WasReset reset device) (OnlyReceives (tables_of_cluster old) device folder) (contents folder) made.0 made.1 answer
    (receives_only old sound device folder made.0 shares here)
    (sound_at old sound device folder made.0 shares here) (calm_replica contents reset old calm device folder made.0 shares here) made.3
    in
    subst (λ one. KeepsCalm contents reset old one) (sym made.4) (parts_keep_calm contents reset old _ calm (quiet_parts_of_change contents old device folder made.0 made.1 here change))

replica_keeps_records : (old new : Cluster) (device : Device) (folder : Folder) (row : Replica → Row Replica) (answer : Answer) → RowKeepsOwn row → AtReplica device folder row old new answer → KeepsRecords (tables_of_cluster old) (tables_of_cluster new)
replica_keeps_records old new device folder row answer keeps made =
    subst (λ one. KeepsRecords (tables_of_cluster old) (tables_of_cluster one)) (sym made.4)
    (records_said old (with_peer old device (with_replica (old.peer device) folder made.1)) refl
    (each_after_change (λ one peer. (in_folder : Folder) (name : FileName) → IsSome (looked_up own_at name (get (old.peer one).replicas in_folder)) → IsSome (looked_up own_at name (get peer.replicas in_folder)))
    old.peer device (with_replica (old.peer device) folder made.1)
    (each_name_after_insert (λ in_folder replica. (name : FileName) → IsSome (looked_up own_at name (get (old.peer device).replicas in_folder)) → IsSome (looked_up own_at name replica))
    (old.peer device).replicas folder made.1
    (subst (λ replica. (name : FileName) → IsSome (looked_up own_at name replica) → IsSome (own_at made.1 name)) (sym made.2)
    (λ name has. keeps made.0 made.1 answer made.3 name has))
    (λ in_folder name has. has))
    (λ one in_folder name has. has)))

reading_keeps_records : (old new : Cluster) → IsReadingStep old new → KeepsRecords (tables_of_cluster old) (tables_of_cluster new)
reading_keeps_records old new step =
    records_said old new step.config (λ device folder name has. subst (λ own. IsSome own) (sym ((step.reads device folder).own name)) has)

-- ---- resets

-- a reset that was done counts as one
reset_counts : (device : Device) (id : ℕ) (answer : Answer) → answer ≡ Done Changed → reset_made (Reset device id) answer ≡ device ∷ []
reset_counts device id answer is = ap (λ (a : Answer). reset_made (Reset device id) a) is

-- and one that does not count leaves the cluster as it was
pub unmade_reset_stays : (device : Device) (id : ℕ) (old new : Cluster) (answer : Answer) → reset_made (Reset device id) answer ≡ [] → ResetRow device id old new answer → new ≡ old
unmade_reset_stays device id old new answer unmade row =
    at_answers (λ (one : Cluster). one ≡ old) row refl
    (λ _ done. absurd (let none : device ∷ [] ≡ [] = sym (reset_counts device id answer done.1) ∙ unmade in cc))

pub unmade_reset_reads : (device : Device) (id : ℕ) (old new : Cluster) (answer : Answer) → reset_made (Reset device id) answer ≡ [] → ResetRow device id old new answer → IsReadingStep old new
unmade_reset_reads device id old new answer unmade row =
    subst (λ (one : Cluster). IsReadingStep old one) (sym (unmade_reset_stays device id old new answer unmade row)) (nothing_happens old)

-- ---- the laws

-- a step is made where all that it names is there; else nothing happens
pub step_or_nothing : (P : Cluster → Type 0) (step : Step) (failed : Option ℕ) (old new : Cluster) (answer : Answer) → P old → (IsThere old.config step → StepRow step failed old new answer → P new) → IsStep step failed old new answer → P new
step_or_nothing P step failed old new answer nothing made is =
    ⊎_elim
    (λ memory. at_becomes P memory.1 nothing)
    (λ row.
    ⊎_elim
    (λ refused. at_becomes P refused.1 nothing)
    (λ goes. ⊎_elim (λ there. made there goes.1) (λ absent. absurd (goes.0 absent)) (there_decided old.config step))
    row)
    is

module _ (found : FoundIsOfBatchOrBefore) (among : AmongIsContained) where
  module _ (one_length : CutIsOfOneLength) (contents : Contents) (reset : List Device) (old new : Cluster) (answer : Answer) (failed : Option ℕ) (sound : IsSound old) (calm : IsCalm (tables_of_cluster old) contents reset) where
    reading_keeps_calm : IsReadingStep old new → KeepsCalm contents reset old new
    reading_keeps_calm step = parts_keep_calm contents reset old new calm (reading_parts among contents reset old sound calm new step)

    -- a device that may lack records, if its reset is done
    reset_keeps_calm : (device : Device) (id : ℕ) → (answer ≡ Done Changed → WasReset reset device) → ResetRow device id old new answer → KeepsCalm contents reset old new
    reset_keeps_calm device id was row =
        at_answers (KeepsCalm contents reset old) row (parts_keep_calm contents reset old old calm (reading_parts among contents reset old sound calm old (nothing_happens old)))
        (λ _ made.
        at_becomes (KeepsCalm contents reset old) made
        (move_keeps_calm contents reset old (after_reset old device id) calm
        (reset_moves old device id contents reset (was made.1) calm (reading_parts among contents reset old sound calm (after_restart old device) (restart_reads old (after_restart old device) device (Done Changed) (refl, refl))))))

    row_keeps_calm : (step : Step) → IsQuiet step → AreAmong (reset_made step answer) reset → IsThere old.config step → StepRow step failed old new answer → KeepsCalm contents reset old new
    row_keeps_calm (Edit device folder name node) quiet may there made = absurd quiet
    row_keeps_calm (Remove device folder name) quiet may there made = absurd quiet
    row_keeps_calm (Scan device folder name) quiet may there made = replica_keeps_calm contents reset old new device folder (ScanRow device name failed) answer (λ reset receives contents old new answer. scan_is_quiet reset receives contents device name failed old new answer) sound calm there made
    row_keeps_calm (Override device folder name) quiet may there made = absurd quiet
    row_keeps_calm (Revert device folder name) quiet may there made = absurd quiet
    row_keeps_calm (Connect one other) quiet may there made = reading_keeps_calm (connect_reads old new one other answer made)
    row_keeps_calm (Lose one other) quiet may there made = reading_keeps_calm (lose_reads old new one other answer made)
    row_keeps_calm (Begin device other) quiet may there made = reading_keeps_calm (begin_reads old sound device other there new answer made)
    row_keeps_calm (Deliver device other) quiet may there made = reading_keeps_calm (deliver_reads old sound device other there found among failed new answer made)
    row_keeps_calm (Announce device other folder) quiet may there made = reading_keeps_calm (announce_reads old sound device other there.0 folder new answer made)
    row_keeps_calm (StartPull device folder name) quiet may there made = replica_keeps_calm contents reset old new device folder (StartPullRow device name) answer (λ reset receives contents old new answer only. start_pull_is_quiet reset receives contents device name old new answer) sound calm there made
    row_keeps_calm (Ask device other folder name) quiet may there made = reading_keeps_calm (ask_reads old sound device other there.0 folder name new answer made)
    row_keeps_calm (Finish device folder name) quiet may there made = replica_keeps_calm contents reset old new device folder (FinishRow device name failed) answer (λ reset receives contents old new answer only. finish_is_quiet one_length reset receives contents device name failed old new answer) sound calm there made
    row_keeps_calm (Restart device) quiet may there made = reading_keeps_calm (restart_reads old new device answer made)
    row_keeps_calm (Reset device id) quiet may there made =
        reset_keeps_calm device id (λ done. may device (subst (λ (some : List Device). Contains some device) (sym (reset_counts device id answer done)) (Contains-first device []))) made

  module _ (old new : Cluster) (answer : Answer) (failed : Option ℕ) (sound : IsSound old) where
    row_keeps_records : (step : Step) → IsQuiet step → reset_made step answer ≡ [] → IsThere old.config step → StepRow step failed old new answer → KeepsRecords (tables_of_cluster old) (tables_of_cluster new)
    row_keeps_records (Edit device folder name node) quiet unreset there made = absurd quiet
    row_keeps_records (Remove device folder name) quiet unreset there made = absurd quiet
    row_keeps_records (Scan device folder name) quiet unreset there made = replica_keeps_records old new device folder (ScanRow device name failed) answer (scan_keeps_own device name failed) made
    row_keeps_records (Override device folder name) quiet unreset there made = absurd quiet
    row_keeps_records (Revert device folder name) quiet unreset there made = absurd quiet
    row_keeps_records (Connect one other) quiet unreset there made = reading_keeps_records old new (connect_reads old new one other answer made)
    row_keeps_records (Lose one other) quiet unreset there made = reading_keeps_records old new (lose_reads old new one other answer made)
    row_keeps_records (Begin device other) quiet unreset there made = reading_keeps_records old new (begin_reads old sound device other there new answer made)
    row_keeps_records (Deliver device other) quiet unreset there made = reading_keeps_records old new (deliver_reads old sound device other there found among failed new answer made)
    row_keeps_records (Announce device other folder) quiet unreset there made = reading_keeps_records old new (announce_reads old sound device other there.0 folder new answer made)
    row_keeps_records (StartPull device folder name) quiet unreset there made = replica_keeps_records old new device folder (StartPullRow device name) answer (start_pull_keeps_own device name) made
    row_keeps_records (Ask device other folder name) quiet unreset there made = reading_keeps_records old new (ask_reads old sound device other there.0 folder name new answer made)
    row_keeps_records (Finish device folder name) quiet unreset there made = replica_keeps_records old new device folder (FinishRow device name failed) answer (finish_keeps_own device name failed) made
    row_keeps_records (Restart device) quiet unreset there made = reading_keeps_records old new (restart_reads old new device answer made)
    row_keeps_records (Reset device id) quiet unreset there made = reading_keeps_records old new (unmade_reset_reads device id old new answer unreset made)

  -- a quiet step keeps calm, and each store byte for byte
  pub quiet_steps_keep_calm_lem : CutIsOfOneLength → QuietStepsKeepCalm
  quiet_steps_keep_calm_lem one_length contents reset step failed old new answer quiet may sound calm made =
      step_or_nothing (KeepsCalm contents reset old) step failed old new answer
      (reading_keeps_calm one_length contents reset old old answer failed sound calm (nothing_happens old))
      (λ there row. row_keeps_calm one_length contents reset old new answer failed sound calm step quiet may there row)
      made

  -- a quiet step that is no reset takes no own record away
  pub quiet_steps_keep_records_lem : QuietStepsKeepRecords
  quiet_steps_keep_records_lem step failed old new answer quiet unreset sound made =
      step_or_nothing (λ one. KeepsRecords (tables_of_cluster old) (tables_of_cluster one)) step failed old new answer
      (λ device folder name has. has)
      (λ there row. row_keeps_records old new answer failed sound step quiet unreset there row)
      made
