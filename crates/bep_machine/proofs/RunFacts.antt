-- What holds after every quiet run from a settled cluster.
use Rattle.std.proofs.Common.{◌≡◌, ℕ, List, [], ◌∷◌, ◌++◌, Option, Some, None, IsSome, Contains, refl, sym, ap, subst, ◌∙◌, ⊎_elim, Bool, true, false, if◌then◌else◌, nat_lt}
use Rattle.std.proofs.lemmas.List.Elements.{Contains-append_left, Contains-append_right}
use Rattle.std.specs.FinMap.{get}
use Rattle.bep_record.specs.declared.entry.Entry.{Entry}
use Rattle.bep_record.specs.declared.node.NodeParts.{NodeParts}
use Rattle.bep_model.specs.Tables.{Tables, Device, Folder, FileName}
use Rattle.bep_model.specs.Settled.{IsSettled}
use Rattle.bep_model.specs.Calm.{Contents, SameFile, IsCalm, Kept, contents_of}
use Rattle.bep_model.specs.Stays.{Stays, KeepsRecords, SameShares, RecordsAreNamed}
use Rattle.bep_model.specs.Laws.{SettledIsCalm, CalmStays, CalmIsSettledAgain}
use Rattle.bep_machine.specs.declared.step.Step.{Step}
use Rattle.bep_machine.specs.declared.step.Step.TheVariants.{Edit, Remove, Scan, Override, Revert, Connect, Lose, Begin, Deliver, Announce, StartPull, Ask, Finish, Restart, Reset}
use Rattle.bep_machine.specs.Answer.{Answer, Row}
use Rattle.bep_machine.specs.Replica.{Replica, own_at}
use Rattle.bep_machine.specs.Cluster.{Cluster, Config}
use Rattle.bep_machine.specs.Link.{Link, Sight}
use Rattle.bep_machine.specs.Peer.{Peer, Acted}
use Rattle.bep_machine.specs.Local.{EditRow, RemoveRow, ScanRow, OverrideRow, RevertRow}
use Rattle.bep_machine.specs.Pull.{StartPullRow, FinishRow}
use Rattle.bep_machine.specs.Exchange.{BeginRow, DeliverRow, AnnounceRow, AskRow}
use Rattle.bep_machine.specs.Steps.{ConnectRow, LoseRow, IsStep, StepRow, AtReplica, AtLink, OverLink, Event, IsRun, IsQuiet, AreQuiet, reset_made, reset_in, HasNoReset}
use Rattle.bep_machine.specs.Said.{looked_up, tables_of_cluster}
use Rattle.bep_machine.specs.Sound.{IsSound}
use Rattle.bep_machine.specs.Laws.{AreAmong, IsSoundStep, StepsKeepSound, QuietStepsKeepCalm, QuietStepsKeepRecords, SettledStaysPut, SettledStaysSettled}
use Rattle.bep_machine.proofs.CalmRows.{at_answers, at_becomes}
use Rattle.bep_machine.proofs.CalmScan.{same_file}
use Rattle.bep_machine.proofs.SaidReplicas.{said_where_shared}

-- ---- files that are kept

same_file_later : (one two three : Option NodeParts) → SameFile one two → SameFile two three → SameFile one three
same_file_later None None None first second = tt
same_file_later None None (Some c) first second = absurd second
same_file_later None (Some b) three first second = absurd first
same_file_later (Some a) None three first second = absurd first
same_file_later (Some a) (Some b) None first second = absurd second
same_file_later (Some a) (Some b) (Some c) first second = (first.0 ∙ second.0, first.1 ∙ second.1, first.2 ∙ second.2)

-- ---- what no step changes

abbrev SameConfig : Cluster → Cluster → Type 0
SameConfig old new = new.config ≡ old.config

-- whichever of two clusters is meant, its configuration is theirs
either_config : (b : Bool) (one other : Cluster) (config : Config) → one.config ≡ config → other.config ≡ config → (if b then one else other).config ≡ config
either_config true one other config e f = e
either_config false one other config e f = f

at_replica_keeps_config : (device : Device) (folder : Folder) (row : Replica → Row Replica) (old new : Cluster) (answer : Answer) → AtReplica device folder row old new answer → SameConfig old new
at_replica_keeps_config device folder row old new answer made = ap (λ (c : Cluster). c.config) made.4

at_link_keeps_config : (lower upper : Device) (row : Link → Row Link) (old new : Cluster) (answer : Answer) → AtLink lower upper row old new answer → SameConfig old new
at_link_keeps_config lower upper row old new answer made = ap (λ (c : Cluster). c.config) made.2

over_link_keeps_config : (device other : Device) (row : Sight → Peer → Row Acted) (old new : Cluster) (answer : Answer) → OverLink device other row old new answer → SameConfig old new
over_link_keeps_config device other row old new answer made =
    ap (λ (c : Cluster). c.config) made.2 ∙ either_config (nat_lt device other) _ _ old.config refl refl

row_keeps_config : (step : Step) (failed : Option ℕ) (old new : Cluster) (answer : Answer) → StepRow step failed old new answer → SameConfig old new
row_keeps_config (Edit device folder name node) failed old new answer made = at_replica_keeps_config device folder (EditRow name node failed) old new answer made
row_keeps_config (Remove device folder name) failed old new answer made = at_replica_keeps_config device folder (RemoveRow name failed) old new answer made
row_keeps_config (Scan device folder name) failed old new answer made = at_replica_keeps_config device folder (ScanRow device name failed) old new answer made
row_keeps_config (Override device folder name) failed old new answer made = at_replica_keeps_config device folder (OverrideRow device name) old new answer made
row_keeps_config (Revert device folder name) failed old new answer made = at_replica_keeps_config device folder (RevertRow device name failed) old new answer made
row_keeps_config (Connect one other) failed old new answer made = at_link_keeps_config one other ConnectRow old new answer made
row_keeps_config (Lose one other) failed old new answer made = at_link_keeps_config one other LoseRow old new answer made
row_keeps_config (Begin device other) failed old new answer made = over_link_keeps_config device other (BeginRow other) old new answer made
row_keeps_config (Deliver device other) failed old new answer made = over_link_keeps_config device other (DeliverRow other failed) old new answer made
row_keeps_config (Announce device other folder) failed old new answer made = over_link_keeps_config device other (AnnounceRow other folder) old new answer made
row_keeps_config (StartPull device folder name) failed old new answer made = at_replica_keeps_config device folder (StartPullRow device name) old new answer made
row_keeps_config (Ask device other folder name) failed old new answer made = over_link_keeps_config device other (AskRow other folder name) old new answer made
row_keeps_config (Finish device folder name) failed old new answer made = at_replica_keeps_config device folder (FinishRow device name failed) old new answer made
row_keeps_config (Restart device) failed old new answer made = ap (λ (c : Cluster). c.config) made.0
row_keeps_config (Reset device id) failed old new answer made = at_answers (SameConfig old) made refl (λ _ resets. at_becomes (SameConfig old) resets refl)

-- a user puts in what is no node only by an edit, and an edit isn't quiet
pub quiet_is_sound : (step : Step) → IsQuiet step → IsSoundStep step
quiet_is_sound (Edit device folder name node) quiet = absurd quiet
quiet_is_sound (Remove device folder name) quiet = tt
quiet_is_sound (Scan device folder name) quiet = tt
quiet_is_sound (Override device folder name) quiet = tt
quiet_is_sound (Revert device folder name) quiet = tt
quiet_is_sound (Connect one other) quiet = tt
quiet_is_sound (Lose one other) quiet = tt
quiet_is_sound (Begin device other) quiet = tt
quiet_is_sound (Deliver device other) quiet = tt
quiet_is_sound (Announce device other folder) quiet = tt
quiet_is_sound (StartPull device folder name) quiet = tt
quiet_is_sound (Ask device other folder name) quiet = tt
quiet_is_sound (Finish device folder name) quiet = tt
quiet_is_sound (Restart device) quiet = tt
quiet_is_sound (Reset device id) quiet = tt

pub step_keeps_config : (step : Step) (failed : Option ℕ) (old new : Cluster) (answer : Answer) → IsStep step failed old new answer → SameConfig old new
step_keeps_config step failed old new answer made =
    ⊎_elim
    (λ memory. ap (λ (c : Cluster). c.config) memory.1.0)
    (λ tried.
    ⊎_elim
    (λ absent. ap (λ (c : Cluster). c.config) absent.1.0)
    (λ there. row_keeps_config step failed old new answer there.1)
    tried)
    made

-- ---- runs

-- where no reset was made in a run, neither the first step nor the rest made one
both_empty : (some more : List Device) → some ++ more ≡ [] → (some ≡ []) × (more ≡ [])
both_empty [] more none = (refl, none)
both_empty (first ∷ some) more none = absurd (cc)

pub no_reset_parts : (event : Event) (more : List Event) → HasNoReset (event ∷ more) → (reset_made event.step event.answer ≡ []) × HasNoReset more
no_reset_parts event more none = both_empty (reset_made event.step event.answer) (reset_in more) none

module _ (sound : StepsKeepSound) (calm : QuietStepsKeepCalm) where
  pub record StaysCalm (contents : Contents) (reset : List Device) (old new : Cluster) : Type 0 where
    pub sound_later : IsSound new
    pub calm_later : IsCalm (tables_of_cluster new) contents reset
    pub kept : Kept (tables_of_cluster old) (tables_of_cluster new)
    pub config : SameConfig old new

  -- where each device of a reset in the run is one of these
  pub run_stays_calm : (contents : Contents) (reset : List Device) (old : Cluster) (events : List Event) (new : Cluster) → AreQuiet events → AreAmong (reset_in events) reset → IsSound old → IsCalm (tables_of_cluster old) contents reset → IsRun old events new → StaysCalm contents reset old new
  run_stays_calm contents reset old [] new quiet may is_sound is_calm same =
      subst (StaysCalm contents reset old) (sym same)
      (record { sound_later = is_sound; calm_later = is_calm; kept = λ device folder name. same_file ((tables_of_cluster old).node device folder name); config = refl })
  run_stays_calm contents reset old (event ∷ more) new quiet may is_sound is_calm run =
      let next = run.0 in
      let step_sound = sound event.step event.failed old next event.answer (quiet_is_sound event.step quiet.0) is_sound run.1 in
      let step_calm = calm contents reset event.step event.failed old next event.answer quiet.0 (λ device now. may device (Contains-append_left (reset_made event.step event.answer) (reset_in more) device now)) is_sound is_calm run.1 in
      let rest = run_stays_calm contents reset next more new quiet.1 (λ device later. may device (Contains-append_right (reset_made event.step event.answer) (reset_in more) device later)) step_sound step_calm.0 run.2 in
      record {
        sound_later = rest.sound_later;
        calm_later = rest.calm_later;
        kept = λ device folder name. same_file_later _ _ _ (step_calm.1 device folder name) (rest.kept device folder name);
        config = rest.config ∙ step_keeps_config event.step event.failed old next event.answer run.1;
      }

  same_shares : (old new : Cluster) → SameConfig old new → SameShares (tables_of_cluster old) (tables_of_cluster new)
  same_shares old new same folder = ap (λ (c : Config). c.sharing folder) (sym same)

  pub settled_stays_put_lem : SettledIsCalm → CalmStays → SettledStaysPut
  settled_stays_put_lem settled_calm stays tables rows settled cluster later events is_sound has run quiet =
      let here = subst (λ (t : Tables). IsSettled t rows) (sym has) settled in
      let end = run_stays_calm (contents_of rows) (reset_in events) cluster events later quiet (λ device is. is) is_sound (settled_calm (tables_of_cluster cluster) rows (reset_in events) here) run in
      subst (λ (t : Tables). Stays t rows (reset_in events) (tables_of_cluster later)) has
      (stays (tables_of_cluster cluster) (tables_of_cluster later) rows (reset_in events) here (same_shares cluster later end.config) end.calm_later end.kept)

  -- ---- settled again

  module _ (records : QuietStepsKeepRecords) where
    run_keeps_records : (old : Cluster) (events : List Event) (new : Cluster) → AreQuiet events → HasNoReset events → IsSound old → IsRun old events new → KeepsRecords (tables_of_cluster old) (tables_of_cluster new)
    run_keeps_records old [] new quiet unreset is_sound same device folder name some =
        subst (λ (c : Cluster). IsSome ((tables_of_cluster c).own device folder name)) (sym same) some
    run_keeps_records old (event ∷ more) new quiet unreset is_sound run device folder name some =
        let parts = no_reset_parts event more unreset in
        let step_sound = sound event.step event.failed old run.0 event.answer (quiet_is_sound event.step quiet.0) is_sound run.1 in
        run_keeps_records run.0 more new quiet.1 parts.1 step_sound run.2 device folder name (records event.step event.failed old run.0 event.answer quiet.0 parts.0 is_sound run.1 device folder name some)

    named_in : (name : FileName) (found : Option Replica) (entry : Entry) → ((replica : Replica) → found ≡ Some replica → own_at replica name ≡ Some entry → entry.name ≡ name) → looked_up own_at name found ≡ Some entry → entry.name ≡ name
    named_in name None entry named own = absurd (cc)
    named_in name (Some replica) entry named own = named replica refl own

    records_are_named : (cluster : Cluster) → IsSound cluster → RecordsAreNamed (tables_of_cluster cluster)
    records_are_named cluster is_sound device folder name entry shares own =
        let peer = is_sound.peers device (is_sound.config.sharing folder device shares) in
        named_in name (get (cluster.peer device).replicas folder) entry
        (λ replica there here. ((peer.replicas folder replica there).index.numbered name entry here).0)
        (sym (ap (looked_up own_at name) (said_where_shared cluster device folder shares)) ∙ own)

    pub settled_stays_settled_lem : SettledIsCalm → CalmIsSettledAgain → SettledStaysSettled
    settled_stays_settled_lem settled_calm again tables rows settled cluster later events is_sound has run quiet unreset =
        let here = subst (λ (t : Tables). IsSettled t rows) (sym has) settled in
        let end = run_stays_calm (contents_of rows) [] cluster events later quiet (λ device is. subst (λ (some : List Device). Contains some device) unreset is) is_sound (settled_calm (tables_of_cluster cluster) rows [] here) run in
        again (tables_of_cluster cluster) (tables_of_cluster later) rows here (same_shares cluster later end.config)
        (run_keeps_records cluster events later quiet unreset is_sound run)
        (records_are_named later end.sound_later)
        end.calm_later
