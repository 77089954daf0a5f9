-- Each quiet step of a sound cluster is one of orderly peers, and so is each quiet run.
use Rattle.std.proofs.Common.{◌≡◌, ◌≢◌, ℕ, Bool, true, false, List, [], ◌∷◌, ◌++◌, Option, Some, None, refl, sym, ap, subst, ◌∙◌, inl, inr, ⊎_elim, if◌then◌else◌}
use Rattle.std.specs.FinMap.{get}
use Rattle.bep_record.specs.declared.folder_kind.FolderKind.{FolderKind}
use Rattle.bep_record.specs.declared.folder_kind.FolderKind.TheVariants.{SendOnly}
use Rattle.bep_record.specs.Laws.{CutIsOfOneLength}
use Rattle.bep_model.specs.Tables.{Tables, Device, Folder, FileName}
use Rattle.bep_machine.specs.declared.step.Step.{Step}
use Rattle.bep_machine.specs.declared.step.Step.TheVariants.{Edit, Remove, Scan, Override, Revert, Connect, Lose, Begin, Deliver, Announce, StartPull, Ask, Finish, Restart, Reset}
use Rattle.bep_machine.specs.Answer.{Answer}
use Rattle.bep_machine.specs.Replica.{Replica, Pull, pull_at}
use Rattle.bep_machine.specs.Local.{ScanRow}
use Rattle.bep_machine.specs.Pull.{StartPullRow, FinishRow}
use Rattle.bep_machine.specs.Exchange.{with_block}
use Rattle.bep_machine.specs.Cluster.{Cluster}
use Rattle.bep_machine.specs.Steps.{SharesFolder, IsThere, StepRow, ConnectRow, LoseRow, IsQuiet, reset_made, reset_in}
use Rattle.bep_machine.specs.Said.{is_among, replica_said, tables_of_cluster}
use Rattle.bep_machine.specs.Sound.{IsSound, IsSoundReplica, FitsFolder}
use Rattle.bep_machine.specs.FreeLaws.{StepsAreFree}
use Rattle.bep_machine.specs.Laws.{IsSoundStep, StepsKeepSound}
use Rattle.bep_machine.proofs.CalmStep.{step_or_nothing, unmade_reset_stays}
use Rattle.bep_converge.specs.Prevails.{TakesChanges}
use Rattle.bep_converge.specs.Orderly.{IsOrderlyAt, IsOrderlyRun}
use Rattle.bep_converge.specs.Received.{AllHaveHashes}
use Rattle.bep_converge.specs.Laws.{StepsAreOrderly, StepsKeepHashes, RunsAreOrderly, RunsKeepPrevailing, PrevailingGoesOn}
use Rattle.bep_converge.proofs.Rows.{Change, Everywhere, where_replica_changes, nothing_changes}
use Rattle.bep_converge.proofs.OverLinks.{IsReading, begin_reads, deliver_reads, announce_reads, ask_reads, link_reads, restart_reads}
use Rattle.bep_converge.proofs.PlaceMoves.{StaysThere, MovesThere, scan_moves, start_pull_moves, finish_moves}

-- ---- what only learns of others

-- own records and files stay
abbrev SameFiles : Option Replica → Option Replica → Type 0
SameFiles old new = (name : FileName) → StaysThere old new name

same_through : (first second third : Option Replica) → SameFiles first second → SameFiles second third → SameFiles first third
same_through first second third one two name = ((two name).0 ∙ (one name).0, (two name).1 ∙ (one name).1)

files_stay : IsReading SameFiles
files_stay = record {
  same = λ replica name. (refl, refl);
  then = same_through;
  view = λ replica other view name. (refl, refl);
  block = λ replica request bytes right. blocks replica request bytes (pull_at replica request.name);
  unpulled = λ replica name. (refl, refl);
}
  where
    blocks : (replica : Replica) (request : _) (bytes : List ℕ) (pull : Option Pull) → SameFiles (Some replica) (Some (with_block request bytes pull replica))
    blocks replica request bytes None name = (refl, refl)
    blocks replica request bytes (Some pull) name = (refl, refl)

-- ---- a cluster and its tables

module _ (old : Cluster) where
  -- each name at each folder of each device moves in an orderly way
  abbrev Orderly : Change
  Orderly device folder before after = (name : FileName) → MovesThere (TakesChanges (tables_of_cluster old) device folder) device before after name

  orderly_stays : (device : Device) (folder : Folder) (replica : Option Replica) → Orderly device folder replica replica
  orderly_stays device folder replica name = inl (refl, refl)

  -- so it is of what the tables say
  said_moves : (new : Cluster) → ((folder : Folder) → new.config.sharing folder ≡ old.config.sharing folder) → Everywhere Orderly old new → (device : Device) (folder : Folder) (name : FileName) →
      IsOrderlyAt (tables_of_cluster old) (tables_of_cluster new) device folder name
  said_moves new sharing moves device folder name = at_tables said
    where
      by_test : (b : Bool) → MovesThere (TakesChanges (tables_of_cluster old) device folder) device
          (if b then get (old.peer device).replicas folder else None) (if b then get (new.peer device).replicas folder else None) name
      by_test true = moves device folder name
      by_test false = inl (refl, refl)

      said : MovesThere (TakesChanges (tables_of_cluster old) device folder) device (replica_said old device folder) (replica_said new device folder) name
      said =
          subst (λ (shares : List (Device × FolderKind)). MovesThere (TakesChanges (tables_of_cluster old) device folder) device (replica_said old device folder)
          (if is_among device shares then get (new.peer device).replicas folder else None) name) (sym (sharing folder))
          (by_test (is_among device (old.config.sharing folder)))

      at_tables : MovesThere (TakesChanges (tables_of_cluster old) device folder) device (replica_said old device folder) (replica_said new device folder) name →
          IsOrderlyAt (tables_of_cluster old) (tables_of_cluster new) device folder name
      at_tables there =
          ⊎_elim
          (λ stays. inl stays)
          (λ rest.
          ⊎_elim
          (λ takes. inr (inl (record {
            wants = record { entry = takes.wants.entry; had = takes.wants.had; valid = takes.wants.valid; news = takes.wants.news };
            fits = takes.fits;
            taken = takes.taken;
            own = takes.own;
            valid = takes.valid;
            content = takes.content;
            version = takes.version;
            file = takes.file;
          })))
          (λ more.
          ⊎_elim
          (λ records. inr (inr (inl records)))
          (λ copies. inr (inr (inr (
            record {
              name = copies.0.name;
              wants = record { entry = copies.0.wants.entry; had = copies.0.wants.had; valid = copies.0.wants.valid; news = copies.0.wants.news };
              conflict = copies.0.conflict;
            },
            copies.1,
          ))))
          more)
          rest)
          there

-- ---- each step

module _ (one_length : CutIsOfOneLength) (old new : Cluster) (answer : Answer) (failed : Option ℕ) (sound : IsSound old) (hashes : AllHaveHashes old) where
  -- files that stay move in an orderly way
  read_moves : Everywhere (λ _ _. SameFiles) old new → Everywhere (Orderly old) old new
  read_moves reads device folder name = inl (reads device folder name)

  module _ (device : Device) (folder : Folder) (shares : SharesFolder old.config device folder) (before : Replica) (here : get (old.peer device).replicas folder ≡ Some before) where
    sound_here : IsSoundReplica device before
    sound_here = (sound.peers device (sound.config.sharing folder device shares)).replicas folder before here

    receives : before.kind ≢ SendOnly → TakesChanges (tables_of_cluster old) device folder
    receives takes =
        let fits : FitsFolder old.config device folder before = (sound.peers device (sound.config.sharing folder device shares)).fit folder before here in
        (before.kind, fits.kind, takes)

  row_moves : (step : Step) → IsQuiet step → reset_made step answer ≡ [] → IsThere old.config step → StepRow step failed old new answer → Everywhere (Orderly old) old new
  row_moves (Edit device folder name node) quiet unreset there made = absurd quiet
  row_moves (Remove device folder name) quiet unreset there made = absurd quiet
  row_moves (Scan device folder name) quiet unreset there made =
      where_replica_changes (Orderly old) (orderly_stays old) old new device folder (ScanRow device name failed) answer
      (λ before after here row. scan_moves (TakesChanges (tables_of_cluster old) device folder) device before name failed after answer row) made
  row_moves (Override device folder name) quiet unreset there made = absurd quiet
  row_moves (Revert device folder name) quiet unreset there made = absurd quiet
  row_moves (Connect one other) quiet unreset there made = read_moves (link_reads SameFiles files_stay one other ConnectRow old new answer made)
  row_moves (Lose one other) quiet unreset there made = read_moves (link_reads SameFiles files_stay one other LoseRow old new answer made)
  row_moves (Begin device other) quiet unreset there made = read_moves (begin_reads SameFiles files_stay device other old new answer made)
  row_moves (Deliver device other) quiet unreset there made = read_moves (deliver_reads SameFiles files_stay device other failed old new answer made)
  row_moves (Announce device other folder) quiet unreset there made = read_moves (announce_reads SameFiles files_stay device other folder old new answer made)
  row_moves (StartPull device folder name) quiet unreset there made =
      where_replica_changes (Orderly old) (orderly_stays old) old new device folder (StartPullRow device name) answer
      (λ before after here row. start_pull_moves (TakesChanges (tables_of_cluster old) device folder) device before name after answer row) made
  row_moves (Ask device other folder name) quiet unreset there made = read_moves (ask_reads SameFiles files_stay device other folder name old new answer made)
  row_moves (Finish device folder name) quiet unreset there made =
      where_replica_changes (Orderly old) (orderly_stays old) old new device folder (FinishRow device name failed) answer
      (λ before after here row.
      finish_moves (TakesChanges (tables_of_cluster old) device folder) device before one_length (sound_here device folder there before here) (hashes device folder before here)
      (receives device folder there before here) name failed after answer row) made
  row_moves (Restart device) quiet unreset there made = read_moves (restart_reads SameFiles files_stay device old new answer made)
  row_moves (Reset device id) quiet unreset there made =
      subst (λ (one : Cluster). Everywhere (Orderly old) old one) (sym (unmade_reset_stays device id old new answer unreset made)) (nothing_changes (Orderly old) (orderly_stays old) old)

pub steps_are_orderly_lem : StepsAreFree → CutIsOfOneLength → StepsAreOrderly
steps_are_orderly_lem free one_length step failed old new answer quiet unreset sound hashes made =
    let leave = free step failed old new answer quiet unreset sound made in
    let moves = step_or_nothing (λ one. Everywhere (Orderly old) old one) step failed old new answer
    (nothing_changes (Orderly old) (orderly_stays old) old)
    (λ there row. row_moves one_length old new answer failed sound hashes step quiet unreset there row)
    made in
    record { free = leave; orderly = λ device folder name shares. said_moves old new leave.sharing moves device folder name }

-- ---- runs

-- no user makes a quiet step, so it puts nothing that isn't a node
quiet_is_sound : (step : Step) → IsQuiet step → IsSoundStep step
quiet_is_sound (Edit device folder name node) quiet = absurd quiet
quiet_is_sound (Remove device folder name) quiet = tt
quiet_is_sound (Scan device folder name) quiet = tt
quiet_is_sound (Override device folder name) quiet = tt
quiet_is_sound (Revert device folder name) quiet = tt
quiet_is_sound (Connect one other) quiet = tt
quiet_is_sound (Lose one other) quiet = tt
quiet_is_sound (Begin device other) quiet = tt
quiet_is_sound (Deliver device other) quiet = tt
quiet_is_sound (Announce device other folder) quiet = tt
quiet_is_sound (StartPull device folder name) quiet = tt
quiet_is_sound (Ask device other folder name) quiet = tt
quiet_is_sound (Finish device folder name) quiet = tt
quiet_is_sound (Restart device) quiet = tt
quiet_is_sound (Reset device id) quiet = tt

-- where two lists make an empty one, both are empty
both_empty : (some more : List Device) → some ++ more ≡ [] → (some ≡ []) × (more ≡ [])
both_empty [] more none = (refl, none)
both_empty (first ∷ some) more none = absurd (cc)

pub runs_are_orderly_lem : StepsKeepSound → StepsAreOrderly → StepsKeepHashes → RunsAreOrderly
runs_are_orderly_lem keep_sound orderly keep_hashes cluster later [] sound hashes run quiet unreset = ([], ap tables_of_cluster run)
runs_are_orderly_lem keep_sound orderly keep_hashes cluster later (event ∷ more) sound hashes run quiet unreset =
    let parts = both_empty (reset_made event.step event.answer) (reset_in more) unreset in
    let next = run.0 in
    let sound_next = keep_sound event.step event.failed cluster next event.answer (quiet_is_sound event.step quiet.0) sound run.1 in
    let hashes_next = keep_hashes event.step event.failed cluster next event.answer hashes run.1 in
    let rest = runs_are_orderly_lem keep_sound orderly keep_hashes next later more sound_next hashes_next run.2 quiet.1 parts.1 in
    (tables_of_cluster next ∷ rest.0, (orderly event.step event.failed cluster next event.answer quiet.0 parts.0 sound hashes run.1, rest.1))

pub prevailing_goes_on_lem : RunsAreOrderly → RunsKeepPrevailing → PrevailingGoesOn
prevailing_goes_on_lem orderly keeps tables all cluster later events sound hashes says run quiet unreset =
    let between = orderly cluster later events sound hashes run quiet unreset in
    keeps tables (tables_of_cluster later) between.0 all (subst (λ (t : Tables). IsOrderlyRun t between.0 (tables_of_cluster later)) says between.1)
