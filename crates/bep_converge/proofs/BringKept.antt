-- After a run that brings a name to a device the cluster is ready for more, and all else is as it was.
use Rattle.std.proofs.Common.{◌≡◌, ◌⊎◌, ◌+◌, ℕ, Bool, true, false, List, [], ◌∷◌, ◌++◌, map, Option, Some, None, refl, sym, subst, ◌∙◌, ⊎_elim, arith, if◌then◌else◌}
use Rattle.std.specs.FinMap.{get}
use Rattle.bep_record.specs.declared.entry.Entry.{Entry}
use Rattle.bep_model.specs.Tables.{Device, Folder, FileName}
use Rattle.bep_machine.specs.declared.moved.Moved.TheVariants.{Changed}
use Rattle.bep_machine.specs.declared.step.Step.{Step}
use Rattle.bep_machine.specs.Answer.{Done}
use Rattle.bep_machine.specs.Cluster.{Config, Cluster}
use Rattle.bep_machine.specs.Laws.{StepsKeepSound}
use Rattle.bep_machine.specs.Replica.{own_at}
use Rattle.bep_machine.specs.Said.{is_among, looked_up, replica_said, tables_of_cluster}
use Rattle.bep_machine.specs.Steps.{IsRun}
use Rattle.bep_converge.specs.Received.{AllHaveHashes}
use Rattle.bep_converge.specs.Orderly.{StaysAt}
use Rattle.bep_converge.specs.Rises.{Supersedes, RisesAt, GoesOnPrevailing}
use Rattle.bep_converge.specs.Laws.{StepsKeepHashes, PrevailingGoesOn}
use Rattle.bep_converge.specs.Bring.{done, bring_steps, IsReached, HasRoomFor, IsReady, IsJoinedUp}
use Rattle.bep_converge.specs.Arrival.{IsKept, BringKeeps}
use Rattle.bep_converge.proofs.BringSteps.{are_quiet, are_sound, have_no_reset, runs_on, sound_on}
use Rattle.bep_converge.proofs.RaisedRuns.{BringsAt, bring_at, all_calm, RunRises, run_rises}

-- ---- what a run keeps

hashes_kept : StepsKeepHashes → (steps : List Step) (old new : Cluster) → AllHaveHashes old → IsRun old (map done steps) new → AllHaveHashes new
hashes_kept keep [] old new hashes run = subst AllHaveHashes (sym run) hashes
hashes_kept keep (step ∷ more) old new hashes run = hashes_kept keep more run.0 new (keep step None old run.0 (Done Changed) hashes run.1) run.2

-- ---- a record that stays, and a name that rises at most

own_said : (old new : Cluster) → new.config ≡ old.config → (device : Device) (folder : Folder) (name : FileName) →
    looked_up own_at name (get (new.peer device).replicas folder) ≡ looked_up own_at name (get (old.peer device).replicas folder) →
    (tables_of_cluster new).own device folder name ≡ (tables_of_cluster old).own device folder name
own_said old new config device folder name same =
    subst (λ (c : Config). looked_up own_at name (if is_among device (c.sharing folder) then get (new.peer device).replicas folder else None) ≡ looked_up own_at name (replica_said old device folder)) (sym config)
    (by_test (is_among device (old.config.sharing folder)))
  where
    by_test : (b : Bool) → looked_up own_at name (if b then get (new.peer device).replicas folder else None) ≡ looked_up own_at name (if b then get (old.peer device).replicas folder else None)
    by_test true = same
    by_test false = refl

-- where the record is the same, the name didn't rise
stays_where_own : (old new : Cluster) (device : Device) (folder : Folder) (name : FileName) → (tables_of_cluster new).own device folder name ≡ (tables_of_cluster old).own device folder name →
    StaysAt (tables_of_cluster old) (tables_of_cluster new) device folder name ⊎ RisesAt (tables_of_cluster old) (tables_of_cluster new) device folder name →
    StaysAt (tables_of_cluster old) (tables_of_cluster new) device folder name
stays_where_own old new device folder name same change =
    ⊎_elim
    (λ stays. stays)
    (λ rises.
    let above : Supersedes (Some rises.own) rises.entry = subst (λ (o : Option Entry). Supersedes o rises.entry) (sym same ∙ rises.recorded) rises.above in
    absurd (above.1 rises.version.1))
    change

-- ---- the whole

module _ (keep_sound : StepsKeepSound) (keep_hashes : StepsKeepHashes) (goes_on : PrevailingGoesOn) (turns : ℕ) (cluster later : Cluster) (device owner : Device) (folder : Folder) (name : FileName) (batches blocks : ℕ)
    (ready : IsReady (turns + 1) cluster) (run : IsRun cluster (map done (bring_steps device owner folder name batches blocks)) later) where
  abbrev steps : List Step
  steps = bring_steps device owner folder name batches blocks

  brings : BringsAt device folder name 1 1 steps
  brings = bring_at device owner folder name batches blocks

  rises : RunRises steps cluster later
  rises = run_rises keep_sound steps cluster later brings.all ready.sound run

  goes : GoesOnPrevailing (tables_of_cluster cluster) (tables_of_cluster later)
  goes = goes_on (tables_of_cluster cluster) ready.prevails cluster later (map done steps) ready.sound ready.hashes refl run (are_quiet steps (all_calm steps brings.all)) (have_no_reset steps (all_calm steps brings.all))

  reached : IsReached later
  reached = record {
    first = ready.reached.first;
    events = ready.reached.events ++ map done steps;
    sound = ready.reached.sound;
    apart = ready.reached.apart;
    made = sound_on ready.reached.events (map done steps) ready.reached.made (are_sound steps (all_calm steps brings.all));
    run = runs_on ready.reached.first cluster later ready.reached.events (map done steps) ready.reached.run run;
  }

  room : HasRoomFor turns later
  room = record {
    numbers = λ other any replica here.
        let was = rises.numbers other any replica here in
        let more = was.2 in
        let few = brings.put_few in
        let had = ready.room.numbers other any was.0 was.1 in
        omega arith;
    epochs = λ one other.
        let more = rises.epochs one other in
        let few = brings.open_few in
        let had = ready.room.epochs one other in
        omega arith;
    names = λ any records known. ready.room.names any records (λ one has. goes.names any one (known one has));
  }

  still_ready : IsReady turns later
  still_ready = record {
    sound = rises.sound;
    hashes = hashes_kept keep_hashes steps cluster later ready.hashes run;
    reached = reached;
    prevails = goes.all;
    joined = subst IsJoinedUp (sym rises.config) ready.joined;
    room = room;
  }

  bring_kept : IsKept turns cluster later device folder name
  bring_kept = record {
    ready = still_ready;
    goes = goes;
    others = λ other any one apart shares.
        stays_where_own cluster later other any one
        (own_said cluster later rises.config other any one (rises.own other any one (λ ends. apart (brings.ends other any one ends))))
        (goes.rise other any one shares);
  }

pub bring_keeps_lem : StepsKeepSound → StepsKeepHashes → PrevailingGoesOn → BringKeeps
bring_keeps_lem keep_sound keep_hashes goes_on turns cluster later device owner folder name batches blocks ready run =
    bring_kept keep_sound keep_hashes goes_on turns cluster later device owner folder name batches blocks ready run
