-- After the one change that a name awaits a cluster is ready.
use Rattle.std.proofs.Common.{◌≡◌, ◌⊎◌, ◌+◌, ◌≤◌, ◌∙◌, ℕ, Option, Some, None, refl, sym, ap, subst, inl, inr, ⊎_elim, arith}
use Rattle.std.specs.FinMap.{get}
use Rattle.bep_facts.specs.Decided.{both_or_not}
use Rattle.bep_record.specs.declared.entry.Entry.{Entry}
use Rattle.bep_record.specs.declared.node.NodeParts.{NodeParts}
use Rattle.bep_model.specs.Tables.{Tables, Device, Folder, FileName}
use Rattle.bep_machine.specs.declared.moved.Moved.{Moved}
use Rattle.bep_machine.specs.declared.step.Step.{Step}
use Rattle.bep_machine.specs.declared.step.Step.TheVariants.{Edit, Scan, Override, Revert}
use Rattle.bep_machine.specs.Answer.{Done}
use Rattle.bep_machine.specs.Cluster.{Cluster}
use Rattle.bep_machine.specs.Laws.{IsSoundStep, StepsKeepSound}
use Rattle.bep_machine.specs.Local.{EditRow, OverrideRow, RevertRow, RevertedRow}
use Rattle.bep_machine.specs.Peer.{with_replica}
use Rattle.bep_machine.specs.Replica.{Replica, own_at}
use Rattle.bep_machine.specs.Said.{tables_of_cluster}
use Rattle.bep_machine.specs.Sound.{IsSound}
use Rattle.bep_machine.specs.Steps.{Event, IsStep}
use Rattle.bep_converge.specs.Prevails.{Prevails, AllPrevail}
use Rattle.bep_converge.specs.Bring.{IsJoinedUp, IsReached, IsReady}
use Rattle.bep_converge.specs.Laws.{StepsKeepHashes}
use Rattle.bep_converge.specs.Received.{AllHaveHashes}
use Rattle.bep_converge.specs.Tops.{LeavesOthers}
use Rattle.bep_converge.specs.AfterLaws.{EditMakesTop, OverrideMakesTop, RevertLetsIn}
use Rattle.bep_converge.specs.Ready.{IsReadyBut, IsThisName, OthersPrevail, EditMakesReady, OverrideMakesReady, RevertMakesReady}
use Rattle.bep_converge.proofs.DoneRows.{not_refused, done_row, put_made}
use Rattle.bep_converge.proofs.PlaceMoves.{same_name}
use Rattle.bep_converge.proofs.RaisedIndexes.{step_rises}
use Rattle.bep_converge.proofs.ReplicaAlone.{changed}
use Rattle.bep_converge.proofs.Rows.{Change, at_each_folder, where_one_changes}
use Rattle.bep_converge.proofs.ScansReady.{reached_on}

-- ---- configuration, links and indexes

-- the index was there, and gave so many numbers at most
abbrev NumbersRise : ℕ → Change
NumbersRise more device folder before after = (replica : Replica) → after ≡ Some replica → (was : Replica) × (before ≡ Some was) × (replica.index.sequence ≤ was.index.sequence + more)

record OneRises (more : ℕ) (old new : Cluster) : Type 0 where
  config : new.config ≡ old.config
  epochs : (one other : Device) → (new.link one other).epoch ≤ (old.link one other).epoch
  numbers : (device : Device) (folder : Folder) → NumbersRise more device folder (get (old.peer device).replicas folder) (get (new.peer device).replicas folder)

-- one replica that changes
changed_rises : (more : ℕ) (old : Cluster) (device : Device) (folder : Folder) (before after : Replica) → get (old.peer device).replicas folder ≡ Some before → after.index.sequence ≤ before.index.sequence + more →
    OneRises more old (changed old device folder after)
changed_rises more old device folder before after here rises = record {
  config = refl;
  epochs = λ one other. omega arith;
  numbers =
      where_one_changes (NumbersRise more) (λ other any replica one is. (one, is, omega arith)) old device (with_replica (old.peer device) folder after)
      (at_each_folder (NumbersRise more device) (λ any replica one is. (one, is, omega arith)) (old.peer device).replicas folder before after here
      (λ replica same.
      let it : after ≡ replica = cc in
      let sequence = ap (λ (r : Replica). r.index.sequence) it in
      (before, refl, omega (arith, rises, sequence))));
}

-- a scan
scan_rises : (old new : Cluster) (device : Device) (folder : Folder) (name : FileName) (failed : Option ℕ) (moved : Moved) → IsSound old → IsStep (Scan device folder name) failed old new (Done moved) → OneRises 1 old new
scan_rises old new device folder name failed moved sound made =
    let rises = step_rises (Scan device folder name) failed old new (Done moved) tt sound made in
    record {
      config = rises.config;
      epochs = λ one other. let more = rises.epochs one other in omega (arith, more);
      numbers = λ other any replica here. (rises.indexes other any).numbers replica here;
    }

-- nothing that is put, and then one record
rises_through : (first second third : Cluster) → OneRises 0 first second → OneRises 1 second third → OneRises 1 first third
rises_through first second third one two = record {
  config = two.config ∙ one.config;
  epochs = λ lower upper. let a = one.epochs lower upper in let b = two.epochs lower upper in omega (arith, a, b);
  numbers = λ device folder replica here.
      let between = two.numbers device folder replica here in
      let was = one.numbers device folder between.0 between.1 in
      let a = was.2 in
      let b = between.2 in
      (was.0, was.1, omega (arith, a, b));
}

-- ---- rows

override_puts : (device : Device) (name : FileName) (before after : Replica) (moved : Moved) → OverrideRow device name before after (Done moved) → after.index.sequence ≤ before.index.sequence + 1
override_puts device name before after moved row =
    let can = not_refused (not_refused row).1 in
    let few = not_refused (not_refused can.1.2).1 in
    let put = put_made name _ before after moved few.1 in
    let same = ap (λ (r : Replica). r.index.sequence) put.put in
    omega (arith, same)

reverted_puts : (device : Device) (name : FileName) (failed : Option ℕ) (own : Option Entry) (before after : Replica) (moved : Moved) → RevertedRow device name failed own before after (Done moved) → after.index.sequence ≤ before.index.sequence + 1
reverted_puts device name failed None before after moved row = absurd row
reverted_puts device name failed (Some own) before after moved row = let same = ap (λ (r : Replica). r.index.sequence) (not_refused row).1.0 in omega (arith, same)

revert_puts : (device : Device) (name : FileName) (failed : Option ℕ) (before after : Replica) (moved : Moved) → RevertRow device name failed before after (Done moved) → after.index.sequence ≤ before.index.sequence + 1
revert_puts device name failed before after moved row =
    reverted_puts device name failed (own_at before name) before after moved (not_refused (not_refused (not_refused (not_refused (not_refused row).1).1).1).1).1

edit_puts_none : (name : FileName) (node : NodeParts) (failed : Option ℕ) (before after : Replica) (moved : Moved) → EditRow name node failed before after (Done moved) → after.index.sequence ≤ before.index.sequence + 0
edit_puts_none name node failed before after moved row = let same = ap (λ (r : Replica). r.index.sequence) (not_refused row).1.0 in omega (arith, same)

-- ---- tables

this_or_not : (folder : Folder) (name : FileName) (any : Folder) (one : FileName) → IsThisName folder name any one ⊎ (¬ IsThisName folder name any one)
this_or_not folder name any one = both_or_not (same_name any folder) (same_name one name)

all_prevail : (old new : Tables) (folder : Folder) (name : FileName) → OthersPrevail old folder name → LeavesOthers old new folder name → (top : Entry) → Prevails new folder name top → AllPrevail new
all_prevail old new folder name others rest top prevails any one known =
    ⊎_elim
    (λ same. (top, subst (λ (f : Folder). Prevails new f one top) (sym same.0) (subst (λ (n : FileName). Prevails new folder n top) (sym same.1) prevails)))
    (λ apart. let was = others any one (rest.known any one apart known) apart in (was.0, rest.prevailing any one was.0 apart was.1))
    (this_or_not folder name any one)

-- ---- ready

ready_after : (turns : ℕ) (old new : Cluster) (folder : Folder) (name : FileName) → IsReadyBut turns old folder name → OneRises 1 old new → IsSound new → AllHaveHashes new → IsReached new →
    LeavesOthers (tables_of_cluster old) (tables_of_cluster new) folder name → (top : Entry) → Prevails (tables_of_cluster new) folder name top → IsReady turns new
ready_after turns old new folder name but rises sound hashes reached rest top prevails = record {
  sound = sound;
  hashes = hashes;
  reached = reached;
  prevails = all_prevail (tables_of_cluster old) (tables_of_cluster new) folder name but.others rest top prevails;
  joined = subst IsJoinedUp (sym rises.config) but.joined;
  room = record {
    numbers = λ other any replica here.
        let was = rises.numbers other any replica here in
        let more = was.2 in
        let had = but.room.numbers other any was.0 was.1 in
        omega (arith, more, had);
    epochs = λ one other. let more = rises.epochs one other in let had = but.room.epochs one other in omega (arith, more, had);
    names = λ any records known.
        but.room.names any records
        (λ one has. ⊎_elim (λ same. inr same) (λ apart. inl (rest.known any one apart (known one has))) (this_or_not folder name any one));
  };
}

-- after one step that was done
reached_after : (step : Step) (failed : Option ℕ) (old new : Cluster) (moved : Moved) → IsSoundStep step → IsStep step failed old new (Done moved) → IsReached old → IsReached new
reached_after step failed old new moved is_sound made reached =
    let event : Event = record { step = step; failed = failed; answer = Done moved } in
    reached_on old new event is_sound reached made

module _ (keep_sound : StepsKeepSound) (keep_hashes : StepsKeepHashes) where
  pub override_makes_ready_lem : OverrideMakesTop → OverrideMakesReady
  override_makes_ready_lem makes turns device folder name failed old new moved but awaits made =
      let step = Override device folder name in
      let row = done_row step failed old new moved made in
      let top = makes device folder name failed old new moved but.sound awaits made in
      let rises = subst (OneRises 1 old) (sym row.4) (changed_rises 1 old device folder row.0 row.1 row.2 (override_puts device name row.0 row.1 moved row.3)) in
      ready_after turns old new folder name but rises (keep_sound step failed old new (Done moved) tt but.sound made) (keep_hashes step failed old new (Done moved) but.hashes made)
      (reached_after step failed old new moved tt made but.reached) top.rest top.top top.prevails

  pub revert_makes_ready_lem : RevertLetsIn → RevertMakesReady
  revert_makes_ready_lem lets turns device folder name failed old new moved top but awaits made =
      let step = Revert device folder name in
      let row = done_row step failed old new moved made in
      let let_in = lets device folder name failed old new moved top but.sound awaits made in
      let rises = subst (OneRises 1 old) (sym row.4) (changed_rises 1 old device folder row.0 row.1 row.2 (revert_puts device name failed row.0 row.1 moved row.3)) in
      ready_after turns old new folder name but rises (keep_sound step failed old new (Done moved) tt but.sound made) (keep_hashes step failed old new (Done moved) but.hashes made)
      (reached_after step failed old new moved tt made but.reached) let_in.2 top let_in.0

  pub edit_makes_ready_lem : EditMakesTop → EditMakesReady
  edit_makes_ready_lem makes turns device folder name node failed fails old edited new moved scanned is_node but records unclean awaits made looked =
      let edit = Edit device folder name node in
      let scan = Scan device folder name in
      let row = done_row edit failed old edited moved made in
      let top = makes device folder name node failed fails old edited new moved scanned is_node but.sound records unclean awaits made looked in
      let sound = keep_sound edit failed old edited (Done moved) is_node but.sound made in
      let one = subst (OneRises 0 old) (sym row.4) (changed_rises 0 old device folder row.0 row.1 row.2 (edit_puts_none name node failed row.0 row.1 moved row.3)) in
      let rises = rises_through old edited new one (scan_rises edited new device folder name fails scanned sound looked) in
      ready_after turns old new folder name but rises (keep_sound scan fails edited new (Done scanned) tt sound looked)
      (keep_hashes scan fails edited new (Done scanned) (keep_hashes edit failed old edited (Done moved) but.hashes made) looked)
      (reached_after scan fails edited new scanned tt looked (reached_after edit failed old edited moved is_node made but.reached)) top.rest top.top top.prevails
