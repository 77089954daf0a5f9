-- The run that brings what prevails of a name to a device: all its steps are done, and then the device is at the top.
use Rattle.std.proofs.Common.{◌≡◌, ◌≢◌, ◌∙◌, ◌+◌, ◌*◌, ◌/◌, ◌≤◌, ℕ, Bool, true, false, cond, nat_lt, [], ◌∷◌, map, Option, Some, IsSome, is_some, sym, ap, subst, inl, inr, ⊎_elim, arith}
use Rattle.std.proofs.lemmas.Cmp.{nat_list_cmp_total}
use Rattle.std.proofs.lemmas.Map.Lookups.{exact_bytes}
use Rattle.std.specs.FinMap.{get, insert, len, len-insert}
use Rattle.bep_facts.specs.Maps.{get-insert_apart}
use Rattle.bep_record.specs.declared.entry.Entry.{Entry}
use Rattle.bep_record.specs.Laws.{MergeIsCounted}
use Rattle.bep_index.specs.declared.limits.TheConstants.{MAX_NAMES, MAX_RECORDS}
use Rattle.bep_index.specs.Laws.{FoundIsOfBatchOrBefore}
use Rattle.bep_model.specs.Tables.{Device, Folder, FileName}
use Rattle.bep_model.specs.Foreign.{IsKnown}
use Rattle.bep_machine.specs.declared.limits.TheConstants.{MAX_EPOCH}
use Rattle.bep_machine.specs.declared.step.Step.TheVariants.{Begin, Deliver, Restart}
use Rattle.bep_machine.specs.Effects.{HasRoom, StartPullBegins, FinishAdopts}
use Rattle.bep_machine.specs.LinkEffects.{BeginOpens, ConfigIsTaken, WholeIsAnnounced, FurtherIsAnnounced, RequestIsAnswered}
use Rattle.bep_machine.specs.Replica.{Replica, own_at}
use Rattle.bep_machine.specs.Cluster.{Cluster, link_between}
use Rattle.bep_machine.specs.Steps.{SharesFolder, IsRun}
use Rattle.bep_machine.specs.Said.{tables_of_cluster}
use Rattle.bep_converge.specs.Prevails.{IsAtTop, Prevails}
use Rattle.bep_converge.specs.Bring.{done, repeated, connect, meet, hear, most_batches, HasRoomFor, IsReady}
use Rattle.bep_converge.specs.BringLaws.{BringBrings}
use Rattle.bep_converge.specs.Watched.{BringIsWatched}
use Rattle.bep_converge.proofs.VersionFacts.{equal_itself}
use Rattle.bep_converge.proofs.StepKept.{known_of}
use Rattle.bep_converge.proofs.PlaceMoves.{same_name}
use Rattle.bep_converge.proofs.BringSteps.{steps_run_on}
use Rattle.bep_converge.proofs.BringLinks.{link_by}
use Rattle.bep_converge.proofs.BringStage.{StepLaws, Stage, has_replica, said_of}
use Rattle.bep_converge.proofs.BringRestart.{fresh}
use Rattle.bep_converge.proofs.BringMeet.{meets}
use Rattle.bep_converge.proofs.BringHear.{hear_all}
use Rattle.bep_converge.proofs.BringWants.{SomeChoice}
use Rattle.bep_converge.proofs.BringPull.{pulls_top}

-- ---- room

-- one epoch more is left for the link
epoch_left : (turns : ℕ) (c : Cluster) (device owner : Device) → HasRoomFor (turns + 1) c → (link_between c device owner).epoch + 1 ≤ MAX_EPOCH
epoch_left turns c device owner room = by_test (nat_lt device owner)
  where
    by_test : (b : Bool) → (link_by b c device owner).epoch + 1 ≤ MAX_EPOCH
    by_test true = let few = room.epochs device owner in omega arith
    by_test false = let few = room.epochs owner device in omega arith

module _ (turns : ℕ) (c : Cluster) (device : Device) (folder : Folder) (name : FileName) (top : Entry) (ready : IsReady (turns + 1) c) (prevails : Prevails (tables_of_cluster c) folder name top) (shares : SharesFolder c.config device folder)
    (replica : Replica) (there : get (c.peer device).replicas folder ≡ Some replica) where
  -- each name that the device has, or is to have, is known
  known : (one : FileName) → IsSome (get (insert replica.index.records name top) one) → IsKnown (tables_of_cluster c) folder one
  known one has =
      ⊎_elim
      (λ same. subst (IsKnown (tables_of_cluster c) folder) (sym same)
      (known_of (tables_of_cluster c) folder name top (prevails.top_of.owner, prevails.top_of.shares, inl prevails.top_of.owned)))
      (λ apart. (
        device,
        shares,
        inr (inl (subst (λ (o : Option Entry). IsSome o)
            (sym (said_of own_at c device folder replica one shares there ∙ sym (get-insert_apart nat_list_cmp_total exact_bytes replica.index.records name top one apart))) has)),
      ))
      (same_name one name)

  room_left : HasRoom replica.index name
  room_left = record {
    numbers = λ full. let few = ready.room.numbers device folder replica there in omega arith;
    names = λ full.
        let few : len (insert replica.index.records name top) ≤ MAX_NAMES = ready.room.names folder (insert replica.index.records name top) known in
        let more : len (insert replica.index.records name top) ≡ len replica.index.records + 1 =
        len-insert nat_list_cmp_total replica.index.records name top ∙ ap (λ (o : Option Entry). cond (is_some o) (len replica.index.records) (len replica.index.records + 1)) full.1 in
        let all = full.0 in
        omega arith;
  }

-- ---- the whole

enough : (n above : ℕ) → n ≤ above + (n / MAX_RECORDS + 1) * MAX_RECORDS
enough n above = omega arith

module _ (laws : StepLaws) (opens : BeginOpens) (takes : ConfigIsTaken) (whole : WholeIsAnnounced) (further : FurtherIsAnnounced) (found : FoundIsOfBatchOrBefore) (some_choice : SomeChoice) (starts : StartPullBegins)
    (answers : RequestIsAnswered) (adopts : FinishAdopts) (counted : MergeIsCounted) where
  pub bring_is_watched_lem : BringIsWatched
  bring_is_watched_lem turns c device owner folder name top ready behind =
      let prevails : Prevails (tables_of_cluster c) folder name top = behind.prevails in
      let shares : SharesFolder c.config device folder = behind.device_shares in
      let apart : device ≢ owner = λ same. behind.below (subst (λ (o : Option Entry). IsAtTop o top) (sym (ap (λ (d : Device). (tables_of_cluster c).own d folder name) same ∙ behind.owned.0)) (equal_itself top.version)) in
      let stage : Stage device owner folder name top c = record {
        sound = ready.sound;
        hashes = ready.hashes;
        reached = ready.reached;
        all = ready.prevails;
        joined = ready.joined;
        prevails = record prevails { top_of = record { owner = owner; shares = behind.owner_shares; owned = behind.owned; above_all = prevails.top_of.above_all } };
        near_shares = shares;
        far_shares = behind.owner_shares;
      } in
      let near = has_replica c ready.sound device folder shares in
      let far = has_replica c ready.sound owner folder behind.owner_shares in
      let owned : get far.0.index.records name ≡ Some top = sym (said_of own_at c owner folder far.0 name behind.owner_shares far.1) ∙ behind.owned.0 in
      let not_top : ¬ IsAtTop (get near.0.index.records name) top = subst (λ (o : Option Entry). ¬ IsAtTop o top) (said_of own_at c device folder near.0 name shares near.1) behind.below in
      let room : HasRoom near.0.index name = room_left turns c device folder name top ready prevails shares near.0 near.1 in
      let up = fresh laws device owner folder name top apart c stage (epoch_left turns c device owner ready.room) in
      let met = meets laws opens takes device owner folder name top apart c up.0 up.1 up.2 near.0 far.0 near.1 far.1 in
      let heard = hear_all laws whole further found device owner folder name top apart (most_batches top) near.0.index far.0.index met.3.epoch met.3.plan met.3.replica met.1 met.3.hears owned (enough top.sequence _) in
      let pulled = pulls_top laws some_choice starts answers adopts counted device owner folder name top apart near.0.index far.0.index met.3.epoch heard.1.plan heard.1.replica heard.0 heard.1.hears owned room heard.1.has not_top in
      let begun : IsRun c (map done (Restart device ∷ Restart owner ∷ connect device owner ∷ Begin device owner ∷ Begin owner device ∷ [])) met.0 =
      steps_run_on c up.0 met.0 (Restart device ∷ Restart owner ∷ connect device owner ∷ []) (Begin device owner ∷ Begin owner device ∷ []) up.2.run met.2.run in
      let first : IsRun c (map done (meet device owner)) met.1 =
      steps_run_on c met.0 met.1 (Restart device ∷ Restart owner ∷ connect device owner ∷ Begin device owner ∷ Begin owner device ∷ []) (Deliver device owner ∷ Deliver owner device ∷ []) begun met.3.run in
      record {
        batches = heard.1.batches;
        blocks = pulled.1.blocks;
        later = pulled.0;
        run = steps_run_on c met.1 pulled.0 (meet device owner) _ first
            (steps_run_on met.1 heard.0 pulled.0 (repeated heard.1.batches (hear device owner folder)) _ heard.1.run pulled.1.run);
        few_batches = heard.1.few;
        few_blocks = pulled.1.few;
        at_top = pulled.1.at_top;
        met = met.1;
        meets = first;
        hears = heard.1.told pulled.0 pulled.1.blocks pulled.1.started pulled.1.starts pulled.1.told;
      }

-- what is brought from the owner is brought
pub bring_brings_lem : BringIsWatched → BringBrings
bring_brings_lem watched turns cluster device folder name top ready prevails shares below =
    let owner : Device = prevails.top_of.owner in
    let brought = watched turns cluster device owner folder name top ready (record { prevails = prevails; device_shares = shares; owner_shares = prevails.top_of.shares; owned = prevails.top_of.owned; below = below }) in
    record {
      owner = owner;
      batches = brought.batches;
      blocks = brought.blocks;
      later = brought.later;
      run = brought.run;
      few_batches = brought.few_batches;
      few_blocks = brought.few_blocks;
      at_top = brought.at_top;
    }
