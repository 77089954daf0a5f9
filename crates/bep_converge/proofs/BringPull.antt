-- A device that has the top of a name in a view, and isn't at it, pulls it: and then it is.
use Rattle.std.proofs.Common.{◌≡◌, ◌≢◌, ◌⊎◌, ◌∙◌, ◌-◌, ◌≤◌, ℕ, Bool, true, false, List, [], ◌∷◌, ◌++◌, map, length, Option, Some, None, refl, sym, ap, subst, subst₂, inl, inr, ⊎_elim, arith}
use Rattle.std.proofs.Math.Nat.{div-le_self}
use Rattle.std.proofs.lemmas.Cmp.{nat_list_cmp_total}
use Rattle.std.proofs.lemmas.List.{length-map}
use Rattle.std.proofs.lemmas.List.FromFn.{length-map-range_with_len}
use Rattle.std.proofs.lemmas.Map.Lookups.{exact_bytes}
use Rattle.std.proofs.lemmas.Option.{same_Some}
use Rattle.std.specs.Coded.{coded_ℕ, coded_list}
use Rattle.std.specs.Cmp.Lexicographic.{slice_cmp}
use Rattle.std.specs.Ordering.{nat_cmp}
use Rattle.std.specs.FinMap.{get, len, len-empty}
use Rattle.bep_facts.specs.Decided.{same_or_not}
use Rattle.bep_facts.specs.Maps.{get-insert_here}
use Rattle.bep_map.specs.NameMap.{ByName}
use Rattle.bep_record.specs.contracts.block.Block as block_row
use Rattle.bep_record.specs.declared.block.Block.{Block}
use Rattle.bep_record.specs.declared.entry.Entry.{Entry}
use Rattle.bep_record.specs.declared.kind.Kind.{Kind}
use Rattle.bep_record.specs.declared.kind.Kind.TheVariants as kinds
use Rattle.bep_record.specs.declared.node.NodeParts.{NodeParts}
use Rattle.bep_record.specs.Block.{block_count, block_size_of, cut_at}
use Rattle.bep_record.specs.Content.{Content, Deleted, File, Directory, Symlink, content_of}
use Rattle.bep_record.specs.Entry.{IsWellFormed, HasBody, SameEntry}
use Rattle.bep_record.specs.Laws.{MergeIsCounted}
use Rattle.bep_record.specs.Node.{IsClean}
use Rattle.bep_record.specs.Vector.{IsVersion, IsAtMost, ids_in_either}
use Rattle.bep_index.specs.declared.send.Plan.{Plan}
use Rattle.bep_index.specs.Good.{AreGood, IsGood}
use Rattle.bep_index.specs.Listing.{Listing}
use Rattle.bep_model.specs.Tables.{Device, Folder, FileName}
use Rattle.bep_model.specs.Firm.{AreEqual}
use Rattle.bep_machine.specs.declared.limits.TheConstants.{MAX_REQUEST_ID}
use Rattle.bep_machine.specs.declared.moved.Moved.TheVariants.{Changed}
use Rattle.bep_machine.specs.declared.step.Step.TheVariants.{StartPull, Finish}
use Rattle.bep_machine.specs.Answer.{Done}
use Rattle.bep_machine.specs.Effects.{HasRoom, StartPullBegins, CanFinish, HasFinished, FinishAdopts}
use Rattle.bep_machine.specs.Pull.{StartPullRow, new_pull, IsFile, IsStillWanted, IsConflictDue}
use Rattle.bep_machine.specs.Replica.{Pull, Replica, own_at, node_at, pull_at, viewed_at, version_of, HasContentOf, Wants, with_pull}
use Rattle.bep_machine.specs.Peer.{Peer, with_replica}
use Rattle.bep_machine.specs.Cluster.{Cluster, with_peer}
use Rattle.bep_machine.specs.Steps.{IsStep, IsRun}
use Rattle.bep_machine.specs.Said.{tables_of_cluster}
use Rattle.bep_machine.specs.Sound.{IsSoundReplica}
use Rattle.bep_machine.specs.LinkEffects.{RequestIsAnswered}
use Rattle.bep_converge.specs.Bring.{done, repeated, fetch, most_blocks}
use Rattle.bep_converge.specs.Watched.{IsUnfinished, LacksBlocks, FetchesTo}
use Rattle.bep_converge.specs.Prevails.{IsNoLocalChange, IsAtTop, LetsIn}
use Rattle.bep_converge.proofs.BringSteps.{steps_run_on}
use Rattle.bep_converge.proofs.BringLinks.{peer_here, peer_apart}
use Rattle.bep_converge.proofs.BringStage.{StepLaws, Stage, stage_on, step_made, sound_peer, said_of}
use Rattle.bep_converge.proofs.BringMeet.{Hears}
use Rattle.bep_converge.proofs.BringWants.{SomeChoice, IsWanted, wants_top}
use Rattle.bep_converge.proofs.BringAnswer.{file_like}
use Rattle.bep_converge.proofs.BringFetch.{Fetches, fetch_all}
use Rattle.bep_converge.proofs.MissingBlocks.{missing, none_received, all_received}

-- ---- what can be decided

same_content : (one other : Content) → (one ≡ other) ⊎ (¬ (one ≡ other))
same_content Deleted Deleted = inl refl
same_content (File blocks) (File others) = ⊎_elim (λ e. inl (ap File e)) (λ differs. inr (λ e. differs (cc))) (same_or_not (coded_list (block_row.the_row).coded) blocks others)
same_content Directory Directory = inl refl
same_content (Symlink target) (Symlink other) = ⊎_elim (λ e. inl (ap Symlink e)) (λ differs. inr (λ e. differs (cc))) (same_or_not (coded_list coded_ℕ) target other)
same_content _ _ = inr (λ e. cc)

content_or_not : (own : Option Entry) (entry : Entry) → HasContentOf own entry ⊎ (¬ HasContentOf own entry)
content_or_not None entry = inr (λ has. has)
content_or_not (Some own) entry = same_content (content_of entry) (content_of own)

file_or_not : (entry : Entry) → IsFile entry ⊎ (¬ IsFile entry)
file_or_not entry = by_parts entry.deleted refl entry.kind refl
  where
    by_parts : (gone : Bool) → entry.deleted ≡ gone → (kind : Kind) → entry.kind ≡ kind → IsFile entry ⊎ (¬ IsFile entry)
    by_parts true gone kind is = inr (λ file. let there = file.0 in cc)
    by_parts false there kinds.File is = inl (there, is)
    by_parts false there kinds.Directory is = inr (λ file. let a = file.1 in cc)
    by_parts false there kinds.Symlink is = inr (λ file. let a = file.1 in cc)

-- ---- how many blocks a file has

few_blocks : (entry : Entry) → IsWellFormed entry → IsFile entry → length entry.blocks ≤ MAX_REQUEST_ID
few_blocks entry formed file =
    let body : HasBody false kinds.File entry = subst₂ (λ (deleted : Bool) (kind : Kind). HasBody deleted kind entry) file.0 file.1 formed.body in
    let as_many : length entry.blocks ≡ block_count (block_size_of entry.size) entry.size =
    sym (length-map entry.blocks (λ (b : Block). (b.offset, b.size))) ∙ ap (λ (cuts : List (ℕ × ℕ)). length cuts) body.0.blocks
    ∙ length-map-range_with_len (λ k. cut_at (block_size_of entry.size) entry.size k) 0 (block_count (block_size_of entry.size) entry.size) in
    let small = body.0.size in
    let fewer = div-le_self (entry.size - 1) (block_size_of entry.size) in
    omega arith

-- ---- versions

-- where the own version is at most the target's, their merge has no id more than the target
few_ids : MergeIsCounted → (own target : List (ℕ × ℕ)) → IsVersion own → IsVersion target → IsAtMost own target → ids_in_either own target ≡ length target
few_ids counted own target version other within = sym (counted own target target version other other (λ id. let a = within id in omega arith))

version_is_good : (records : ByName Entry) → AreGood records → (name : FileName) → IsVersion (version_of (get records name))
version_is_good records good name = by_own (get records name) refl
  where
    by_own : (own : Option Entry) → get records name ≡ own → IsVersion (version_of own)
    by_own None is = tt
    by_own (Some own) is = (good name own is).version

-- ---- the pull

pub record HasPulled (device : Device) (folder : Folder) (name : FileName) (top : Entry) (owner : Device) (c next : Cluster) : Type 0 where
  pub blocks : ℕ
  pub few : blocks ≤ most_blocks top
  pub run : IsRun c (map done (StartPull device folder name ∷ (repeated blocks (fetch device owner folder name) ++ (Finish device folder name ∷ [])))) next
  pub at_top : IsAtTop ((tables_of_cluster next).own device folder name) top
  pub started : Cluster
  pub starts : IsStep (StartPull device folder name) None c started (Done Changed)
  pub told : FetchesTo device owner folder name next blocks started

-- a device whose pull is finished lacks no blocks
lacks_none : (c : Cluster) (device : Device) (folder : Folder) (name : FileName) (replica : Replica) (pull : Pull) → get (c.peer device).replicas folder ≡ Some replica → pull_at replica name ≡ Some pull →
    ¬ IsUnfinished replica name pull → ¬ LacksBlocks c device folder name
lacks_none c device folder name replica pull there pulled finished lacks =
    let same : lacks.0 ≡ replica = same_Some lacks.0 replica (sym lacks.2 ∙ there) in
    let same_pull : lacks.1 ≡ pull = same_Some lacks.1 pull (sym (subst (λ (r : Replica). pull_at r name ≡ Some lacks.1) same lacks.3) ∙ pulled) in
    finished (subst₂ (λ (r : Replica) (p : Pull). IsUnfinished r name p) same same_pull lacks.4)

module _ (laws : StepLaws) (some_choice : SomeChoice) (starts : StartPullBegins) (answers : RequestIsAnswered) (adopts : FinishAdopts) (counted : MergeIsCounted)
    (device owner : Device) (folder : Folder) (name : FileName) (top : Entry) (apart : device ≢ owner) where
  module _ (near_index far_index : Listing) (owned : get far_index.records name ≡ Some top) (room : HasRoom near_index name) (epoch : ℕ) (plan : Plan) (base : Replica) (index_is : base.index ≡ near_index) (has : viewed_at base owner name ≡ Some top)
      (below : ¬ IsAtTop (own_at base name) top) (target : Entry) (wanted : IsWanted device base name top target) where
    -- the own record is at most the target
    own_within : (c : Cluster) (replica : Replica) → Stage device owner folder name top c → get (c.peer device).replicas folder ≡ Some replica → IsAtMost (version_of (own_at replica name)) target.version
    own_within c replica stage there = by_own (own_at replica name) refl
      where
        by_own : (own : Option Entry) → own_at replica name ≡ own → IsAtMost (version_of own) target.version
        by_own None is = λ id. omega arith
        by_own (Some own) is =
            let says : (tables_of_cluster c).own device folder name ≡ Some own = said_of own_at c device folder replica name stage.near_shares there ∙ is in
            let local : own.invalid ≡ false = subst (λ (o : Option Entry). IsNoLocalChange o) says (stage.prevails.everywhere device stage.near_shares).not_local in
            let within : IsAtMost own.version top.version = stage.prevails.top_of.above_all own (device, stage.near_shares, inl (says, local)) in
            λ id. let a = within id in let b = wanted.version.1 id in omega arith

    no_conflict : (own : Option Entry) (entry : Entry) → IsAtMost (version_of own) entry.version → ¬ IsConflictDue own entry
    no_conflict None entry within due = due
    no_conflict (Some own) entry within due = due.2.0 within

    -- whatever else is pulled, the target is still wanted
    still : (replica : Replica) → replica ≡ record base { pulls = replica.pulls } → (entry : Entry) → entry ≡ target → IsStillWanted device replica name entry
    still replica rest entry is = (
      target,
      subst (λ (r : Replica). Wants device r name target) (sym rest) (record { chosen = wanted.wants.chosen; needed = wanted.wants.needed }),
      subst (λ (e : Entry). SameEntry target e) (sym is) refl,
    )

    finishes : (number : ℕ) (pull : Pull) (replica : Replica) (c : Cluster) → Fetches device owner folder name top far_index epoch number plan base target pull replica c →
        ¬ IsUnfinished replica name pull → (next : Cluster) × IsStep (Finish device folder name) None c next (Done Changed) × IsAtTop ((tables_of_cluster next).own device folder name) top
    finishes number pull replica c fetches received =
        let stage = fetches.stage in
        let talks = fetches.talks in
        let sound : IsSoundReplica device replica = (sound_peer c stage.sound device folder stage.near_shares).replicas folder replica talks.near_there in
        let lets : LetsIn (tables_of_cluster c) device folder name top = stage.prevails.everywhere device stage.near_shares in
        let good : IsGood pull.target = (sound.pulls name pull fetches.pulled).good in
        let within : IsAtMost (version_of (own_at replica name)) pull.target.version =
        subst (λ (e : Entry). IsAtMost (version_of (own_at replica name)) e.version) (sym fetches.target_is) (own_within c replica stage talks.near_there) in
        let same_index : replica.index ≡ near_index = ap (λ (r : Replica). r.index) fetches.rest ∙ index_is in
        let can : CanFinish device name replica pull = record {
          pulled = fetches.pulled;
          wanted = still replica fetches.rest pull.target fetches.target_is;
          received = received;
          clean = subst₂ (λ (node : Option NodeParts) (own : Option Entry). IsClean node own)
              (said_of node_at c device folder replica name stage.near_shares talks.near_there) (said_of own_at c device folder replica name stage.near_shares talks.near_there) lets.clean;
          few =
              let ids : ids_in_either (version_of (own_at replica name)) pull.target.version ≡ length pull.target.version =
              few_ids counted (version_of (own_at replica name)) pull.target.version (version_is_good replica.index.records sound.own name) good.version within in
              let few = good.few in
              omega arith;
          room = subst (λ (l : Listing). HasRoom l name) (sym same_index) room;
        } in
        let made = adopts device name replica pull sound can (no_conflict (own_at replica name) pull.target within) in
        let new : Replica = made.0 in
        let finished : HasFinished name replica pull new = made.2 in
        let next : Cluster = with_peer c device (with_replica (c.peer device) folder new) in
        let step : IsStep (Finish device folder name) None c next (Done Changed) = step_made (Finish device folder name) c next stage.near_shares (replica, new, talks.near_there, made.1, refl) in
        let there : get (next.peer device).replicas folder ≡ Some new =
        ap (λ (p : Peer). get p.replicas folder) (peer_here c device (with_replica (c.peer device) folder new)) ∙ get-insert_here nat_list_cmp_total exact_bytes (c.peer device).replicas folder new in
        let version : AreEqual pull.target.version top.version = subst (λ (e : Entry). AreEqual e.version top.version) (sym fetches.target_is) wanted.version in
        let at : AreEqual finished.entry.version top.version = (
          λ id. let a = finished.merge id in let b = within id in let d = version.0 id in omega arith,
          λ id. let a = finished.merge id in let b = within id in let d = version.1 id in omega arith,
        ) in
        (next, step, subst (λ (o : Option Entry). IsAtTop o top) (sym (said_of own_at next device folder new name stage.near_shares there ∙ finished.own)) at)

    pub record HasStarted (c next : Cluster) : Type 0 where
      pub made : IsStep (StartPull device folder name) None c next (Done Changed)
      pub replica : Replica
      pub fetches : Fetches device owner folder name top far_index epoch 1 plan base target (new_pull target) replica next

    begins : (c : Cluster) → Hears device owner folder name top near_index far_index epoch plan base c → (next : Cluster) × HasStarted c next
    begins c hears =
        let stage = hears.stage in
        let talks = hears.talks in
        let none : len base.pulls ≡ 0 = ap (λ (m : ByName Pull). len m) hears.unpulled ∙ len-empty (slice_cmp nat_cmp) Pull in
        let made = starts device name base target wanted.wants (λ full. let many = full.1 in absurd (omega arith)) in
        let later : Replica = with_pull base name (new_pull target) in
        let next : Cluster = with_peer c device (with_replica (c.peer device) folder later) in
        let row : StartPullRow device name base later (Done Changed) = subst (λ (r : Replica). StartPullRow device name base r (Done Changed)) made.3 made.1 in
        let step : IsStep (StartPull device folder name) None c next (Done Changed) = step_made (StartPull device folder name) c next stage.near_shares (base, later, talks.near_there, row, refl) in
        let near_at : next.peer device ≡ with_replica (c.peer device) folder later = peer_here c device (with_replica (c.peer device) folder later) in
        let far_at : next.peer owner ≡ c.peer owner = peer_apart c device owner (with_replica (c.peer device) folder later) (λ e. apart (sym e)) in (
          next,
          record {
            made = step;
            replica = later;
            fetches = record {
              stage = stage_on laws device owner folder name top c next (StartPull device folder name) stage (record { quiet = tt; unreset = refl; sound = tt }) step refl;
              talks = record {
                link = record { up = talks.link.up; epoch_is = talks.link.epoch_is; here_is = talks.link.here_is; there_is = talks.link.there_is };
                near = talks.near;
                near_is = ap (λ (p : Peer). get p.sessions owner) near_at ∙ talks.near_is;
                near_epoch = talks.near_epoch;
                near_named = talks.near_named;
                unasked = talks.unasked;
                numbered = talks.numbered;
                far = talks.far;
                far_is = ap (λ (p : Peer). get p.sessions device) far_at ∙ talks.far_is;
                far_epoch = talks.far_epoch;
                far_plan = talks.far_plan;
                near_there = ap (λ (p : Peer). get p.replicas folder) near_at ∙ get-insert_here nat_list_cmp_total exact_bytes (c.peer device).replicas folder later;
                far_replica = talks.far_replica;
                far_there = ap (λ (p : Peer). get p.replicas folder) far_at ∙ talks.far_there;
                far_index_is = talks.far_index_is;
              };
              pulled = get-insert_here nat_list_cmp_total exact_bytes base.pulls name (new_pull target);
              target_is = refl;
              rest = refl;
            };
          },
        )

    -- no block is fetched where none is needed
    without_blocks : (c : Cluster) → Hears device owner folder name top near_index far_index epoch plan base c → ¬ (IsFile target × (¬ HasContentOf (own_at base name) target)) →
        (next : Cluster) × HasPulled device folder name top owner c next
    without_blocks c hears none =
        let start = begins c hears in
        let finished : ¬ IsUnfinished start.1.replica name (new_pull target) =
        λ lacks. none (lacks.0, λ alike. lacks.1 (subst (λ (r : Replica). HasContentOf (own_at r name) target) (sym start.1.fetches.rest) alike)) in
        let end = finishes 1 (new_pull target) start.1.replica start.0 start.1.fetches finished in (
          end.0,
          record {
            blocks = 0;
            few = omega arith;
            run = (start.0, start.1.made, (end.0, end.1, refl));
            at_top = end.2;
            started = start.0;
            starts = start.1.made;
            told = (lacks_none start.0 device folder name start.1.replica (new_pull target) start.1.fetches.talks.near_there start.1.fetches.pulled finished, end.1);
          },
        )

    with_blocks : (c : Cluster) → Hears device owner folder name top near_index far_index epoch plan base c → IsFile target → ¬ HasContentOf (own_at base name) target →
        (next : Cluster) × HasPulled device folder name top owner c next
    with_blocks c hears file different =
        let start = begins c hears in
        let fetches = start.1.fetches in
        let sound : IsSoundReplica device start.1.replica = (sound_peer start.0 fetches.stage.sound device folder fetches.stage.near_shares).replicas folder start.1.replica fetches.talks.near_there in
        let good : IsGood target = (sound.pulls name (new_pull target) fetches.pulled).good in
        let some : length target.blocks ≤ MAX_REQUEST_ID = few_blocks target good.formed file in
        let all : missing (new_pull target).received ≡ length target.blocks = none_received target.blocks in
        let fetched = fetch_all laws answers device owner folder name top apart far_index owned epoch plan base has target file wanted.content different (length target.blocks) 1 (new_pull target) start.1.replica start.0 fetches
        (omega arith) (omega arith) in
        let finished : ¬ IsUnfinished fetched.1.replica name fetched.1.now = λ lacks. all_received fetched.1.now.received fetched.1.whole lacks.2 in
        let end = finishes fetched.1.number fetched.1.now fetched.1.replica fetched.0 fetched.1.fetches finished in
        let as_many : length top.blocks ≡ length target.blocks = ap (λ (blocks : List Block). length blocks) (file_like target top file wanted.content).blocks in (
          end.0,
          record {
            blocks = fetched.1.blocks;
            few = let fewer = fetched.1.few in omega arith;
            run = (
              start.0,
              start.1.made,
              steps_run_on start.0 fetched.0 end.0 (repeated fetched.1.blocks (fetch device owner folder name)) (Finish device folder name ∷ []) fetched.1.run (end.0, end.1, refl),
            );
            at_top = end.2;
            started = start.0;
            starts = start.1.made;
            told = fetched.1.told end.0
                (lacks_none fetched.0 device folder name fetched.1.replica fetched.1.now fetched.1.fetches.talks.near_there fetched.1.fetches.pulled finished, end.1);
          },
        )

    pulls : (c : Cluster) → Hears device owner folder name top near_index far_index epoch plan base c → (next : Cluster) × HasPulled device folder name top owner c next
    pulls c hears =
        ⊎_elim
        (λ file.
        ⊎_elim
        (λ alike. without_blocks c hears (λ lacks. lacks.1 alike))
        (λ different. with_blocks c hears file different)
        (content_or_not (own_at base name) target))
        (λ other. without_blocks c hears (λ lacks. other lacks.0))
        (file_or_not target)

  -- the device wants the top, or a record like it, and pulls that
  pub pulls_top : (near_index far_index : Listing) (epoch : ℕ) (plan : Plan) (replica : Replica) (c : Cluster) → Hears device owner folder name top near_index far_index epoch plan replica c →
      get far_index.records name ≡ Some top → HasRoom near_index name → viewed_at replica owner name ≡ Some top → ¬ IsAtTop (get near_index.records name) top →
      (next : Cluster) × HasPulled device folder name top owner c next
  pulls_top near_index far_index epoch plan replica c hears owned room has below =
      let not_top : ¬ IsAtTop (own_at replica name) top = subst (λ (l : Listing). ¬ IsAtTop (get l.records name) top) (sym hears.index_is) below in
      let wanted = wants_top some_choice device owner folder name top c hears.stage replica hears.talks.near_there has not_top in
      pulls near_index far_index owned room epoch plan replica hears.index_is has not_top wanted.0 wanted.1 c hears
