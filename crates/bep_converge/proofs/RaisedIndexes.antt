-- What each step of a run that scans or brings names leaves of indexes and links: only a scan and the end of a pull put a
-- record, under their own name, and only a link that comes up gets another epoch.
use Rattle.std.proofs.Common.{◌≡◌, ◌≢◌, ◌⊎◌, ◌+◌, ◌≤◌, ◌==◌, ◌||◌, ℕ, Bool, true, false, nat_lt, List, Option, Some, None, option_map, refl, sym, ap, subst, ◌∙◌, ⊎_elim, arith, if◌then◌else◌}
use Rattle.std.proofs.lemmas.Cmp.{nat_list_cmp_total}
use Rattle.std.proofs.lemmas.Map.Lookups.{exact_bytes}
use Rattle.std.specs.Prelude.{⊤}
use Rattle.std.specs.FinMap.{get}
use Rattle.bep_facts.specs.Maps.{get-insert_apart}
use Rattle.bep_record.specs.declared.entry.Entry.{Entry}
use Rattle.bep_record.specs.declared.node.NodeParts.{NodeParts}
use Rattle.bep_record.specs.declared.folder_kind.FolderKind.{FolderKind}
use Rattle.bep_record.specs.declared.folder_kind.FolderKind.TheVariants.{SendReceive, SendOnly, ReceiveOnly}
use Rattle.bep_index.specs.Listing.{Listing}
use Rattle.bep_index.specs.Index.{numbered}
use Rattle.bep_model.specs.Tables.{Device, Folder, FileName}
use Rattle.bep_machine.specs.declared.message.Request.{Request}
use Rattle.bep_machine.specs.declared.step.Step.{Step}
use Rattle.bep_machine.specs.declared.step.Step.TheVariants.{Edit, Remove, Scan, Override, Revert, Connect, Lose, Begin, Deliver, Announce, StartPull, Ask, Finish, Restart, Reset}
use Rattle.bep_machine.specs.Answer.{Answer, Row, becomes}
use Rattle.bep_machine.specs.Cluster.{Cluster, with_link, with_peer, link_between}
use Rattle.bep_machine.specs.Exchange.{with_block, BeginRow, DeliverRow, AnnounceRow, AskRow}
use Rattle.bep_machine.specs.Link.{Link, Sight, lost, after_deed, end_of}
use Rattle.bep_machine.specs.Peer.{Peer, Acted}
use Rattle.bep_machine.specs.Local.{ScanRow, FoundRow, PutRow}
use Rattle.bep_machine.specs.Pull.{StartPullRow, FinishRow, EndingRow, CopyingRow, SettlingRow, RoomRow, copy_name}
use Rattle.bep_machine.specs.Replica.{Replica, Pull, own_at, node_at, pull_at, with_record, with_node, without_pull}
use Rattle.bep_machine.specs.Said.{looked_up}
use Rattle.bep_machine.specs.Sound.{IsSound, IsSoundReplica}
use Rattle.bep_machine.specs.Steps.{IsThere, StepRow, IsStep, OverLink, AtReplica, AtLink, ConnectRow, RestartRow}
use Rattle.bep_machine.proofs.CalmStep.{step_or_nothing}
use Rattle.bep_converge.proofs.OverLinks.{IsReading, begin_reads, deliver_reads, announce_reads, ask_reads, link_reads, restart_reads}
use Rattle.bep_converge.proofs.PlaceMoves.{finds_named}
use Rattle.bep_converge.proofs.RaisedEpochs.{EpochsRise, epochs_stay, link_rises, over_link_epochs}
use Rattle.bep_converge.proofs.Rows.{Everywhere, where_replica_changes, where_becomes, where_answers}

-- ---- the steps of such a run

-- a step that scans, connects, restarts, talks or pulls
abbrev pub IsBringing : Step → Type 0
IsBringing (Edit device folder name node) = ⊥
IsBringing (Remove device folder name) = ⊥
IsBringing (Scan device folder name) = ⊤
IsBringing (Override device folder name) = ⊥
IsBringing (Revert device folder name) = ⊥
IsBringing (Connect one other) = ⊤
IsBringing (Lose one other) = ⊥
IsBringing (Begin device other) = ⊤
IsBringing (Deliver device other) = ⊤
IsBringing (Announce device other folder) = ⊤
IsBringing (StartPull device folder name) = ⊤
IsBringing (Ask device other folder name) = ⊤
IsBringing (Finish device folder name) = ⊤
IsBringing (Restart device) = ⊤
IsBringing (Reset device id) = ⊥

-- how often a step has a link come up, and how often it puts a record
abbrev pub opens : Step → ℕ
opens (Edit device folder name node) = 0
opens (Remove device folder name) = 0
opens (Scan device folder name) = 0
opens (Override device folder name) = 0
opens (Revert device folder name) = 0
opens (Connect one other) = 1
opens (Lose one other) = 0
opens (Begin device other) = 0
opens (Deliver device other) = 0
opens (Announce device other folder) = 0
opens (StartPull device folder name) = 0
opens (Ask device other folder name) = 0
opens (Finish device folder name) = 0
opens (Restart device) = 0
opens (Reset device id) = 0

abbrev pub puts : Step → ℕ
puts (Edit device folder name node) = 0
puts (Remove device folder name) = 0
puts (Scan device folder name) = 1
puts (Override device folder name) = 0
puts (Revert device folder name) = 0
puts (Connect one other) = 0
puts (Lose one other) = 0
puts (Begin device other) = 0
puts (Deliver device other) = 0
puts (Announce device other folder) = 0
puts (StartPull device folder name) = 0
puts (Ask device other folder name) = 0
puts (Finish device folder name) = 1
puts (Restart device) = 0
puts (Reset device id) = 0

-- the step scans this name, or ends its pull
abbrev pub EndsAt : Step → Device → Folder → FileName → Type 0
EndsAt (Edit device folder name node) other any one = ⊥
EndsAt (Remove device folder name) other any one = ⊥
EndsAt (Scan device folder name) other any one = (other ≡ device) × (any ≡ folder) × (one ≡ name)
EndsAt (Override device folder name) other any one = ⊥
EndsAt (Revert device folder name) other any one = ⊥
EndsAt (Connect one other) at any name = ⊥
EndsAt (Lose one other) at any name = ⊥
EndsAt (Begin device other) at any name = ⊥
EndsAt (Deliver device other) at any name = ⊥
EndsAt (Announce device other folder) at any name = ⊥
EndsAt (StartPull device folder name) other any one = ⊥
EndsAt (Ask device other folder name) at any one = ⊥
EndsAt (Finish device folder name) other any one = (other ≡ device) × (any ≡ folder) × (one ≡ name)
EndsAt (Restart device) other any one = ⊥
EndsAt (Reset device id) other any one = ⊥

-- ---- one replica

-- The index was there, gave so many numbers at most, and has the record that it had of each name but these.
pub record IndexRises (Free : FileName → Type 0) (more : ℕ) (before after : Option Replica) : Type 0 where
  pub numbers : (replica : Replica) → after ≡ Some replica → (was : Replica) × (before ≡ Some was) × (replica.index.sequence ≤ was.index.sequence + more)
  pub own : (name : FileName) → ¬ Free name → looked_up own_at name after ≡ looked_up own_at name before

-- the same index
abbrev SameIndex : Option Replica → Option Replica → Type 0
SameIndex before after = option_map (λ (r : Replica). r.index) after ≡ option_map (λ (r : Replica). r.index) before

same_rises : (Free : FileName → Type 0) (more : ℕ) (before after : Option Replica) → SameIndex before after → IndexRises Free more before after
same_rises Free more None None same = record { numbers = λ replica is. absurd (cc); own = λ name kept. refl }
same_rises Free more (Some was) None same = absurd (cc)
same_rises Free more None (Some now) same = absurd (cc)
same_rises Free more (Some was) (Some now) same =
    let index : now.index ≡ was.index = cc in
    record {
      numbers = λ replica is.
          let one : now ≡ replica = cc in
          let sequence : replica.index.sequence ≡ was.index.sequence = ap (λ (r : Replica). r.index.sequence) (sym one) ∙ ap (λ (i : Listing). i.sequence) index in
          (was, refl, omega arith);
      own = λ name kept. ap (λ (i : Listing). get i.records name) index;
    }

index_stays : IsReading SameIndex
index_stays = record {
  same = λ replica. refl;
  then = λ first second third one two. two ∙ one;
  view = λ replica other view. refl;
  block = λ replica request bytes right. blocks replica request bytes (pull_at replica request.name);
  unpulled = λ replica. refl;
}
  where
    blocks : (replica : Replica) (request : Request) (bytes : List ℕ) (pull : Option Pull) → SameIndex (Some replica) (Some (with_block request bytes pull replica))
    blocks replica request bytes None = refl
    blocks replica request bytes (Some pull) = refl

-- ---- a scan, and the beginning and the end of a pull

module _ (device : Device) (name : FileName) (old : Replica) where
  abbrev IndexStays : Replica → Type 0
  IndexStays new = SameIndex (Some old) (Some new)

  or_stays : {new : Replica} {given answer : Answer} {condition R : Type 0} → (condition × becomes old given new answer) ⊎ ((¬ condition) × R) → (R → IndexStays new) → IndexStays new
  or_stays row rest = where_answers IndexStays row refl (λ _. rest)

  start_pull_index : (new : Replica) (answer : Answer) → StartPullRow device name old new answer → IndexStays new
  start_pull_index new answer row =
      or_stays row (λ chosen. or_stays chosen.2 (λ needed. or_stays needed (λ full. or_stays full (λ begun. where_becomes IndexStays begun refl))))

  -- one number more at most, and no record of another name
  abbrev PutsOne : Replica → Type 0
  PutsOne new = (new.index.sequence ≤ old.index.sequence + 1) × ((other : FileName) → other ≢ name → own_at new other ≡ own_at old other)

  none_put : PutsOne old
  none_put = (omega arith, λ other apart. refl)

  or_put : {new : Replica} {given answer : Answer} {condition R : Type 0} → (condition × becomes old given new answer) ⊎ ((¬ condition) × R) → (R → PutsOne new) → PutsOne new
  or_put row rest = where_answers PutsOne row none_put (λ _. rest)

  node_index : (start : Replica) (at : FileName) (node : Option NodeParts) → (with_node start at node).index ≡ start.index
  node_index start at None = refl
  node_index start at (Some node) = refl

  -- of a replica with the old index
  one_put : (start : Replica) (at : FileName) (after : Option NodeParts) (entry : Entry) → start.index ≡ old.index → entry.name ≡ name → PutsOne (without_pull (with_record (with_node start at after) entry) name)
  one_put start at after entry same named =
      let index = node_index start at after ∙ same in
      let sequence = ap (λ (i : Listing). i.sequence) index in (
        omega arith,
        λ other apart.
            get-insert_apart nat_list_cmp_total exact_bytes (with_node start at after).index.records entry.name (numbered entry ((with_node start at after).index.sequence + 1)) other (λ is. apart (is ∙ named))
            ∙ ap (λ (i : Listing). get i.records other) index,
      )

  same_put : (start : Replica) → start.index ≡ old.index → PutsOne start
  same_put start same = let sequence = ap (λ (i : Listing). i.sequence) same in (omega arith, λ other apart. ap (λ (i : Listing). get i.records other) same)

  record_put : (entry : Entry) → entry.name ≡ name → PutsOne (with_record old entry)
  record_put entry named = (
    omega arith,
    λ other apart. get-insert_apart nat_list_cmp_total exact_bytes old.index.records entry.name (numbered entry (old.index.sequence + 1)) other (λ is. apart (is ∙ named)),
  )

  put_puts : (IsNew : Entry → Type 0) (new : Replica) (answer : Answer) → ((entry : Entry) → IsNew entry → entry.name ≡ name) → PutRow name IsNew old new answer → PutsOne new
  put_puts IsNew new answer named row = or_put row (λ counted. or_put counted (λ put. where_becomes PutsOne put.2 (record_put put.0 (named put.0 put.1))))

  found_puts : (kind : FolderKind) (new : Replica) (answer : Answer) → FoundRow kind device name old new answer → PutsOne new
  found_puts ReceiveOnly new answer row =
      put_puts _ new answer (λ entry is. ap (λ (e : Entry). e.name) is.2 ∙ finds_named ⊤ device old name (node_at old name) (own_at old name) _ is.0 is.1) row
  found_puts SendReceive new answer row =
      or_put row (λ few. or_put few (λ put. put_puts _ new answer (λ entry is. finds_named ⊤ device old name (node_at old name) (own_at old name) is.0 entry is.2) put))
  found_puts SendOnly new answer row =
      or_put row (λ few. or_put few (λ put. put_puts _ new answer (λ entry is. finds_named ⊤ device old name (node_at old name) (own_at old name) is.0 entry is.2) put))

  scan_puts : (failed : Option ℕ) (new : Replica) (answer : Answer) → ScanRow device name failed old new answer → PutsOne new
  scan_puts failed new answer row = or_put row (λ looked. or_put looked (λ found. found_puts old.kind new answer found))

  module _ (pull : Pull) (named : pull.target.name ≡ name) (failed : Option ℕ) where
    settling_puts : (call : ℕ) (own : Option Entry) (held : Option NodeParts) (start new : Replica) (answer : Answer) → start.index ≡ old.index → SettlingRow name pull call failed own held start new answer → PutsOne new
    settling_puts call own held start new answer same row =
        ⊎_elim
        (λ memory. where_becomes PutsOne memory (same_put start same))
        (λ called. where_answers PutsOne called.2 (same_put start same)
        (λ _ put. where_becomes PutsOne put.2 (one_put start name called.0 put.0 same (ap (λ (e : Entry). e.name) put.1.same ∙ named))))
        row

    room_puts : (own : Option Entry) (target : Entry) (new : Replica) (answer : Answer) (rest : Row Replica) → (rest new answer → PutsOne new) → RoomRow name own target old rest new answer → PutsOne new
    room_puts own target new answer rest put row = or_put row (λ few. or_put few (λ counted. or_put counted put))

    copying_puts : (own : Option Entry) (held : Option NodeParts) (new : Replica) (answer : Answer) → CopyingRow name pull failed own held old new answer → PutsOne new
    copying_puts own held new answer row =
        or_put row (λ fits. or_put fits (λ looked. or_put looked (λ free. or_put free (λ few. or_put few (λ counted. or_put counted (λ room.
        ⊎_elim
        (λ writes. or_put writes.1 (λ copied. settling_puts 4 own held (with_node old (copy_name own) held) new answer (node_index old (copy_name own) held) copied))
        (λ there. settling_puts 3 own held old new answer refl there.1)
        room))))))

    ending_puts : (new : Replica) (answer : Answer) → EndingRow name pull failed old new answer → PutsOne new
    ending_puts new answer row =
        or_put row (λ received. or_put received (λ looked. or_put looked (λ scanned.
        ⊎_elim
        (λ copying. copying_puts (own_at old name) (node_at old name) new answer copying.1)
        (λ alone. room_puts (own_at old name) pull.target new answer (SettlingRow name pull 2 failed (own_at old name) (node_at old name) old)
        (λ room. settling_puts 2 (own_at old name) (node_at old name) old new answer refl room) alone.1)
        scanned)))

  finish_puts : IsSoundReplica device old → (failed : Option ℕ) (new : Replica) (answer : Answer) → FinishRow device name failed old new answer → PutsOne new
  finish_puts sound failed new answer row =
      or_put row (λ pulled.
      ⊎_elim
      (λ wanted. ending_puts pulled.0 (sound.pulls name pulled.0 pulled.1).named failed new answer wanted.1)
      (λ unwanted. where_becomes PutsOne unwanted.1 none_put)
      pulled.2)

-- ---- each step

pub record StepRises (step : Step) (old new : Cluster) : Type 0 where
  pub config : new.config ≡ old.config
  pub epochs : EpochsRise (opens step) old new
  pub indexes : Everywhere (λ device folder. IndexRises (EndsAt step device folder) (puts step)) old new

unchanged : (step : Step) (old : Cluster) → StepRises step old old
unchanged step old = record {
  config = refl;
  epochs = epochs_stay (opens step) old;
  indexes = λ device folder. same_rises (EndsAt step device folder) (puts step) (get (old.peer device).replicas folder) (get (old.peer device).replicas folder) refl;
}

module _ (old new : Cluster) (answer : Answer) (failed : Option ℕ) (sound : IsSound old) where
  -- what leaves each index
  indexes_same : (step : Step) → Everywhere (λ _ _. SameIndex) old new → Everywhere (λ device folder. IndexRises (EndsAt step device folder) (puts step)) old new
  indexes_same step same device folder = same_rises (EndsAt step device folder) (puts step) (get (old.peer device).replicas folder) (get (new.peer device).replicas folder) (same device folder)

  at_replica_epochs : (more : ℕ) (device : Device) (folder : Folder) (row : Replica → Row Replica) → AtReplica device folder row old new answer → EpochsRise more old new
  at_replica_epochs more device folder row made = subst (λ (c : Cluster). EpochsRise more old c) (sym made.4) (λ one other. omega arith)

  connect_epochs : (one other : Device) → AtLink one other ConnectRow old new answer → EpochsRise 1 old new
  connect_epochs one other made =
      subst (λ (c : Cluster). EpochsRise 1 old c) (sym made.2)
      (link_rises 1 old one other made.0
      (where_answers (λ (l : Link). l.epoch ≤ (old.link one other).epoch + 1) made.1 (omega arith)
      (λ _ rest. where_answers (λ (l : Link). l.epoch ≤ (old.link one other).epoch + 1) rest (omega arith)
      (λ _ comes. where_becomes (λ (l : Link). l.epoch ≤ (old.link one other).epoch + 1) comes (omega arith)))))

  restart_epochs : (device : Device) → RestartRow device old new answer → EpochsRise 0 old new
  restart_epochs device made = where_becomes (EpochsRise 0 old) made (λ one other. by_test ((one == device) || (other == device)) (old.link one other))
    where
      by_test : (b : Bool) (link : Link) → (if b then lost link else link).epoch ≤ link.epoch + 0
      by_test true link = omega arith
      by_test false link = omega arith

  over_config : (device other : Device) (row : Sight → Peer → Row Acted) → OverLink device other row old new answer → new.config ≡ old.config
  over_config device other row made =
      subst (λ (c : Cluster). c.config ≡ old.config) (sym made.2) (by_test (nat_lt device other) (after_deed (end_of device other) made.0.deed (link_between old device other)))
    where
      by_test : (b : Bool) (link : Link) → (if b then with_link (with_peer old device made.0.peer) device other link else with_link (with_peer old device made.0.peer) other device link).config ≡ old.config
      by_test true link = refl
      by_test false link = refl

  -- a row that puts one record of the name at most
  one_rises : (device : Device) (folder : Folder) (name : FileName) (row : Replica → Row Replica) →
      ((before after : Replica) → get (old.peer device).replicas folder ≡ Some before → row before after answer → PutsOne device name before after) → AtReplica device folder row old new answer →
      Everywhere (λ other any. IndexRises (λ one. (other ≡ device) × (any ≡ folder) × (one ≡ name)) 1) old new
  one_rises device folder name row puts_one made =
      where_replica_changes (λ other any. IndexRises (λ one. (other ≡ device) × (any ≡ folder) × (one ≡ name)) 1)
      (λ other any replica. same_rises (λ one. (other ≡ device) × (any ≡ folder) × (one ≡ name)) 1 replica replica refl)
      old new device folder row answer
      (λ before after here is.
      let one = puts_one before after here is in
      record {
        numbers = λ replica same. let it : after ≡ replica = cc in let sequence = ap (λ (r : Replica). r.index.sequence) it in let more = one.0 in (before, refl, omega arith);
        own = λ at kept. one.1 at (λ same. kept (refl, refl, same));
      })
      made

  row_rises : (step : Step) → IsBringing step → IsThere old.config step → StepRow step failed old new answer → StepRises step old new
  row_rises (Edit device folder name node) brings there made = absurd brings
  row_rises (Remove device folder name) brings there made = absurd brings
  row_rises (Scan device folder name) brings there made = record {
    config = ap (λ (c : Cluster). c.config) made.4;
    epochs = at_replica_epochs 0 device folder (ScanRow device name failed) made;
    indexes = one_rises device folder name (ScanRow device name failed) (λ before after here row. scan_puts device name before failed after answer row) made;
  }
  row_rises (Override device folder name) brings there made = absurd brings
  row_rises (Revert device folder name) brings there made = absurd brings
  row_rises (Connect one other) brings there made = record {
    config = ap (λ (c : Cluster). c.config) made.2;
    epochs = connect_epochs one other made;
    indexes = indexes_same (Connect one other) (link_reads SameIndex index_stays one other ConnectRow old new answer made);
  }
  row_rises (Lose one other) brings there made = absurd brings
  row_rises (Begin device other) brings there made = record {
    config = over_config device other (BeginRow other) made;
    epochs = over_link_epochs 0 device other (BeginRow other) old new answer made;
    indexes = indexes_same (Begin device other) (begin_reads SameIndex index_stays device other old new answer made);
  }
  row_rises (Deliver device other) brings there made = record {
    config = over_config device other (DeliverRow other failed) made;
    epochs = over_link_epochs 0 device other (DeliverRow other failed) old new answer made;
    indexes = indexes_same (Deliver device other) (deliver_reads SameIndex index_stays device other failed old new answer made);
  }
  row_rises (Announce device other folder) brings there made = record {
    config = over_config device other (AnnounceRow other folder) made;
    epochs = over_link_epochs 0 device other (AnnounceRow other folder) old new answer made;
    indexes = indexes_same (Announce device other folder) (announce_reads SameIndex index_stays device other folder old new answer made);
  }
  row_rises (StartPull device folder name) brings there made = record {
    config = ap (λ (c : Cluster). c.config) made.4;
    epochs = at_replica_epochs 0 device folder (StartPullRow device name) made;
    indexes = indexes_same (StartPull device folder name)
        (where_replica_changes (λ _ _. SameIndex) (λ _ _ replica. refl) old new device folder (StartPullRow device name) answer
        (λ before after here row. start_pull_index device name before after answer row) made);
  }
  row_rises (Ask device other folder name) brings there made = record {
    config = over_config device other (AskRow other folder name) made;
    epochs = over_link_epochs 0 device other (AskRow other folder name) old new answer made;
    indexes = indexes_same (Ask device other folder name) (ask_reads SameIndex index_stays device other folder name old new answer made);
  }
  row_rises (Finish device folder name) brings there made = record {
    config = ap (λ (c : Cluster). c.config) made.4;
    epochs = at_replica_epochs 0 device folder (FinishRow device name failed) made;
    indexes = one_rises device folder name (FinishRow device name failed)
        (λ before after here row.
        finish_puts device name before ((sound.peers device (sound.config.sharing folder device there)).replicas folder before here) failed after answer row)
        made;
  }
  row_rises (Restart device) brings there made = record {
    config = ap (λ (c : Cluster). c.config) made.0;
    epochs = restart_epochs device made;
    indexes = indexes_same (Restart device) (restart_reads SameIndex index_stays device old new answer made);
  }
  row_rises (Reset device id) brings there made = absurd brings

pub step_rises : (step : Step) (failed : Option ℕ) (old new : Cluster) (answer : Answer) → IsBringing step → IsSound old → IsStep step failed old new answer → StepRises step old new
step_rises step failed old new answer brings sound made =
    step_or_nothing (StepRises step old) step failed old new answer (unchanged step old) (λ there row. row_rises old new answer failed sound step brings there row) made
