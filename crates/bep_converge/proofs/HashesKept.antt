-- The blocks that pulls received have their hashes after every step: a pull begins without any, and each one that comes is tested.
use Rattle.std.proofs.Common.{◌≡◌, ◌⊎◌, ◌∙◌, ◌&&◌, ◌==◌, ℕ, Bool, true, false, List, [], ◌∷◌, map, Option, Some, None, option_map, refl, sym, ap, subst, ⊎_elim, if◌then◌else◌}
use Rattle.std.proofs.lemmas.Cmp.{nat_list_cmp_total}
use Rattle.std.proofs.lemmas.Map.Lookups.{exact_bytes}
use Rattle.std.specs.Ordering.{nat_cmp}
use Rattle.std.specs.Cmp.Lexicographic.{slice_cmp}
use Rattle.std.specs.FinMap.{empty, get, insert, remove}
use Rattle.bep_facts.specs.Maps.{nothing_in_empty, same_key, found_after_insert, get-remove_here, get-remove_apart}
use Rattle.bep_map.specs.NameMap.{ByName}
use Rattle.bep_record.specs.declared.block.Block.{Block}
use Rattle.bep_record.specs.declared.entry.Entry.{Entry}
use Rattle.bep_record.specs.declared.node.NodeParts.{NodeParts}
use Rattle.bep_record.specs.declared.folder_kind.FolderKind.{FolderKind}
use Rattle.bep_record.specs.declared.folder_kind.FolderKind.TheVariants.{SendReceive, SendOnly, ReceiveOnly}
use Rattle.bep_blocks.specs.Plain.{hash_of}
use Rattle.bep_model.specs.Tables.{Device, Folder, FileName}
use Rattle.bep_machine.specs.declared.message.Request.{Request}
use Rattle.bep_machine.specs.declared.step.Step.{Step}
use Rattle.bep_machine.specs.declared.step.Step.TheVariants.{Edit, Remove, Scan, Override, Revert, Connect, Lose, Begin, Deliver, Announce, StartPull, Ask, Finish, Restart, Reset}
use Rattle.bep_machine.specs.Answer.{Answer, Row, becomes}
use Rattle.bep_machine.specs.Replica.{Pull, Replica, own_at, node_at, pull_at, with_node}
use Rattle.bep_machine.specs.Local.{EditRow, RemoveRow, ScanRow, FoundRow, PutRow, OverrideRow, RevertRow, RevertedRow}
use Rattle.bep_machine.specs.Pull.{StartPullRow, FinishRow, EndingRow, CopyingRow, SettlingRow, RoomRow, new_pull, copy_name}
use Rattle.bep_machine.specs.Exchange.{is_about, received_at, same_bytes, with_block}
use Rattle.bep_machine.specs.Cluster.{Cluster}
use Rattle.bep_machine.specs.Steps.{AtReplica, StepRow, ConnectRow, LoseRow, anew_under, reset_to}
use Rattle.bep_machine.proofs.CalmStep.{step_or_nothing}
use Rattle.bep_converge.specs.Received.{HaveHashes}
use Rattle.bep_converge.specs.Laws.{StepsKeepHashes}
use Rattle.bep_converge.proofs.Rows.{Everywhere, where_becomes, where_answers, where_one_changes, where_replica_changes, nothing_changes}
use Rattle.bep_converge.proofs.PlaceMoves.{same_name}
use Rattle.bep_converge.proofs.OverLinks.{IsReading, begin_reads, deliver_reads, announce_reads, ask_reads, link_reads, restart_reads, get-each}

-- ---- pulls of a replica

-- these pulls have blocks with their hashes
abbrev pub HaveTheirs : ByName Pull → Type 0
HaveTheirs pulls = (name : FileName) (pull : Pull) → get pulls name ≡ Some pull → HaveHashes pull.target.blocks pull.received

-- where one replica's pulls have, those of the other have
abbrev Keeps : Option Replica → Option Replica → Type 0
Keeps before after = ((replica : Replica) → before ≡ Some replica → HaveTheirs replica.pulls) → (replica : Replica) → after ≡ Some replica → HaveTheirs replica.pulls

keeps_some : (old new : Replica) → (HaveTheirs old.pulls → HaveTheirs new.pulls) → Keeps (Some old) (Some new)
keeps_some old new keeps had replica is = let same : new ≡ replica = cc in subst (λ (r : Replica). HaveTheirs r.pulls) same (keeps (had old refl))

keeps_same : (replica : Option Replica) → Keeps replica replica
keeps_same replica had = had

pub none_pulled : HaveTheirs empty
none_pulled name pull found = nothing_in_empty (slice_cmp nat_cmp) name pull found

pub one_more : (pulls : ByName Pull) (name : FileName) (pull : Pull) → HaveHashes pull.target.blocks pull.received → HaveTheirs pulls → HaveTheirs (insert pulls name pull)
one_more pulls name pull has had other found is =
    ⊎_elim
    (λ here. subst (λ (p : Pull). HaveHashes p.target.blocks p.received) (sym here.1) has)
    (λ there. had other found there.1)
    (found_after_insert nat_list_cmp_total exact_bytes pulls name pull other found is)

one_less : (pulls : ByName Pull) (name : FileName) → HaveTheirs pulls → HaveTheirs (remove pulls name)
one_less pulls name had other found is =
    ⊎_elim
    (λ same.
    let none : get (remove pulls name) other ≡ None = ap (get (remove pulls name)) same ∙ get-remove_here nat_list_cmp_total exact_bytes pulls name in
    absurd (cc))
    (λ apart. had other found (sym (get-remove_apart nat_list_cmp_total exact_bytes pulls name other apart) ∙ is))
    (same_name other name)

pub nothing_received : (blocks : List Block) → HaveHashes blocks (map (λ (block : Block). None) blocks)
nothing_received [] = tt
nothing_received (block ∷ blocks) = nothing_received blocks

-- ---- a block comes

second_true : (b c : Bool) → (b && c) ≡ true → c ≡ true
second_true true c is = is
second_true false c is = absurd (cc)

same_hash : (request : Request) (block : Block) → is_about request block ≡ true → request.hash ≡ block.hash
same_hash request block about =
    same_key exact_bytes request.hash block.hash
    (second_true (request.size == block.size) (same_bytes request.hash block.hash)
    (second_true (request.offset == block.offset) _ about))

block_comes : (request : Request) (bytes : List ℕ) → hash_of bytes ≡ request.hash → (blocks : List Block) (received : List (Option (List ℕ))) → HaveHashes blocks received → HaveHashes blocks (received_at request bytes blocks received)
block_comes request bytes right [] [] has = has
block_comes request bytes right [] (one ∷ received) has = has
block_comes request bytes right (block ∷ blocks) [] has = has
block_comes request bytes right (block ∷ blocks) (Some had ∷ received) has = (has.0, block_comes request bytes right blocks received has.1)
block_comes request bytes right (block ∷ blocks) (None ∷ received) has = cases (is_about request block) refl (block_comes request bytes right blocks received has)
  where
    cases : (b : Bool) → is_about request block ≡ b → HaveHashes blocks (received_at request bytes blocks received) →
        HaveHashes (block ∷ blocks) ((if b then Some bytes else None) ∷ received_at request bytes blocks received)
    cases true about later = (right ∙ same_hash request block about, later)
    cases false other later = later

with_block_keeps : (replica : Replica) (request : Request) (bytes : List ℕ) → hash_of bytes ≡ request.hash → (pull : Option Pull) → pull_at replica request.name ≡ pull → HaveTheirs replica.pulls → HaveTheirs (with_block request bytes pull replica).pulls
with_block_keeps replica request bytes right None is had = had
with_block_keeps replica request bytes right (Some pull) is had =
    one_more replica.pulls request.name _ (block_comes request bytes right pull.target.blocks pull.received (had request.name pull is)) had

keeps_reading : IsReading Keeps
keeps_reading = record {
  same = keeps_same;
  then = λ first second third one two had. two (one had);
  view = λ replica other view. keeps_some replica _ (λ had. had);
  block = λ replica request bytes right. keeps_some replica _ (with_block_keeps replica request bytes right (pull_at replica request.name) refl);
  unpulled = λ replica. keeps_some replica _ (λ _. none_pulled);
}

-- ---- the rows of one replica

module _ (old : Replica) where
  abbrev Kept : Replica → Type 0
  Kept new = HaveTheirs old.pulls → HaveTheirs new.pulls

  stays : Kept old
  stays had = had

  or_kept : {new : Replica} {given answer : Answer} {condition R : Type 0} → (condition × becomes old given new answer) ⊎ ((¬ condition) × R) → (R → Kept new) → Kept new
  or_kept row rest = where_answers Kept row stays (λ _. rest)

  with_node_keeps : (start : Replica) (name : FileName) (node : Option NodeParts) → Kept start → Kept (with_node start name node)
  with_node_keeps start name None kept = kept
  with_node_keeps start name (Some node) kept = kept

  put_kept : (name : FileName) (IsNew : Entry → Type 0) (new : Replica) (answer : Answer) → PutRow name IsNew old new answer → Kept new
  put_kept name IsNew new answer row = or_kept row (λ counted. or_kept counted (λ put. where_becomes Kept put.2 stays))

  found_kept : (kind : FolderKind) (device : Device) (name : FileName) (new : Replica) (answer : Answer) → FoundRow kind device name old new answer → Kept new
  found_kept ReceiveOnly device name new answer row = put_kept name _ new answer row
  found_kept SendReceive device name new answer row = or_kept row (λ few. or_kept few (λ put. put_kept name _ new answer put))
  found_kept SendOnly device name new answer row = or_kept row (λ few. or_kept few (λ put. put_kept name _ new answer put))

  edit_kept : (name : FileName) (node : NodeParts) (failed : Option ℕ) (new : Replica) (answer : Answer) → EditRow name node failed old new answer → Kept new
  edit_kept name node failed new answer row = or_kept row (λ edits. where_becomes Kept edits stays)

  remove_kept : (name : FileName) (failed : Option ℕ) (new : Replica) (answer : Answer) → RemoveRow name failed old new answer → Kept new
  remove_kept name failed new answer row = or_kept row (λ looked. or_kept looked (λ there. or_kept there (λ removes. where_becomes Kept removes stays)))

  scan_kept : (device : Device) (name : FileName) (failed : Option ℕ) (new : Replica) (answer : Answer) → ScanRow device name failed old new answer → Kept new
  scan_kept device name failed new answer row = or_kept row (λ looked. or_kept looked (λ found. found_kept old.kind device name new answer found))

  override_kept : (device : Device) (name : FileName) (new : Replica) (answer : Answer) → OverrideRow device name old new answer → Kept new
  override_kept device name new answer row = or_kept row (λ can. or_kept can (λ chosen. or_kept chosen.2 (λ few. or_kept few (λ put. put_kept name _ new answer put))))

  reverted_kept : (device : Device) (name : FileName) (failed : Option ℕ) (own : Option Entry) (new : Replica) (answer : Answer) → RevertedRow device name failed own old new answer → Kept new
  reverted_kept device name failed None new answer row = absurd row
  reverted_kept device name failed (Some own) new answer row = or_kept row (λ reverts. where_becomes Kept reverts stays)

  revert_kept : (device : Device) (name : FileName) (failed : Option ℕ) (new : Replica) (answer : Answer) → RevertRow device name failed old new answer → Kept new
  revert_kept device name failed new answer row =
      or_kept row (λ kind. or_kept kind (λ can. or_kept can (λ looked. or_kept looked (λ scanned. or_kept scanned (λ room. reverted_kept device name failed (own_at old name) new answer room)))))

  start_pull_kept : (device : Device) (name : FileName) (new : Replica) (answer : Answer) → StartPullRow device name old new answer → Kept new
  start_pull_kept device name new answer row =
      or_kept row (λ chosen. or_kept chosen.2 (λ needed. or_kept needed (λ full. or_kept full (λ begun.
      where_becomes Kept begun (one_more old.pulls name (new_pull chosen.0) (nothing_received chosen.0.blocks))))))

  settling_kept : (name : FileName) (pull : Pull) (call : ℕ) (failed : Option ℕ) (own : Option Entry) (held : Option NodeParts) (start new : Replica) (answer : Answer) → Kept start → SettlingRow name pull call failed own held start new answer → Kept new
  settling_kept name pull call failed own held start new answer kept row =
      ⊎_elim
      (λ memory. where_becomes Kept memory kept)
      (λ called. where_answers Kept called.2 kept (λ _ put. where_becomes Kept put.2
      (λ had. one_less (with_node start name called.0).pulls name (with_node_keeps start name called.0 kept had))))
      row

  room_kept : (name : FileName) (own : Option Entry) (target : Entry) (new : Replica) (answer : Answer) (rest : Row Replica) → (rest new answer → Kept new) → RoomRow name own target old rest new answer → Kept new
  room_kept name own target new answer rest kept row = or_kept row (λ few. or_kept few (λ counted. or_kept counted kept))

  copying_kept : (name : FileName) (pull : Pull) (failed : Option ℕ) (own : Option Entry) (held : Option NodeParts) (new : Replica) (answer : Answer) → CopyingRow name pull failed own held old new answer → Kept new
  copying_kept name pull failed own held new answer row =
      or_kept row (λ fits. or_kept fits (λ looked. or_kept looked (λ free. or_kept free (λ few. or_kept few (λ counted. or_kept counted (λ room.
      ⊎_elim
      (λ writes. or_kept writes.1 (λ copied. settling_kept name pull 4 failed own held (with_node old (copy_name own) held) new answer (with_node_keeps old (copy_name own) held stays) copied))
      (λ there. settling_kept name pull 3 failed own held old new answer stays there.1)
      room))))))

  ending_kept : (name : FileName) (pull : Pull) (failed : Option ℕ) (new : Replica) (answer : Answer) → EndingRow name pull failed old new answer → Kept new
  ending_kept name pull failed new answer row =
      or_kept row (λ received. or_kept received (λ looked. or_kept looked (λ scanned.
      ⊎_elim
      (λ copying. copying_kept name pull failed (own_at old name) (node_at old name) new answer copying.1)
      (λ alone. room_kept name (own_at old name) pull.target new answer (SettlingRow name pull 2 failed (own_at old name) (node_at old name) old)
      (λ room. settling_kept name pull 2 failed (own_at old name) (node_at old name) old new answer stays room) alone.1)
      scanned)))

  finish_kept : (device : Device) (name : FileName) (failed : Option ℕ) (new : Replica) (answer : Answer) → FinishRow device name failed old new answer → Kept new
  finish_kept device name failed new answer row =
      or_kept row (λ pulled.
      ⊎_elim
      (λ wanted. ending_kept name pulled.0 failed new answer wanted.1)
      (λ unwanted. where_becomes Kept unwanted.1 (one_less old.pulls name))
      pulled.2)

-- ---- each step

anew_keeps : (id : ℕ) (replica : Option Replica) → Keeps replica (option_map (anew_under id) replica)
anew_keeps id None = keeps_same None
anew_keeps id (Some replica) = keeps_some replica (anew_under id replica) (λ _. none_pulled)

module _ (old new : Cluster) (answer : Answer) (failed : Option ℕ) where
  abbrev AllKeep : Cluster → Cluster → Type 0
  AllKeep = Everywhere (λ _ _. Keeps)

  at_replica : (device : Device) (folder : Folder) (row : Replica → Row Replica) → ((before after : Replica) → row before after answer → HaveTheirs before.pulls → HaveTheirs after.pulls) → AtReplica device folder row old new answer → AllKeep old new
  at_replica device folder row kept made =
      where_replica_changes (λ _ _. Keeps) (λ _ _. keeps_same) old new device folder row answer (λ before after _ is. keeps_some before after (kept before after is)) made

  row_keeps : (step : Step) → StepRow step failed old new answer → AllKeep old new
  row_keeps (Edit device folder name node) made = at_replica device folder (EditRow name node failed) (λ before after. edit_kept before name node failed after answer) made
  row_keeps (Remove device folder name) made = at_replica device folder (RemoveRow name failed) (λ before after. remove_kept before name failed after answer) made
  row_keeps (Scan device folder name) made = at_replica device folder (ScanRow device name failed) (λ before after. scan_kept before device name failed after answer) made
  row_keeps (Override device folder name) made = at_replica device folder (OverrideRow device name) (λ before after. override_kept before device name after answer) made
  row_keeps (Revert device folder name) made = at_replica device folder (RevertRow device name failed) (λ before after. revert_kept before device name failed after answer) made
  row_keeps (Connect one other) made = link_reads Keeps keeps_reading one other ConnectRow old new answer made
  row_keeps (Lose one other) made = link_reads Keeps keeps_reading one other LoseRow old new answer made
  row_keeps (Begin device other) made = begin_reads Keeps keeps_reading device other old new answer made
  row_keeps (Deliver device other) made = deliver_reads Keeps keeps_reading device other failed old new answer made
  row_keeps (Announce device other folder) made = announce_reads Keeps keeps_reading device other folder old new answer made
  row_keeps (StartPull device folder name) made = at_replica device folder (StartPullRow device name) (λ before after. start_pull_kept before device name after answer) made
  row_keeps (Ask device other folder name) made = ask_reads Keeps keeps_reading device other folder name old new answer made
  row_keeps (Finish device folder name) made = at_replica device folder (FinishRow device name failed) (λ before after. finish_kept before device name failed after answer) made
  row_keeps (Restart device) made = restart_reads Keeps keeps_reading device old new answer made
  row_keeps (Reset device id) made =
      where_answers (AllKeep old) made (nothing_changes (λ _ _. Keeps) (λ _ _. keeps_same) old)
      (λ _ resets. where_becomes (AllKeep old) resets
      (where_one_changes (λ _ _. Keeps) (λ _ _. keeps_same) old device (reset_to id (old.peer device))
      (λ folder. subst (Keeps (get (old.peer device).replicas folder)) (sym (get-each nat_list_cmp_total (anew_under id) (old.peer device).replicas folder)) (anew_keeps id (get (old.peer device).replicas folder)))))

pub steps_keep_hashes_lem : StepsKeepHashes
steps_keep_hashes_lem step failed old new answer hashes made device folder =
    step_or_nothing (λ one. Everywhere (λ _ _. Keeps) old one) step failed old new answer
    (nothing_changes (λ _ _. Keeps) (λ _ _. keeps_same) old)
    (λ _ row. row_keeps old new answer failed step row)
    made device folder (hashes device folder)
