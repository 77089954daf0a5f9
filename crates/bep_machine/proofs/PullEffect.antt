-- A pull begins and ends where nothing stands in its way.
use Rattle.std.proofs.lemmas.Option.{same_Some}
use Rattle.std.proofs.Common.{◌≡◌, ◌≢◌, ◌∙◌, ◌≤◌, ℕ, ◌+◌, Bool, false, List, length, Option, Some, None, refl, sym, ap, subst, subst₂, inl, inr, ⊎_elim, arith}
use Rattle.bep_record.specs.declared.entry.Entry.{Entry}
use Rattle.bep_record.specs.declared.node.NodeParts.{NodeParts}
use Rattle.bep_record.specs.Laws.{CutIsOfOneLength, MergeExists}
use Rattle.bep_record.specs.Node.{IsClean}
use Rattle.bep_record.specs.Name.{max_name_len}
use Rattle.bep_record.specs.Content.{content_of}
use Rattle.bep_record.specs.Vector.{most_counters, IsAtMost, IsMerge, ids_in_either}
use Rattle.bep_record.specs.declared.folder_kind.FolderKind.{FolderKind}
use Rattle.bep_choice.specs.Need.{IsNeeded, NeedsBeside}
use Rattle.bep_index.specs.Index.{numbered}
use Rattle.bep_model.specs.Calm.{SameFile}
use Rattle.bep_model.specs.Settled.{content_of_node}
use Rattle.bep_model.specs.Tables.{Device, FileName}
use Rattle.bep_machine.specs.Answer.{Answer, Row, Done}
use Rattle.bep_machine.specs.declared.moved.Moved.TheVariants.{Changed, Dropped}
use Rattle.bep_machine.specs.Replica.{Replica, Pull, own_at, node_at, pull_at, version_of, with_node, with_pull, without_pull}
use Rattle.bep_machine.specs.Pull.{FinishRow, EndingRow, CopyingRow, SettlingRow, RoomRow, IsAdopted, IsStillWanted, IsConflictDue, EndsWith, new_pull, timed, written, copy_name}
use Rattle.bep_machine.specs.Effects.{HasRoom, CanFinish, IsJoined, HasFinished, StartPullBegins, WantedIsNewer, FinishAdopts, FinishKeepsCopy, FinishDrops}
use Rattle.bep_machine.specs.Sound.{IsSoundReplica}
use Rattle.bep_machine.proofs.CalmFinish.{clean_against_adopted, timed_is_clean_there}
use Rattle.bep_machine.proofs.CalmRows.{CopiedRow}
use Rattle.bep_machine.proofs.ContentDecided.{has_content_or_not}
use Rattle.bep_machine.proofs.EffectFacts.{none_fails, own_version}
use Rattle.bep_machine.proofs.EndedNode.{file_stays, none_where_deleted, has_target_content, file_is_joined}
use Rattle.bep_machine.proofs.WholeFile.{written_is_clean}
use Rattle.bep_machine.proofs.ReplicaFacts.{insert_here, remove_here, remove_apart, with_node_here, with_node_apart, ended, own_here}

pub start_pull_begins_lem : StartPullBegins
start_pull_begins_lem device name old wanted wants room = (
  with_pull old name (new_pull wanted),
  inr (λ none. none wanted wants.chosen, (wanted, wants.chosen, inr (λ no. no.0 wants.needed, inr (λ no. no wants.needed, inr (room, (refl, refl)))))),
  insert_here old.pulls name (new_pull wanted),
  refl,
)

-- a wanted record isn't at most the own one
newer : (kind : FolderKind) (own : Option Entry) (one wanted : Entry) → IsNeeded kind own wanted → own ≡ Some one → one.invalid ≡ false → ¬ IsAtMost wanted.version one.version
newer kind own one wanted needed is valid =
    (subst (λ (local : Bool). NeedsBeside local kind one wanted) valid (subst (λ (own : Option Entry). IsNeeded kind own wanted) is needed)).0

pub wanted_is_newer_lem : WantedIsNewer
wanted_is_newer_lem device name replica wanted own wants is valid = newer replica.kind (own_at replica name) own wanted wants.needed is valid

-- ---- what the end leaves

end_exists : (own : Option Entry) (node : Option NodeParts) (pull : Pull) → (after : Option NodeParts) × EndsWith own node pull after
end_exists own node pull =
    ⊎_elim
    (λ has. (timed node pull.target, inl (has, refl)))
    (λ differs. (written pull, inr (differs, refl)))
    (has_content_or_not own pull.target)

-- the record that takes the own one's place
adopted_exists : MergeExists → (device : Device) (name : FileName) (old : Replica) (pull : Pull) → IsSoundReplica device old → pull_at old name ≡ Some pull → (entry : Entry) × IsAdopted (own_at old name) pull.target entry
adopted_exists merge_exists device name old pull sound is =
    let merged = merge_exists (version_of (own_at old name)) pull.target.version (own_version device old name sound) (sound.pulls name pull is).good.version in
    (record (pull.target) { version = merged.0; invalid = false }, record { version = merged.0; merge = merged.1.merge; rises = merged.1.version; same = refl })

settling_row : (name : FileName) (pull : Pull) (call : ℕ) (own : Option Entry) (node after : Option NodeParts) (start : Replica) (entry : Entry) → EndsWith own node pull after → IsAdopted own pull.target entry → SettlingRow name pull call None own node start (ended start name after entry) (Done Changed)
settling_row name pull call own held after start entry ends adopted =
    inr (after, ends, inr (λ fails. none_fails call fails.1, (entry, adopted, (refl, refl))))

room_row : (name : FileName) (own : Option Entry) (target : Entry) (old new : Replica) (answer : Answer) (rest : Row Replica) → ids_in_either (version_of own) target.version ≤ most_counters → HasRoom old.index name → rest new answer → RoomRow name own target old rest new answer
room_row name own target old new answer rest few room row = inr (λ many. omega (arith, few, many), inr (room.numbers, inr (room.names, row)))

-- what the name holds at the end is clean against the target
end_is_clean : CutIsOfOneLength → (device : Device) (name : FileName) (old : Replica) (pull : Pull) (after : Option NodeParts) → IsSoundReplica device old → CanFinish device name old pull → EndsWith (own_at old name) (node_at old name) pull after → IsClean after (Some pull.target)
end_is_clean one_length device name old pull after sound can ends =
    let is_pull = sound.pulls name pull can.pulled in
    ⊎_elim
    (λ same.
    subst (λ (n : Option NodeParts). IsClean n (Some pull.target)) (sym same.1)
    (timed_is_clean_there one_length (own_at old name) (node_at old name) pull.target (sound.own name) is_pull.good same.0 can.clean))
    (λ new.
    subst (λ (n : Option NodeParts). IsClean n (Some pull.target)) (sym new.1)
    (written_is_clean name pull is_pull (λ missing. can.received (missing.0, new.0, missing.1))))
    ends

finished : CutIsOfOneLength → (device : Device) (name : FileName) (old start : Replica) (pull : Pull) (after : Option NodeParts) (entry : Entry) → IsSoundReplica device old → CanFinish device name old pull → EndsWith (own_at old name) (node_at old name) pull after → IsAdopted (own_at old name) pull.target entry → HasFinished name old pull (ended start name after entry)
finished one_length device name old start pull after entry sound can ends adopted =
    let named : entry.name ≡ name = ap (λ (e : Entry). e.name) adopted.same ∙ (sound.pulls name pull can.pulled).named in
    let number = (with_node start name after).index.sequence + 1 in
    let against = end_is_clean one_length device name old pull after sound can ends in
    let clean = clean_against_adopted after pull.target adopted.version number against in
    let here = with_node_here start name after in
    record {
      entry = numbered entry number;
      own = own_here start name after entry named;
      content = ap content_of adopted.same;
      valid = ap (λ (e : Entry). e.invalid) adopted.same;
      merge = subst (λ (v : List (ℕ × ℕ)). IsMerge (version_of (own_at old name)) pull.target.version v) (sym (ap (λ (e : Entry). e.version) adopted.same)) adopted.merge;
      node = subst (λ (n : Option NodeParts). EndsWith (own_at old name) (node_at old name) pull n) (sym here) ends;
      stays = λ has. subst (λ (n : Option NodeParts). SameFile (node_at old name) n) (sym here) (file_stays (own_at old name) (node_at old name) pull after ends has);
      removed = λ deleted. here ∙ none_where_deleted after pull.target against deleted;
      like_target = λ no_file. ap content_of_node here ∙ has_target_content after pull.target against no_file;
      joined = λ file differs.
          subst (λ (n : Option NodeParts). IsJoined pull n) (sym here)
          (file_is_joined (own_at old name) (node_at old name) pull after ends file differs (λ missing. can.received (file, differs, missing)));
      clean =
          subst₂ (λ (n : Option NodeParts) (e : Entry). IsClean n (Some (numbered e number))) (sym here) (sym adopted.same) clean;
      gone = remove_here (with_node start name after).pulls name;
    }

-- ---- the rows

finish_row : (device : Device) (name : FileName) (old new : Replica) (answer : Answer) (pull : Pull) → CanFinish device name old pull → EndingRow name pull None old new answer → FinishRow device name None old new answer
finish_row device name old new answer pull can row =
    let is = can.pulled in
    inr (λ none. cc, (pull, can.pulled, inl (can.wanted, row)))

pub finish_adopts_lem : MergeExists → CutIsOfOneLength → FinishAdopts
finish_adopts_lem merge_exists one_length device name old pull sound can no_conflict =
    let end = end_exists (own_at old name) (node_at old name) pull in
    let adopted = adopted_exists merge_exists device name old pull sound can.pulled in
    let new = ended old name end.0 adopted.0 in
    let settles = settling_row name pull 2 (own_at old name) (node_at old name) end.0 old adopted.0 end.1 adopted.1 in
    let row = room_row name (own_at old name) pull.target old new (Done Changed) (SettlingRow name pull 2 None (own_at old name) (node_at old name) old) can.few can.room settles in (
      new,
      finish_row device name old new (Done Changed) pull can (inr (can.received, inr (none_fails 1, inr (λ unclean. unclean can.clean, inr (no_conflict, row))))),
      finished one_length device name old old pull end.0 adopted.0 sound can end.1 adopted.1,
    )

-- what loses is there
loser_is_there : (own : Option Entry) (node : Option NodeParts) (target : Entry) → IsConflictDue own target → IsClean node own → node ≢ None
loser_is_there None held target due clean none = due
loser_is_there (Some own) None target due clean none = let there = due.0.0 in cc
loser_is_there (Some own) (Some node) target due clean none = cc

copying_row : (name : FileName) (pull : Pull) (own : Option Entry) (node : Option NodeParts) (old new : Replica) (answer : Answer) → length (copy_name own) ≤ max_name_len → node_at old (copy_name own) ≡ None → ids_in_either (version_of own) pull.target.version ≤ most_counters → HasRoom old.index name → SettlingRow name pull 4 None own node (with_node old (copy_name own) node) new answer → CopyingRow name pull None own node old new answer
copying_row name pull own held old new answer short free few room settles =
    inr (λ long. omega (arith, short, long), inr (none_fails 2, inr (λ there. there.0 free, room_row name own pull.target old new answer (CopiedRow name pull None own held old) few room (inl (free, inr (none_fails 3, settles))))))

pub finish_keeps_copy_lem : MergeExists → CutIsOfOneLength → FinishKeepsCopy
finish_keeps_copy_lem merge_exists one_length device name old pull sound can due short free =
    let own = own_at old name in
    let node = node_at old name in
    let copy = copy_name own in
    let start = with_node old copy node in
    let end = end_exists own node pull in
    let adopted = adopted_exists merge_exists device name old pull sound can.pulled in
    let new = ended start name end.0 adopted.0 in
    let settles = settling_row name pull 4 own node end.0 start adopted.0 end.1 adopted.1 in
    let row = copying_row name pull own node old new (Done Changed) short free can.few can.room settles in
    let apart : copy ≢ name = λ same. loser_is_there own node pull.target due can.clean (subst (λ (n : FileName). node_at old n ≡ None) same free) in (
      new,
      finish_row device name old new (Done Changed) pull can (inr (can.received, inr (none_fails 1, inr (λ unclean. unclean can.clean, inl (due, row))))),
      finished one_length device name old start pull end.0 adopted.0 sound can end.1 adopted.1,
      with_node_apart start name end.0 copy apart ∙ with_node_here old copy node,
    )

-- ---- a pull that isn't wanted any more

pub finish_drops_lem : FinishDrops
finish_drops_lem device name failed old pull is unwanted = record {
  made = without_pull old name;
  comes = inr ((λ none. let never = sym is ∙ none in cc), (pull, is, inr (unwanted, (refl, refl))));
  fits = record { gone = remove_here old.pulls name; others = λ other apart. remove_apart old.pulls name other apart; rest = refl };
  only = only;
}
  where
    only : (new : Replica) (answer : Answer) → FinishRow device name failed old new answer → (new ≡ without_pull old name) × (answer ≡ Done Dropped)
    only new answer (inl none) = let never = sym is ∙ none.0 in absurd (cc)
    only new answer (inr (there, (found, found_is, inl wanted))) =
        absurd (unwanted (subst (λ (p : Pull). IsStillWanted device old name p.target) (same_Some found pull (sym found_is ∙ is)) wanted.0))
    only new answer (inr (there, (found, found_is, inr dropped))) = dropped.1
