-- What a scan, the beginning of a pull and its end make of a name in a replica, orderly peers may make.
use Rattle.std.proofs.Common.{◌≡◌, ◌≢◌, ◌⊎◌, ◌∙◌, ◌+◌, ◌<◌, ℕ, Bool, true, false, List, Option, Some, None, option_map, refl, sym, ap, subst, inl, inr, ⊎_elim, arith}
use Rattle.std.proofs.lemmas.Bool.{cases_Bool}
use Rattle.std.proofs.lemmas.Map.Lookups.{exact_bytes}
use Rattle.std.specs.Ordering.{nat_cmp, is_eq, eq_by_cmp}
use Rattle.std.specs.Cmp.Lexicographic.{slice_cmp, nat_list_cmp_total}
use Rattle.std.specs.FinMap.{get}
use Rattle.bep_facts.specs.Maps.{same_key, get-insert_here, get-insert_apart, get-remove_here, get-remove_apart}
use Rattle.bep_facts.specs.Orders.{Equal_from_same}
use Rattle.bep_record.specs.declared.entry.Entry.{Entry}
use Rattle.bep_record.specs.declared.node.NodeParts.{NodeParts}
use Rattle.bep_record.specs.declared.folder_kind.FolderKind.{FolderKind}
use Rattle.bep_record.specs.declared.folder_kind.FolderKind.TheVariants.{SendReceive, SendOnly, ReceiveOnly}
use Rattle.bep_record.specs.Content.{content_of}
use Rattle.bep_record.specs.Laws.{CutIsOfOneLength}
use Rattle.bep_record.specs.Node.{IsClean}
use Rattle.bep_record.specs.Vector.{counter_of, AreConcurrent}
use Rattle.bep_choice.specs.Need.{IsNeeded, NeedsBeside}
use Rattle.bep_index.specs.Good.{IsGoodIfThere}
use Rattle.bep_index.specs.Index.{numbered}
use Rattle.bep_model.specs.Free.{IsNews}
use Rattle.bep_model.specs.Tables.{Device, FileName}
use Rattle.bep_machine.specs.Answer.{Answer, Refused, Row, becomes, when◌then◌else◌, ◌answers◌when◌else◌}
use Rattle.bep_machine.specs.Effects.{content_owned}
use Rattle.bep_machine.specs.declared.refusal.Refusal.TheVariants.{StoreFault}
use Rattle.bep_machine.specs.Local.{Fails, ScanRow, FoundRow, PutRow, Finds}
use Rattle.bep_machine.specs.Pull.{StartPullRow, FinishRow, EndingRow, CopyingRow, SettlingRow, RoomRow, IsAdopted, IsConflictDue, IsStillWanted, IsFile, IsMissingBlocks, EndsWith, copy_name}
use Rattle.bep_machine.specs.Replica.{Replica, Pull, own_at, node_at, pull_at, target_at, viewed_at, version_of, HasContentOf, with_record, with_node, without_pull}
use Rattle.bep_machine.specs.Said.{looked_up}
use Rattle.bep_machine.specs.Sound.{IsSoundReplica}
use Rattle.bep_converge.specs.Orderly.{IsUpToMerge, HasTakenFile}
use Rattle.bep_converge.specs.Received.{PullsHaveHashes}
use Rattle.bep_converge.proofs.Rows.{where_becomes, where_answers}
use Rattle.bep_converge.proofs.CleanDecided.{clean_where_not_unclean}
use Rattle.bep_converge.proofs.TakenFile.{end_is_taken}

-- ---- names

pub same_name : (one other : FileName) → (one ≡ other) ⊎ (one ≢ other)
same_name one other =
    ⊎_elim
    (λ tied. inl (same_key exact_bytes one other tied))
    (λ apart. inr (λ same. let tied = ap is_eq (Equal_from_same nat_list_cmp_total one other same) in cc))
    (cases_Bool (eq_by_cmp (slice_cmp nat_cmp) one other))

-- ---- what may be made of a name in a replica

-- the device has a record from elsewhere that it may want
pub record Wishes (replica : Option Replica) (name : FileName) : Type 0 where
  pub entry : Entry
  pub had : ((other : Device) × (looked_up (λ one at. viewed_at one other at) name replica ≡ Some entry)) ⊎ (looked_up target_at name replica ≡ Some entry)
  pub valid : entry.invalid ≡ false
  pub news : IsNews (looked_up own_at name replica) entry

pub record TakesThere (Receives : Type 0) (old new : Option Replica) (name : FileName) : Type 0 where
  pub wants : Wishes old name
  pub fits : (content_of wants.entry ≡ content_owned (looked_up own_at name old)) ⊎ Receives
  pub taken : Entry
  pub own : looked_up own_at name new ≡ Some taken
  pub valid : taken.invalid ≡ false
  pub content : content_of taken ≡ content_of wants.entry
  pub version : IsUpToMerge (version_of (looked_up own_at name old)) wants.entry.version taken.version
  pub file : HasTakenFile (looked_up own_at name old) (looked_up node_at name old) taken (looked_up node_at name new)

pub record CopiesThere (device : Device) (replica : Option Replica) : Type 0 where
  pub name : FileName
  pub wants : Wishes replica name
  pub conflict : AreConcurrent (version_of (looked_up own_at name replica)) wants.entry.version ⊎
      (counter_of (version_of (looked_up own_at name replica)) device < counter_of wants.entry.version device)

abbrev pub StaysThere : Option Replica → Option Replica → FileName → Type 0
StaysThere old new name = (looked_up own_at name new ≡ looked_up own_at name old) × (looked_up node_at name new ≡ looked_up node_at name old)

abbrev pub MovesThere : Type 0 → Device → Option Replica → Option Replica → FileName → Type 0
MovesThere Receives device old new name =
    StaysThere old new name ⊎ (TakesThere Receives old new name ⊎
    (((¬ IsClean (looked_up node_at name old) (looked_up own_at name old)) × (looked_up node_at name new ≡ looked_up node_at name old)) ⊎
    (CopiesThere device old × (looked_up own_at name new ≡ looked_up own_at name old))))

module _ (Receives : Type 0) (device : Device) (old : Replica) where
  -- each name moves in an orderly way
  abbrev Moves : Replica → Type 0
  Moves new = (name : FileName) → MovesThere Receives device (Some old) (Some new) name

  all_stay : Moves old
  all_stay name = inl (refl, refl)

  or_moves : {new : Replica} {given answer : Answer} {condition R : Type 0} → (condition × becomes old given new answer) ⊎ ((¬ condition) × R) → ((¬ condition) → R → Moves new) → Moves new
  or_moves row rest = where_answers Moves row all_stay rest

  -- ---- scanning

  recorded : (name : FileName) (entry : Entry) → entry.name ≡ name → ¬ IsClean (node_at old name) (own_at old name) → Moves (with_record old entry)
  recorded name entry named unclean other =
      ⊎_elim
      (λ same. inr (inr (inl (subst (λ (n : FileName). ¬ IsClean (node_at old n) (own_at old n)) (sym same) unclean, refl))))
      (λ apart. inl (get-insert_apart nat_list_cmp_total exact_bytes old.index.records entry.name (numbered entry (old.index.sequence + 1)) other (λ same. apart (same ∙ named)), refl))
      (same_name other name)

  pub finds_named : (name : FileName) (node : Option NodeParts) (own : Option Entry) (version : List (ℕ × ℕ)) (entry : Entry) → Finds device name node own version entry → entry.name ≡ name
  finds_named name (Some node) own version entry finds = ap (λ (e : Entry). e.name) finds
  finds_named name None (Some own) version entry finds = ap (λ (e : Entry). e.name) finds
  finds_named name None None version entry finds = absurd finds

  put_moves : (name : FileName) (IsNew : Entry → Type 0) (new : Replica) (answer : Answer) → ((entry : Entry) → IsNew entry → entry.name ≡ name) → ¬ IsClean (node_at old name) (own_at old name) → PutRow name IsNew old new answer → Moves new
  put_moves name IsNew new answer named unclean row =
      or_moves row (λ _ counted. or_moves counted (λ _ put. where_becomes Moves put.2 (recorded name put.0 (named put.0 put.1) unclean)))

  found_moves : (kind : FolderKind) (name : FileName) (new : Replica) (answer : Answer) → ¬ IsClean (node_at old name) (own_at old name) → FoundRow kind device name old new answer → Moves new
  found_moves ReceiveOnly name new answer unclean row =
      put_moves name _ new answer (λ entry is. ap (λ (e : Entry). e.name) is.2 ∙ finds_named name (node_at old name) (own_at old name) _ is.0 is.1) unclean row
  found_moves SendReceive name new answer unclean row =
      or_moves row (λ _ few. or_moves few (λ _ put. put_moves name _ new answer (λ entry is. finds_named name (node_at old name) (own_at old name) is.0 entry is.2) unclean put))
  found_moves SendOnly name new answer unclean row =
      or_moves row (λ _ few. or_moves few (λ _ put. put_moves name _ new answer (λ entry is. finds_named name (node_at old name) (own_at old name) is.0 entry is.2) unclean put))

  pub scan_moves : (name : FileName) (failed : Option ℕ) (new : Replica) (answer : Answer) → ScanRow device name failed old new answer → Moves new
  scan_moves name failed new answer row =
      or_moves row (λ _ looked. or_moves looked (λ unclean found. found_moves old.kind name new answer unclean found))

  -- ---- the beginning of a pull

  pub start_pull_moves : (name : FileName) (new : Replica) (answer : Answer) → StartPullRow device name old new answer → Moves new
  start_pull_moves name new answer row =
      or_moves row (λ _ chosen. or_moves chosen.2 (λ _ needed. or_moves needed (λ _ full. or_moves full (λ _ begun. where_becomes Moves begun (λ other. inl (refl, refl))))))

  -- ---- the end of a pull

  -- what is needed is news, and the device's kind lets it in
  needed_is_news : (kind : FolderKind) (own : Option Entry) (chosen : Entry) → IsNeeded kind own chosen → IsNews own chosen
  needed_is_news kind None chosen needed = needed.0
  needed_is_news kind (Some own) chosen needed =
      ⊎_elim
      (λ local. inl local)
      (λ valid. let valid_needed : NeedsBeside false kind own chosen = subst (λ (local : Bool). NeedsBeside local kind own chosen) valid needed in inr valid_needed.0)
      (cases_Bool own.invalid)

  kind_lets_in : (kind : FolderKind) → (kind ≢ SendOnly → Receives) → (own : Option Entry) (chosen : Entry) → IsNeeded kind own chosen → (content_of chosen ≡ content_owned own) ⊎ Receives
  kind_lets_in kind receives None chosen needed = inr (receives needed.1)
  kind_lets_in kind receives (Some own) chosen needed =
      ⊎_elim
      (λ local. inl (subst (λ (b : Bool). NeedsBeside b kind own chosen) local needed))
      (λ valid. let valid_needed : NeedsBeside false kind own chosen = subst (λ (b : Bool). NeedsBeside b kind own chosen) valid needed in by_kind kind receives valid_needed.1)
      (cases_Bool own.invalid)
    where
      by_kind : (kind : FolderKind) → (kind ≢ SendOnly → Receives) → (kind ≡ SendOnly → content_of chosen ≡ content_of own) → (content_of chosen ≡ content_of own) ⊎ Receives
      by_kind SendOnly receives same = inl (same refl)
      by_kind SendReceive receives same = inr (receives (λ no. cc))
      by_kind ReceiveOnly receives same = inr (receives (λ no. cc))

  -- the own records are as they were, and each file too, or there is leave for a conflict copy
  record IsBegun (start : Replica) : Type 0 where
    own : (other : FileName) → own_at start other ≡ own_at old other
    node : (other : FileName) → (node_at start other ≡ node_at old other) ⊎ CopiesThere device (Some old)

  begun_moves : (start : Replica) → IsBegun start → Moves start
  begun_moves start begun other = ⊎_elim (λ same. inl (begun.own other, same)) (λ copies. inr (inr (inr (copies, begun.own other)))) (begun.node other)

  with_node_own : (start : Replica) (name : FileName) (node : Option NodeParts) (other : FileName) → own_at (with_node start name node) other ≡ own_at start other
  with_node_own start name None other = refl
  with_node_own start name (Some node) other = refl

  with_node_here : (start : Replica) (name : FileName) (node : Option NodeParts) → node_at (with_node start name node) name ≡ node
  with_node_here start name None = get-remove_here nat_list_cmp_total exact_bytes start.store name
  with_node_here start name (Some node) = get-insert_here nat_list_cmp_total exact_bytes start.store name node

  with_node_apart : (start : Replica) (name : FileName) (node : Option NodeParts) (other : FileName) → other ≢ name → node_at (with_node start name node) other ≡ node_at start other
  with_node_apart start name None other apart = get-remove_apart nat_list_cmp_total exact_bytes start.store name other apart
  with_node_apart start name (Some node) other apart = get-insert_apart nat_list_cmp_total exact_bytes start.store name node other apart

  -- a pull that is still wanted, of a name that was scanned
  module _ (one_length : CutIsOfOneLength) (sound : IsSoundReplica device old) (hashes : PullsHaveHashes old) (receives : old.kind ≢ SendOnly → Receives)
      (name : FileName) (pull : Pull) (pulled : pull_at old name ≡ Some pull) (wanted : IsStillWanted device old name pull.target) where
    target_needed : IsNeeded old.kind (own_at old name) pull.target
    target_needed = subst (λ (e : Entry). IsNeeded old.kind (own_at old name) e) wanted.2 (needed_again (own_at old name) wanted.1.needed)
      where
        needed_again : (own : Option Entry) → IsNeeded old.kind own wanted.0 → IsNeeded old.kind own (record (wanted.0) { sequence = pull.target.sequence })
        needed_again None needed = needed
        needed_again (Some own) needed = again own.invalid needed
          where
            again : (local : Bool) → NeedsBeside local old.kind own wanted.0 → NeedsBeside local old.kind own (record (wanted.0) { sequence = pull.target.sequence })
            again true needed = needed
            again false needed = needed

    abbrev wishes : Wishes (Some old) name
    wishes = record {
      entry = pull.target;
      had = inr (ap (option_map (λ (p : Pull). p.target)) pulled);
      valid = (sound.pulls name pull pulled).valid;
      news = needed_is_news old.kind (own_at old name) pull.target target_needed;
    }

    copies : IsConflictDue (own_at old name) pull.target → CopiesThere device (Some old)
    copies due = record { name = name; wants = wishes; conflict = inl (concurrent (own_at old name) due) }
      where
        concurrent : (own : Option Entry) → IsConflictDue own pull.target → AreConcurrent (version_of own) pull.target.version
        concurrent None due = absurd due
        concurrent (Some own) due = due.2

    takes : (start : Replica) (after : Option NodeParts) (entry : Entry) → IsClean (node_at old name) (own_at old name) →
        ¬ (IsFile pull.target × (¬ HasContentOf (own_at old name) pull.target) × IsMissingBlocks pull) → EndsWith (own_at old name) (node_at old name) pull after → IsAdopted (own_at old name) pull.target entry →
        TakesThere Receives (Some old) (Some (without_pull (with_record (with_node start name after) entry) name)) name
    takes start after entry clean received ends adopted =
        let sequence = (with_node start name after).index.sequence + 1 in
        let named : entry.name ≡ name = ap (λ (e : Entry). e.name) adopted.same ∙ (sound.pulls name pull pulled).named in
        let there : get (with_record (with_node start name after) entry).index.records name ≡ Some (numbered entry sequence) =
        subst (λ (n : FileName). get (with_record (with_node start name after) entry).index.records n ≡ Some (numbered entry sequence)) named
        (get-insert_here nat_list_cmp_total exact_bytes (with_node start name after).index.records entry.name (numbered entry sequence)) in
        let version : entry.version ≡ adopted.version = ap (λ (e : Entry). e.version) adopted.same in
        record {
          wants = wishes;
          fits = kind_lets_in old.kind receives (own_at old name) pull.target target_needed;
          taken = numbered entry sequence;
          own = there;
          valid = ap (λ (e : Entry). e.invalid) adopted.same;
          content = ap content_of adopted.same;
          version = record {
            from_target = λ id. let m = adopted.merge id in let same = ap (λ (v : List (ℕ × ℕ)). counter_of v id) version in omega arith;
            up_to_merge = λ id. let m = adopted.merge id in let same = ap (λ (v : List (ℕ × ℕ)). counter_of v id) version in omega arith;
          };
          file =
              subst (λ (n : Option NodeParts). HasTakenFile (own_at old name) (node_at old name) (numbered entry sequence) n) (sym (with_node_here start name after))
              (subst (λ (e : Entry). HasTakenFile (own_at old name) (node_at old name) (numbered e sequence) after) (sym adopted.same)
              (end_is_taken one_length name (own_at old name) (node_at old name) pull after adopted.version sequence (good_own (own_at old name) refl) (sound.pulls name pull pulled) (hashes name pull pulled) clean received ends));
        }
      where
        good_own : (own : Option Entry) → own_at old name ≡ own → IsGoodIfThere own
        good_own None is = tt
        good_own (Some own) is = sound.own name own is

    ended_moves : (start : Replica) (after : Option NodeParts) (entry : Entry) → IsBegun start → IsClean (node_at old name) (own_at old name) →
        ¬ (IsFile pull.target × (¬ HasContentOf (own_at old name) pull.target) × IsMissingBlocks pull) → EndsWith (own_at old name) (node_at old name) pull after → IsAdopted (own_at old name) pull.target entry →
        Moves (without_pull (with_record (with_node start name after) entry) name)
    ended_moves start after entry begun clean received ends adopted other =
        let named : entry.name ≡ name = ap (λ (e : Entry). e.name) adopted.same ∙ (sound.pulls name pull pulled).named in
        let ended = without_pull (with_record (with_node start name after) entry) name in
        ⊎_elim
        (λ same. inr (inl (subst (λ (n : FileName). TakesThere Receives (Some old) (Some ended) n) (sym same) (takes start after entry clean received ends adopted))))
        (λ apart.
        let own_same : own_at ended other ≡ own_at old other =
        get-insert_apart nat_list_cmp_total exact_bytes (with_node start name after).index.records entry.name (numbered entry ((with_node start name after).index.sequence + 1)) other (λ same. apart (same ∙ named))
        ∙ with_node_own start name after other ∙ begun.own other in
        let node_same : node_at ended other ≡ node_at start other = with_node_apart start name after other apart in
        ⊎_elim
        (λ stays. inl (own_same, node_same ∙ stays))
        (λ copy. inr (inr (inr (copy, own_same))))
        (begun.node other))
        (same_name other name)

    old_begun : IsBegun old
    old_begun = record { own = λ other. refl; node = λ other. inl refl }

    copied_begun : IsConflictDue (own_at old name) pull.target → (copy : FileName) → IsBegun (with_node old copy (node_at old name))
    copied_begun due copy = record { own = with_node_own old copy (node_at old name); node = λ other. inr (copies due) }

    module _ (clean : IsClean (node_at old name) (own_at old name)) (received : ¬ (IsFile pull.target × (¬ HasContentOf (own_at old name) pull.target) × IsMissingBlocks pull)) where
      settling_moves : (call : ℕ) (failed : Option ℕ) (start new : Replica) (answer : Answer) → IsBegun start → SettlingRow name pull call failed (own_at old name) (node_at old name) start new answer → Moves new
      settling_moves call failed start new answer begun row =
          ⊎_elim
          (λ memory. where_becomes Moves memory (begun_moves start begun))
          (λ called.
          where_answers Moves called.2 (begun_moves start begun)
          (λ _ put. where_becomes Moves put.2 (ended_moves start called.0 put.0 begun clean received called.1 put.1)))
          row

      room_moves : (new : Replica) (answer : Answer) (rest : Row Replica) → (rest new answer → Moves new) → RoomRow name (own_at old name) pull.target old rest new answer → Moves new
      room_moves new answer rest moves row = or_moves row (λ _ few. or_moves few (λ _ counted. or_moves counted (λ _ room. moves room)))

      -- once a conflict copy may be kept: it is written, or is there
      abbrev CopiedRow : Option ℕ → Row Replica
      CopiedRow failed =
          when node_at old (copy_name (own_at old name)) ≡ None
          then (old answers Refused StoreFault when Fails 3 failed else SettlingRow name pull 4 failed (own_at old name) (node_at old name) (with_node old (copy_name (own_at old name)) (node_at old name)))
          else SettlingRow name pull 3 failed (own_at old name) (node_at old name) old

      copying_moves : (failed : Option ℕ) (new : Replica) (answer : Answer) → IsConflictDue (own_at old name) pull.target → CopyingRow name pull failed (own_at old name) (node_at old name) old new answer → Moves new
      copying_moves failed new answer due row =
          or_moves row (λ _ fits. or_moves fits (λ _ looked. or_moves looked (λ _ free.
          room_moves new answer (CopiedRow failed)
          (λ room.
          ⊎_elim
          (λ writes. or_moves writes.1 (λ _ copied. settling_moves 4 failed (with_node old (copy_name (own_at old name)) (node_at old name)) new answer (copied_begun due (copy_name (own_at old name))) copied))
          (λ there. settling_moves 3 failed old new answer old_begun there.1)
          room)
          free)))

    ending_moves : (failed : Option ℕ) (new : Replica) (answer : Answer) → EndingRow name pull failed old new answer → Moves new
    ending_moves failed new answer row =
        or_moves row (λ received looked. or_moves looked (λ _ scanned. or_moves scanned (λ dirty rest.
        let clean : IsClean (node_at old name) (own_at old name) = clean_where_not_unclean (node_at old name) (own_at old name) dirty in
        ⊎_elim
        (λ copying. copying_moves clean received failed new answer copying.0 copying.1)
        (λ alone. room_moves clean received new answer (SettlingRow name pull 2 failed (own_at old name) (node_at old name) old) (λ room. settling_moves clean received 2 failed old new answer old_begun room) alone.1)
        rest)))

  pub finish_moves : CutIsOfOneLength → IsSoundReplica device old → PullsHaveHashes old → (old.kind ≢ SendOnly → Receives) → (name : FileName) (failed : Option ℕ) (new : Replica) (answer : Answer) → FinishRow device name failed old new answer → Moves new
  finish_moves one_length sound hashes receives name failed new answer row =
      or_moves row (λ _ pulled.
      ⊎_elim
      (λ wanted. ending_moves one_length sound hashes receives name pulled.0 pulled.1 wanted.0 failed new answer wanted.1)
      (λ unwanted. where_becomes Moves unwanted.1 (λ other. inl (refl, refl)))
      pulled.2)
