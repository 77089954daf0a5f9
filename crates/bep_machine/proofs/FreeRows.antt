-- What a scan, the beginning of a pull and its end change of a replica, they have leave to change.
use Rattle.std.proofs.Common.{◌≡◌, ◌≢◌, ◌⊎◌, ◌∙◌, ℕ, List, Option, Some, None, option_map, refl, sym, ap, subst, inl, inr, ⊎_elim}
use Rattle.std.proofs.lemmas.Bool.{cases_Bool}
use Rattle.bep_record.specs.declared.entry.Entry.{Entry}
use Rattle.bep_record.specs.declared.node.NodeParts.{NodeParts}
use Rattle.bep_record.specs.declared.folder_kind.FolderKind.{FolderKind}
use Rattle.bep_record.specs.declared.folder_kind.FolderKind.TheVariants.{SendReceive, SendOnly, ReceiveOnly}
use Rattle.bep_record.specs.Node.{IsClean}
use Rattle.bep_choice.specs.Need.{IsNeeded}
use Rattle.bep_model.specs.Tables.{Device, FileName}
use Rattle.bep_model.specs.Free.{IsNews}
use Rattle.bep_machine.specs.Answer.{Answer, Row, becomes}
use Rattle.bep_machine.specs.Replica.{Replica, Pull, own_at, node_at, pull_at, Wants, with_record, with_node, without_pull}
use Rattle.bep_machine.specs.Local.{ScanRow, FoundRow, PutRow, Finds}
use Rattle.bep_machine.specs.Pull.{StartPullRow, FinishRow, EndingRow, CopyingRow, SettlingRow, RoomRow, copy_name}
use Rattle.bep_machine.specs.Sound.{IsSoundReplica}
use Rattle.bep_machine.proofs.CalmMoves.{ElsewhereIn}
use Rattle.bep_machine.proofs.CalmPull.{needed_is_viewed, target_before}
use Rattle.bep_machine.proofs.CalmRows.{CopiedRow, at_answers, at_becomes}
use Rattle.bep_machine.proofs.ChoiceFacts.{chosen_is_valid, needed_is_newer}
use Rattle.bep_machine.proofs.FreePlaces.{HasNews, IsFreePlace, free_where_same}
use Rattle.bep_machine.proofs.ReplicaFacts.{same_name_or_not, with_record_apart, with_node_own, with_node_viewed, with_node_pull, target_says, target_at_pull, without_pull_found, ended, own_apart, target_before_end}

-- a record that is needed is news
is_news : (kind : FolderKind) (own : Option Entry) (chosen : Entry) → IsNeeded kind own chosen → IsNews own chosen
is_news kind None chosen needed = needed.0
is_news kind (Some own) chosen needed =
    ⊎_elim (λ local. inl local) (λ valid. inr (needed_is_newer kind own chosen valid needed)) (cases_Bool own.invalid)

-- so where a record is wanted there is news
news_of_wanted : (device : Device) (old : Replica) (name : FileName) (wanted : Entry) → Wants device old name wanted → HasNews (Some old) name
news_of_wanted device old name wanted wants = record {
  entry = wanted;
  had = needed_is_viewed device old name wanted wants.chosen (λ no. no wants.needed);
  valid = chosen_is_valid device old name wanted wants.chosen;
  news = is_news old.kind (own_at old name) wanted wants.needed;
}

-- what a scan finds it records under the name
finds_named : (device : Device) (name : FileName) (node : Option NodeParts) (own : Option Entry) (version : List (ℕ × ℕ)) (entry : Entry) → Finds device name node own version entry → entry.name ≡ name
finds_named device name (Some node) own version entry finds = ap (λ (e : Entry). e.name) finds
finds_named device name None (Some own) version entry finds = ap (λ (e : Entry). e.name) finds
finds_named device name None None version entry finds = absurd finds

module _ (Comes : FileName → Entry → Type 0) where
  abbrev pub IsFreeChange : Replica → Replica → Type 0
  IsFreeChange old new = IsFreePlace Comes (Some old) (Some new)

  -- where a line of a row refuses, all stays
  or_free : {old new : Replica} {given answer : Answer} {condition R : Type 0} → (condition × becomes old given new answer) ⊎ ((¬ condition) × R) → ((¬ condition) → R → IsFreeChange old new) → IsFreeChange old new
  or_free {old} row rest = at_answers (IsFreeChange old) row (free_where_same Comes (Some old)) rest

  -- ---- scanning

  recorded : (old : Replica) (name : FileName) (entry : Entry) → entry.name ≡ name → ¬ IsClean (node_at old name) (own_at old name) → IsFreeChange old (with_record old entry)
  recorded old name entry named unclean = record {
    own = λ other.
        ⊎_elim
        (λ same. inr (inl (subst (λ (n : FileName). ¬ IsClean (node_at old n) (own_at old n)) (sym same) unclean)))
        (λ apart. inl (with_record_apart old entry other (λ same. apart (same ∙ named))))
        (same_name_or_not other name);
    node = λ other. inl refl;
    elsewhere = λ other record_there has. inl has;
  }

  put_is_free : {old new : Replica} {answer : Answer} (name : FileName) (IsNew : Entry → Type 0) → ((entry : Entry) → IsNew entry → entry.name ≡ name) → ¬ IsClean (node_at old name) (own_at old name) → PutRow name IsNew old new answer → IsFreeChange old new
  put_is_free {old} name IsNew named unclean row =
      or_free row (λ _ counted. or_free counted (λ _ put. at_becomes (IsFreeChange old) put.2 (recorded old name put.0 (named put.0 put.1) unclean)))

  found_is_free : (kind : FolderKind) (device : Device) (name : FileName) (old new : Replica) (answer : Answer) → ¬ IsClean (node_at old name) (own_at old name) → FoundRow kind device name old new answer → IsFreeChange old new
  found_is_free ReceiveOnly device name old new answer unclean row =
      put_is_free name _ (λ entry new. ap (λ (e : Entry). e.name) new.2 ∙ finds_named device name (node_at old name) (own_at old name) _ new.0 new.1) unclean row
  found_is_free SendReceive device name old new answer unclean row =
      or_free row (λ _ few. or_free few (λ _ put. put_is_free name _ (λ entry new. finds_named device name (node_at old name) (own_at old name) new.0 entry new.2) unclean put))
  found_is_free SendOnly device name old new answer unclean row =
      or_free row (λ _ few. or_free few (λ _ put. put_is_free name _ (λ entry new. finds_named device name (node_at old name) (own_at old name) new.0 entry new.2) unclean put))

  pub scan_is_free : (device : Device) (name : FileName) (failed : Option ℕ) (old new : Replica) (answer : Answer) → IsSoundReplica device old → ScanRow device name failed old new answer → IsFreeChange old new
  scan_is_free device name failed old new answer sound row =
      or_free row (λ _ looked. or_free looked (λ unclean found. found_is_free old.kind device name old new answer unclean found))

  -- ---- the beginning of a pull

  pub start_pull_is_free : (device : Device) (name : FileName) (old new : Replica) (answer : Answer) → IsSoundReplica device old → StartPullRow device name old new answer → IsFreeChange old new
  start_pull_is_free device name old new answer sound row =
      or_free row
      (λ _ chosen.
      or_free chosen.2
      (λ _ needed.
      or_free needed
      (λ not_none full.
      or_free full
      (λ _ begun.
      at_becomes (IsFreeChange old) begun
      (record {
        own = λ other. inl refl;
        node = λ other. inl refl;
        elsewhere = λ other entry has.
            inl
            (⊎_elim
            (λ viewed. inl viewed)
            (λ target. target_before old name chosen.0 (needed_is_viewed device old name chosen.0 chosen.1 not_none) other entry target)
            has);
      })))))

  -- ---- the end of a pull

  -- a replica with the same records, of its own and of others
  record IsAlike (old start : Replica) : Type 0 where
    own : (other : FileName) → own_at start other ≡ own_at old other
    had : (other : FileName) (entry : Entry) → ElsewhereIn (Some start) other entry → ElsewhereIn (Some old) other entry

  alike : (old : Replica) → IsAlike old old
  alike old = record { own = λ other. refl; had = λ other entry has. has }

  with_node_had : (start : Replica) (name : FileName) (node : Option NodeParts) (other : FileName) (entry : Entry) → ElsewhereIn (Some (with_node start name node)) other entry → ElsewhereIn (Some start) other entry
  with_node_had start name node other entry has =
      ⊎_elim
      (λ viewed. inl (viewed.0, sym (with_node_viewed start name node viewed.0 other) ∙ viewed.1))
      (λ target. inr (sym (ap (option_map (λ (pull : Pull). pull.target)) (with_node_pull start name node other)) ∙ target))
      has

  with_node_alike : (old : Replica) (name : FileName) (node : Option NodeParts) → IsAlike old (with_node old name node)
  with_node_alike old name node = record { own = with_node_own old name node; had = with_node_had old name node }

  ended_had : (start : Replica) (name : FileName) (after : Option NodeParts) (put : Entry) → put.name ≡ name → (other : FileName) (entry : Entry) → ElsewhereIn (Some (ended start name after put)) other entry → ElsewhereIn (Some start) other entry
  ended_had start name after put named other entry has =
      ⊎_elim
      (λ viewed. inl (viewed.0, sym (with_node_viewed start name after viewed.0 other) ∙ viewed.1))
      (λ target. inr (target_before_end start name after put named other entry target))
      has

  -- with news of the name, its record may change, and every file
  module _ (old : Replica) (name : FileName) (news : HasNews (Some old) name) where
    free_with_news : (new : Replica) → ((other : FileName) → other ≢ name → own_at new other ≡ own_at old other) → ((other : FileName) (entry : Entry) → ElsewhereIn (Some new) other entry → ElsewhereIn (Some old) other entry) → IsFreeChange old new
    free_with_news new own had = record {
      own = λ other.
          ⊎_elim
          (λ same. inr (inr (subst (λ (n : FileName). HasNews (Some old) n) (sym same) news)))
          (λ apart. inl (own other apart))
          (same_name_or_not other name);
      node = λ other. inr (name, news);
      elsewhere = λ other entry has. inl (had other entry has);
    }

    alike_is_free : (start : Replica) → IsAlike old start → IsFreeChange old start
    alike_is_free start same = free_with_news start (λ other apart. same.own other) same.had

    settling_is_free : (pull : Pull) (call : ℕ) (failed : Option ℕ) (own : Option Entry) (held : Option NodeParts) (start new : Replica) (answer : Answer) → pull.target.name ≡ name → IsAlike old start → SettlingRow name pull call failed own held start new answer → IsFreeChange old new
    settling_is_free pull call failed own held start new answer named same row =
        ⊎_elim
        (λ memory. at_becomes (IsFreeChange old) memory (alike_is_free start same))
        (λ called.
        at_answers (IsFreeChange old) called.2 (alike_is_free start same)
        (λ _ put.
        let put_named : put.0.name ≡ name = ap (λ (e : Entry). e.name) put.1.same ∙ named in
        at_becomes (IsFreeChange old) put.2
        (free_with_news (ended start name called.0 put.0)
        (λ other apart. own_apart start name called.0 put.0 put_named other apart ∙ same.own other)
        (λ other entry has. same.had other entry (ended_had start name called.0 put.0 put_named other entry has)))))
        row

    room_is_free : (own : Option Entry) (target : Entry) (new : Replica) (answer : Answer) (rest : Row Replica) → (rest new answer → IsFreeChange old new) → RoomRow name own target old rest new answer → IsFreeChange old new
    room_is_free own target new answer rest free row = or_free row (λ _ few. or_free few (λ _ counted. or_free counted (λ _ room. free room)))

    copied_is_free : (pull : Pull) (failed : Option ℕ) (own : Option Entry) (held : Option NodeParts) (new : Replica) (answer : Answer) → pull.target.name ≡ name → CopiedRow name pull failed own held old new answer → IsFreeChange old new
    copied_is_free pull failed own held new answer named row =
        ⊎_elim
        (λ writes. or_free writes.1 (λ _ copied. settling_is_free pull 4 failed own held (with_node old (copy_name own) held) new answer named (with_node_alike old (copy_name own) held) copied))
        (λ there. settling_is_free pull 3 failed own held old new answer named (alike old) there.1)
        row

    copying_is_free : (pull : Pull) (failed : Option ℕ) (own : Option Entry) (held : Option NodeParts) (new : Replica) (answer : Answer) → pull.target.name ≡ name → CopyingRow name pull failed own held old new answer → IsFreeChange old new
    copying_is_free pull failed own held new answer named row =
        or_free row (λ _ fits. or_free fits (λ _ looked. or_free looked (λ _ free.
        room_is_free own pull.target new answer (CopiedRow name pull failed own held old) (λ room. copied_is_free pull failed own held new answer named room) free)))

    ending_is_free : (pull : Pull) (failed : Option ℕ) (new : Replica) (answer : Answer) → pull.target.name ≡ name → EndingRow name pull failed old new answer → IsFreeChange old new
    ending_is_free pull failed new answer named row =
        or_free row (λ _ received. or_free received (λ _ looked. or_free looked (λ _ scanned.
        ⊎_elim
        (λ copying. copying_is_free pull failed (own_at old name) (node_at old name) new answer named copying.1)
        (λ alone.
        room_is_free (own_at old name) pull.target new answer (SettlingRow name pull 2 failed (own_at old name) (node_at old name) old)
        (λ room. settling_is_free pull 2 failed (own_at old name) (node_at old name) old new answer named (alike old) room) alone.1)
        scanned)))

  dropped : (old : Replica) (name : FileName) → IsFreeChange old (without_pull old name)
  dropped old name = record {
    own = λ other. inl refl;
    node = λ other. inl refl;
    elsewhere = λ other entry has.
        inl
        (⊎_elim
        (λ viewed. inl viewed)
        (λ target.
        let found = target_says (pull_at (without_pull old name) other) entry target in
        inr (target_at_pull old other found.0 (without_pull_found old name other found.0 found.1) ∙ ap (λ (e : Entry). Some e) found.2))
        has);
  }

  pub finish_is_free : (device : Device) (name : FileName) (failed : Option ℕ) (old new : Replica) (answer : Answer) → IsSoundReplica device old → FinishRow device name failed old new answer → IsFreeChange old new
  finish_is_free device name failed old new answer sound row =
      or_free row (λ _ pulled.
      ⊎_elim
      (λ wanted.
      ending_is_free old name (news_of_wanted device old name wanted.0.0 wanted.0.1) pulled.0 failed new answer (sound.pulls name pulled.0 pulled.1).named wanted.1)
      (λ unwanted. at_becomes (IsFreeChange old) unwanted.1 (dropped old name))
      pulled.2)
