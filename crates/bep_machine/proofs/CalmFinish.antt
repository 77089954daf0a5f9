-- At a calm replica the end of a pull drops it, or takes over the target's time and version; content stays as it was.
use Rattle.std.proofs.Common.{◌≡◌, ◌⊎◌, ◌∙◌, ℕ, ◌+◌, false, List, Option, Some, None, refl, sym, ap, subst, subst₂, inl, inr, ⊎_elim, max, arith}
use Rattle.bep_record.specs.declared.entry.Entry.{Entry}
use Rattle.bep_record.specs.declared.kind.Kind.{Kind}
use Rattle.bep_record.specs.declared.kind.Kind.TheVariants as kinds
use Rattle.bep_record.specs.declared.node.NodeParts.{NodeParts}
use Rattle.bep_record.specs.declared.folder_kind.FolderKind.{FolderKind}
use Rattle.bep_record.specs.Content.{Content, content_of}
use Rattle.bep_record.specs.Laws.{CutIsOfOneLength}
use Rattle.bep_record.specs.Node.{IsClean, LooksSame}
use Rattle.bep_record.specs.Vector.{counter_of, IsAtMost}
use Rattle.bep_choice.specs.Need.{IsNeeded}
use Rattle.bep_index.specs.Index.{numbered}
use Rattle.bep_model.specs.Calm.{content_due, OwnIsCalm, StoreIsCalm, NodeIsCalm, IsCalmBeside, SameFile}
use Rattle.bep_model.specs.Tables.{Device, FileName}
use Rattle.bep_machine.specs.Answer.{Answer}
use Rattle.bep_machine.specs.Replica.{Replica, Pull, own_at, node_at, pull_at, HasContentOf, Wants, with_node, without_pull}
use Rattle.bep_machine.specs.Pull.{FinishRow, EndingRow, SettlingRow, IsStillWanted, IsConflictDue, IsAdopted, EndsWith, timed}
use Rattle.bep_index.specs.Good.{IsGood}
use Rattle.bep_machine.specs.Sound.{IsSoundReplica}
use Rattle.bep_machine.proofs.CalmParts.{IsCalmThere, IsCalmReplica, GoesOn, IsQuietChange}
use Rattle.bep_machine.proofs.CalmRows.{at_answers, at_becomes}
use Rattle.bep_machine.proofs.CalmScan.{same_file, nothing_is_quiet}
use Rattle.bep_machine.proofs.ChoiceFacts.{chosen_is_known, chosen_is_valid, needed_is_newer, own_not_needed}
use Rattle.bep_machine.proofs.ContentFacts.{not_deleted, timed_is_clean}
use Rattle.bep_machine.proofs.ReplicaFacts.{same_name_or_not, target_at_pull, target_says, without_pull_found, with_node_viewed, with_node_here, with_node_apart, ended, own_here, own_apart, target_before_end}

-- ---- what is wanted has the own content

-- beside an own record, what is wanted has its content; without one, it has that of the node, which no scan saw yet
near_where_calm : (reset receives : Type 0) (own : Option Entry) (node : Option NodeParts) (kind : FolderKind) (content : Content) (wanted : Entry) → OwnIsCalm reset receives own content → StoreIsCalm node content → IsNeeded kind own wanted → IsCalmBeside own content wanted → HasContentOf own wanted ⊎ (¬ IsClean node own)
near_where_calm reset receives None None kind content wanted calm holds needed beside = absurd (not_deleted wanted needed.0 (beside ∙ sym holds))
near_where_calm reset receives None (Some held) kind content wanted calm holds needed beside = inr (λ clean. clean)
near_where_calm reset receives (Some own) held kind content wanted calm holds needed beside =
    ⊎_elim
    (λ has. inl (has ∙ sym calm.1))
    (λ below. absurd (needed_is_newer kind own wanted below.0 needed below.1.0))
    beside

wanted_is_near : (reset receives : Type 0) (contents : FileName → Option Content) (device : Device) (old : Replica) (name : FileName) (wanted : Entry) → IsCalmThere reset receives contents old name → Wants device old name wanted → HasContentOf (own_at old name) wanted ⊎ (¬ IsClean (node_at old name) (own_at old name))
wanted_is_near reset receives contents device old name wanted calm wants =
    let valid = chosen_is_valid device old name wanted wants.chosen in
    ⊎_elim
    (λ own. absurd (own_not_needed old.kind (own_at old name) wanted valid own wants.needed))
    (λ viewed.
    near_where_calm reset receives (own_at old name) (node_at old name) old.kind (content_due (contents name)) wanted calm.own calm.store wants.needed
    (calm.elsewhere wanted (inl viewed) valid))
    (chosen_is_known device old name wanted wants.chosen)

content_goes_on : (own : Option Entry) (one other : Entry) → content_of one ≡ content_of other → HasContentOf own one → HasContentOf own other
content_goes_on None one other same has = has
content_goes_on (Some own) one other same has = sym same ∙ has

target_is_near : (reset receives : Type 0) (contents : FileName → Option Content) (device : Device) (old : Replica) (name : FileName) (target : Entry) → IsCalmThere reset receives contents old name → IsStillWanted device old name target → HasContentOf (own_at old name) target ⊎ (¬ IsClean (node_at old name) (own_at old name))
target_is_near reset receives contents device old name target calm wanted =
    ⊎_elim
    (λ has. inl (content_goes_on (own_at old name) wanted.0 target (ap content_of wanted.2) has))
    (λ unclean. inr unclean)
    (wanted_is_near reset receives contents device old name wanted.0 calm wanted.1)

-- where it has the own content, no conflict copy is due, and the bytes stay
no_conflict_due : (own : Option Entry) (target : Entry) → HasContentOf own target → ¬ IsConflictDue own target
no_conflict_due None target has due = due
no_conflict_due (Some own) target has due = due.3 has

pub bytes_stay : (own : Option Entry) (node : Option NodeParts) (pull : Pull) (after : Option NodeParts) → HasContentOf own pull.target → EndsWith own node pull after → after ≡ timed node pull.target
bytes_stay own held pull after has ends = ⊎_elim (λ stays. stays.1) (λ writes. absurd (writes.0 has)) ends

pub timed_is_same_file : (node : Option NodeParts) (target : Entry) → SameFile node (timed node target)
timed_is_same_file None target = tt
timed_is_same_file (Some node) target = (refl, refl, refl)

-- where there is an own record, a calm node is clean, and a clean one is calm
clean_where_own : (own : Option Entry) (node : Option NodeParts) (target : Entry) → HasContentOf own target → NodeIsCalm node own → IsClean node own
clean_where_own None held target has calm = absurd has
clean_where_own (Some own) held target has calm = calm

node_of_clean : (node : Option NodeParts) (own : Option Entry) → IsClean node own → NodeIsCalm node own
node_of_clean held None clean = tt
node_of_clean held (Some own) clean = clean

-- ---- the new record

merge_is_above : (own target version : List (ℕ × ℕ)) → ((id : ℕ) → counter_of version id ≡ max (counter_of own id) (counter_of target id)) → IsAtMost own version
merge_is_above own target version merge id = let m = merge id in omega (arith, m)

adopted_is_successor : (receives : Type 0) (node : Option NodeParts) (own : Option Entry) (target entry : Entry) (sequence : ℕ) (now : Option Entry) → HasContentOf own target → IsAdopted own target entry → now ≡ Some (numbered entry sequence) → GoesOn receives node own now
adopted_is_successor receives held None target entry sequence now has adopted is = absurd has
adopted_is_successor receives held (Some own) target entry sequence now has adopted is =
    inr (inl (
      own,
      numbered entry sequence,
      refl,
      is,
      record {
        valid = ap (λ (e : Entry). e.invalid) adopted.same;
        same = ap content_of adopted.same ∙ has;
        above = subst (λ (version : List (ℕ × ℕ)). IsAtMost own.version version) (sym (ap (λ (e : Entry). e.version) adopted.same)) (merge_is_above own.version target.version adopted.version adopted.merge);
      },
    ))

looks_like_adopted : (kind : Kind) (node : NodeParts) (target : Entry) (version : List (ℕ × ℕ)) (sequence : ℕ) → LooksSame kind node target → LooksSame kind node (numbered (record target { version = version; invalid = false }) sequence)
looks_like_adopted kinds.File node target version sequence looks = looks
looks_like_adopted kinds.Directory node target version sequence looks = looks
looks_like_adopted kinds.Symlink node target version sequence looks = looks

pub clean_against_adopted : (node : Option NodeParts) (target : Entry) (version : List (ℕ × ℕ)) (sequence : ℕ) → IsClean node (Some target) → IsClean node (Some (numbered (record target { version = version; invalid = false }) sequence))
clean_against_adopted None target version sequence clean = clean
clean_against_adopted (Some node) target version sequence clean = (clean.0, clean.1, looks_like_adopted node.kind node target version sequence clean.2)

abbrev pub FinishIsQuiet : Type 1
FinishIsQuiet = (reset receives : Type 0) (contents : FileName → Option Content) (device : Device) (name : FileName) (failed : Option ℕ) (old new : Replica) (answer : Answer) →
    IsSoundReplica device old → IsCalmReplica reset receives contents old → FinishRow device name failed old new answer → IsQuietChange receives old new

module _ (one_length : CutIsOfOneLength) where
  pub timed_is_clean_there : (own : Option Entry) (node : Option NodeParts) (target : Entry) → ((entry : Entry) → own ≡ Some entry → IsGood entry) → IsGood target → HasContentOf own target → IsClean node own → IsClean (timed node target) (Some target)
  timed_is_clean_there None held target good too has clean = absurd has
  timed_is_clean_there (Some own) held target good too has clean = timed_is_clean one_length held own target (good own refl).formed too.formed has clean

  adopted_is_clean : (own now : Option Entry) (node after : Option NodeParts) (target entry : Entry) (sequence : ℕ) → ((e : Entry) → own ≡ Some e → IsGood e) → IsGood target → HasContentOf own target → IsClean node own → IsAdopted own target entry → after ≡ timed node target → now ≡ Some (numbered entry sequence) → IsClean after now
  adopted_is_clean own now node after target entry sequence good too has clean adopted written is =
      let taken = clean_against_adopted (timed node target) target adopted.version sequence (timed_is_clean_there own node target good too has clean) in
      let put : IsClean (timed node target) (Some (numbered entry sequence)) = subst (λ (e : Entry). IsClean (timed node target) (Some (numbered e sequence))) (sym adopted.same) taken in
      subst₂ (λ (n : Option NodeParts) (o : Option Entry). IsClean n o) (sym written) (sym is) put

  -- ---- the replica afterwards

  -- where the target has the own content, its record takes the own one's place
  adopted_is_quiet : (reset receives : Type 0) (contents : FileName → Option Content) (device : Device) (name : FileName) (old : Replica) (pull : Pull) (after : Option NodeParts) (entry : Entry) → IsSoundReplica device old → IsCalmReplica reset receives contents old → pull_at old name ≡ Some pull → HasContentOf (own_at old name) pull.target → after ≡ timed (node_at old name) pull.target → IsAdopted (own_at old name) pull.target entry → IsQuietChange receives old (ended old name after entry)
  adopted_is_quiet reset receives contents device name old pull after entry sound calm is has written adopted =
      let named : entry.name ≡ name = ap (λ (e : Entry). e.name) adopted.same ∙ (sound.pulls name pull is).named in
      let here = own_here old name after entry named in
      let apart = own_apart old name after entry named in
      let number = (with_node old name after).index.sequence + 1 in
      let node = with_node_here old name after in
      record {
        own = λ other.
            ⊎_elim
            (λ same.
            subst (λ (n : FileName). GoesOn receives (node_at old n) (own_at old n) (own_at (ended old name after entry) n)) (sym same)
            (adopted_is_successor receives (node_at old name) (own_at old name) pull.target entry number (own_at (ended old name after entry) name) has adopted here))
            (λ differs. inl (apart other differs))
            (same_name_or_not other name);
        file = λ other.
            ⊎_elim
            (λ same.
            subst (λ (n : FileName). SameFile (node_at old n) (node_at (ended old name after entry) n)) (sym same)
            (subst (λ (n : Option NodeParts). SameFile (node_at old name) n) (sym (node ∙ written)) (timed_is_same_file (node_at old name) pull.target)))
            (λ differs. subst (λ (n : Option NodeParts). SameFile (node_at old other) n) (sym (with_node_apart old name after other differs)) (same_file (node_at old other)))
            (same_name_or_not other name);
        clean = λ other.
            ⊎_elim
            (λ same.
            subst (λ (n : FileName). NodeIsCalm (node_at (ended old name after entry) n) (own_at (ended old name after entry) n)) (sym same)
            (node_of_clean _ _
            (adopted_is_clean (own_at old name) (own_at (ended old name after entry) name) (node_at old name) (node_at (ended old name after entry) name) pull.target entry number
            (sound.own name) (sound.pulls name pull is).good has (clean_where_own (own_at old name) (node_at old name) pull.target has (calm name).node) adopted (node ∙ written) here)))
            (λ differs.
            subst₂ (λ (n : Option NodeParts) (o : Option Entry). NodeIsCalm n o) (sym (with_node_apart old name after other differs)) (sym (apart other differs)) (calm other).node)
            (same_name_or_not other name);
        viewed = λ from other. with_node_viewed old name after from other;
        target = λ other target found. inr (target_before_end old name after entry named other target found);
      }

  dropped_is_quiet : (reset receives : Type 0) (contents : FileName → Option Content) (old : Replica) (name : FileName) → IsCalmReplica reset receives contents old → IsQuietChange receives old (without_pull old name)
  dropped_is_quiet reset receives contents old name calm = record {
    own = λ other. inl refl;
    file = λ other. same_file (node_at old other);
    clean = λ other. (calm other).node;
    viewed = λ from other. refl;
    target = λ other target is.
        let found = target_says (pull_at (without_pull old name) other) target is in
        inr (target_at_pull old other found.0 (without_pull_found old name other found.0 found.1) ∙ ap (λ (e : Entry). Some e) found.2);
  }

  settling_is_quiet : (reset receives : Type 0) (contents : FileName → Option Content) (device : Device) (name : FileName) (call : ℕ) (failed : Option ℕ) (old new : Replica) (answer : Answer) (pull : Pull) → IsSoundReplica device old → IsCalmReplica reset receives contents old → pull_at old name ≡ Some pull → HasContentOf (own_at old name) pull.target → SettlingRow name pull call failed (own_at old name) (node_at old name) old new answer → IsQuietChange receives old new
  settling_is_quiet reset receives contents device name call failed old new answer pull sound calm is has row =
      let stays = nothing_is_quiet reset receives contents old calm in
      ⊎_elim
      (λ memory. at_becomes (IsQuietChange receives old) memory stays)
      (λ called.
      at_answers (IsQuietChange receives old) called.2 stays
      (λ _ put.
      at_becomes (IsQuietChange receives old) put.2
      (adopted_is_quiet reset receives contents device name old pull called.0 put.0 sound calm is has (bytes_stay (own_at old name) (node_at old name) pull called.0 has called.1) put.1)))
      row

  ending_is_quiet : (reset receives : Type 0) (contents : FileName → Option Content) (device : Device) (name : FileName) (failed : Option ℕ) (old new : Replica) (answer : Answer) (pull : Pull) → IsSoundReplica device old → IsCalmReplica reset receives contents old → pull_at old name ≡ Some pull → HasContentOf (own_at old name) pull.target ⊎ (¬ IsClean (node_at old name) (own_at old name)) → EndingRow name pull failed old new answer → IsQuietChange receives old new
  ending_is_quiet reset receives contents device name failed old new answer pull sound calm is near row =
      let stays = nothing_is_quiet reset receives contents old calm in
      at_answers (IsQuietChange receives old) row stays
      (λ _ received.
      at_answers (IsQuietChange receives old) received stays
      (λ _ looked.
      at_answers (IsQuietChange receives old) looked stays
      (λ not_unclean scanned.
      ⊎_elim
      (λ has.
      ⊎_elim
      (λ copying. absurd (no_conflict_due (own_at old name) pull.target has copying.0))
      (λ alone.
      at_answers (IsQuietChange receives old) alone.1 stays
      (λ _ few.
      at_answers (IsQuietChange receives old) few stays
      (λ _ counted.
      at_answers (IsQuietChange receives old) counted stays
      (λ _ room. settling_is_quiet reset receives contents device name 2 failed old new answer pull sound calm is has room))))
      scanned)
      (λ unclean. absurd (not_unclean unclean))
      near)))

  pub finish_is_quiet : FinishIsQuiet
  finish_is_quiet reset receives contents device name failed old new answer sound calm row =
      at_answers (IsQuietChange receives old) row (nothing_is_quiet reset receives contents old calm)
      (λ _ pulled.
      ⊎_elim
      (λ wanted. ending_is_quiet reset receives contents device name failed old new answer pulled.0 sound calm pulled.1 (target_is_near reset receives contents device old name pulled.0.target (calm name) wanted.0) wanted.1)
      (λ unwanted. at_becomes (IsQuietChange receives old) unwanted.1 (dropped_is_quiet reset receives contents old name calm))
      pulled.2)
