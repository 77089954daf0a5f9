-- A scan of a calm replica changes nothing where there is an own record, and else records what is there.
use Rattle.std.proofs.Common.{◌≡◌, ◌⊎◌, ℕ, ◌+◌, false, true, List, Option, Some, None, refl, sym, subst, inl, inr, ⊎_elim}
use Rattle.bep_record.specs.declared.entry.Entry.{Entry}
use Rattle.bep_record.specs.declared.node.NodeParts.{NodeParts}
use Rattle.bep_record.specs.declared.folder_kind.FolderKind.{FolderKind}
use Rattle.bep_record.specs.declared.folder_kind.FolderKind.TheVariants.{SendReceive, SendOnly, ReceiveOnly}
use Rattle.bep_record.specs.Content.{Content}
use Rattle.bep_record.specs.Node.{IsClean}
use Rattle.bep_index.specs.Index.{numbered}
use Rattle.bep_model.specs.Tables.{Device, FileName}
use Rattle.bep_model.specs.Calm.{NodeIsCalm, SameFile}
use Rattle.bep_machine.specs.Answer.{Answer, becomes}
use Rattle.bep_machine.specs.Replica.{Replica, own_at, node_at, version_of, with_record}
use Rattle.bep_machine.specs.Local.{ScanRow, FoundRow, IsRaised, Finds}
use Rattle.bep_machine.specs.Sound.{IsSoundReplica}
use Rattle.bep_machine.specs.Effects.{HasRecorded}
use Rattle.bep_machine.proofs.CalmParts.{IsCalmReplica, GoesOn, IsQuietChange}
use Rattle.bep_machine.proofs.CalmRows.{at_answers, at_becomes}
use Rattle.bep_machine.proofs.ReplicaFacts.{same_name_or_not}
use Rattle.bep_machine.proofs.ScanEffect.{found_says, recorded, recorded_as_is}

pub same_file : (node : Option NodeParts) → SameFile node node
same_file None = tt
same_file (Some node) = (refl, refl, refl)

-- to change nothing is a quiet change
pub nothing_is_quiet : (reset receives : Type 0) (contents : FileName → Option Content) (old : Replica) → IsCalmReplica reset receives contents old → IsQuietChange receives old old
nothing_is_quiet reset receives contents old calm = record {
  own = λ name. inl refl;
  file = λ name. same_file (node_at old name);
  clean = λ name. (calm name).node;
  viewed = λ other name. refl;
  target = λ name entry is. inr is;
}

module _ (reset receives : Type 0) (contents : FileName → Option Content) (device : Device) (name : FileName) (old : Replica) (calm : IsCalmReplica reset receives contents old) (unclean : ¬ IsClean (node_at old name) (own_at old name)) where
  -- only a name without a record isn't clean
  none_where_unclean : own_at old name ≡ None
  none_where_unclean = by_own (own_at old name) (calm name).node unclean
    where
      by_own : (own : Option Entry) → NodeIsCalm (node_at old name) own → ¬ IsClean (node_at old name) own → own ≡ None
      by_own None node unclean = refl
      by_own (Some own) node unclean = absurd (unclean node)

  first_is_quiet : (put entry : Entry) → HasRecorded device name old (with_record old put) entry → (entry.invalid ≡ false) ⊎ receives → IsQuietChange receives old (with_record old put)
  first_is_quiet put entry has valid = record {
    own = λ other.
        ⊎_elim
        (λ same.
        subst (λ (n : FileName). GoesOn receives (node_at old n) (own_at old n) (own_at (with_record old put) n)) (sym same)
        (inr (inr (
          entry,
          none_where_unclean,
          has.own,
          record {
            valid = valid;
            same = has.content;
            unclean = λ clean. unclean (subst (λ (own : Option Entry). IsClean (node_at old name) own) (sym none_where_unclean) clean);
          },
        ))))
        (λ apart. inl (has.others other apart))
        (same_name_or_not other name);
    file = λ other. same_file (node_at old other);
    clean = λ other.
        ⊎_elim
        (λ same.
        subst (λ (n : FileName). NodeIsCalm (node_at old n) (own_at (with_record old put) n)) (sym same)
        (subst (λ (own : Option Entry). NodeIsCalm (node_at old name) own) (sym has.own) has.clean))
        (λ apart. subst (λ (own : Option Entry). NodeIsCalm (node_at old other) own) (sym (has.others other apart)) (calm other).node)
        (same_name_or_not other name);
    viewed = λ other at. refl;
    target = λ other target is. inr is;
  }

  -- where a line of a row refuses, all stays
  or_stays : {new : Replica} {given answer : Answer} {condition R : Type 0} → (condition × becomes old given new answer) ⊎ ((¬ condition) × R) → (R → IsQuietChange receives old new) → IsQuietChange receives old new
  or_stays row rest = at_answers (IsQuietChange receives old) row (nothing_is_quiet reset receives contents old calm) (λ _ passed. rest passed)

  raised_is_quiet : (new : Replica) (answer : Answer) → FoundRow SendReceive device name old new answer → IsQuietChange receives old new
  raised_is_quiet new answer row =
      or_stays row (λ few. or_stays few (λ numbers. or_stays numbers (λ room. or_stays room (λ put.
      at_becomes (IsQuietChange receives old) put.2 (raised put.0 put.1)))))
    where
      raised : (entry : Entry) → (version : List (ℕ × ℕ)) × IsRaised device (version_of (own_at old name)) version × Finds device name (node_at old name) (own_at old name) version entry → IsQuietChange receives old (with_record old entry)
      raised entry (version, raises, finds) =
          let says = found_says device name (node_at old name) (own_at old name) version entry unclean finds in
          first_is_quiet entry (numbered entry (old.index.sequence + 1)) (recorded_as_is device name old version entry says) (inl says.valid)

  marked_is_quiet : (new : Replica) (answer : Answer) → receives → FoundRow ReceiveOnly device name old new answer → IsQuietChange receives old new
  marked_is_quiet new answer only row = or_stays row (λ numbers. or_stays numbers (λ put. at_becomes (IsQuietChange receives old) put.2 (marked put.0 put.1)))
    where
      marked : (entry : Entry) → (found : Entry) × Finds device name (node_at old name) (own_at old name) (version_of (own_at old name)) found × (entry ≡ record found { invalid = true }) → IsQuietChange receives old (with_record old entry)
      marked entry (found, finds, is) =
          let says = found_says device name (node_at old name) (own_at old name) (version_of (own_at old name)) found unclean finds in
          subst (λ (e : Entry). IsQuietChange receives old (with_record old e)) (sym is)
          (first_is_quiet (record found { invalid = true }) (numbered (record found { invalid = true }) (old.index.sequence + 1)) (recorded device name old (version_of (own_at old name)) found true says) (inr only))

  found_is_quiet : (kind : FolderKind) (new : Replica) (answer : Answer) → (kind ≡ ReceiveOnly → receives) → FoundRow kind device name old new answer → IsQuietChange receives old new
  found_is_quiet ReceiveOnly new answer only row = marked_is_quiet new answer (only refl) row
  found_is_quiet SendReceive new answer only row = raised_is_quiet new answer row
  found_is_quiet SendOnly new answer only row = raised_is_quiet new answer row

abbrev pub ScanIsQuiet : Type 1
ScanIsQuiet = (reset receives : Type 0) (contents : FileName → Option Content) (device : Device) (name : FileName) (failed : Option ℕ) (old new : Replica) (answer : Answer) →
    (old.kind ≡ ReceiveOnly → receives) → IsSoundReplica device old → IsCalmReplica reset receives contents old → ScanRow device name failed old new answer → IsQuietChange receives old new

pub scan_is_quiet : ScanIsQuiet
scan_is_quiet reset receives contents device name failed old new answer only sound calm row =
    let stays = nothing_is_quiet reset receives contents old calm in
    at_answers (IsQuietChange receives old) row stays
    (λ _ rest. at_answers (IsQuietChange receives old) rest stays (λ unclean found. found_is_quiet reset receives contents device name old calm unclean old.kind new answer only found))
