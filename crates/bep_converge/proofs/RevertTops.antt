-- A revert of a name that awaits it lets the top prevail.
use Rattle.std.proofs.Common.{◌≡◌, ◌≢◌, ◌∙◌, ℕ, [], Option, Some, None, true, false, refl, sym, subst, ⊎_elim}
use Rattle.std.proofs.lemmas.Bool.{cases_Bool}
use Rattle.bep_record.specs.declared.entry.Entry.{Entry}
use Rattle.bep_record.specs.declared.node.NodeParts.{NodeParts}
use Rattle.bep_record.specs.declared.folder_kind.FolderKind.{FolderKind}
use Rattle.bep_record.specs.declared.folder_kind.FolderKind.TheVariants.{SendReceive, SendOnly, ReceiveOnly}
use Rattle.bep_record.specs.Content.{Deleted, content_of}
use Rattle.bep_record.specs.Node.{IsClean}
use Rattle.bep_model.specs.Tables.{Device, FileName}
use Rattle.bep_model.proofs.StaysFacts.{not_deleted}
use Rattle.bep_machine.specs.declared.moved.Moved.{Moved}
use Rattle.bep_machine.specs.declared.moved.Moved.TheVariants.{Changed}
use Rattle.bep_machine.specs.declared.step.Step.TheVariants.{Revert}
use Rattle.bep_machine.specs.Answer.{Done}
use Rattle.bep_machine.specs.Cluster.{Cluster}
use Rattle.bep_machine.specs.Effects.{RevertTakesBack, KeepsOtherNames}
use Rattle.bep_machine.specs.Local.{IsLocalOnly, RevertRow, RevertedRow}
use Rattle.bep_machine.specs.Replica.{Replica, own_at, node_at}
use Rattle.bep_machine.specs.Said.{tables_of_cluster}
use Rattle.bep_converge.specs.Prevails.{Prevails, TakesChanges}
use Rattle.bep_converge.specs.Tops.{ChangesAlone, LeavesOthers}
use Rattle.bep_converge.specs.AfterLaws.{RevertLetsIn}
use Rattle.bep_converge.proofs.CleanDecided.{clean_where_not_unclean}
use Rattle.bep_converge.proofs.ChangedAlone.{leaves_others}
use Rattle.bep_converge.proofs.DoneRows.{not_refused, done_row}
use Rattle.bep_converge.proofs.ReplicaAlone.{said_here, said_after, changed, changes_alone}
use Rattle.bep_converge.proofs.ReplicaTops.{own_told, node_told}
use Rattle.bep_converge.proofs.ScanTops.{fits_there}
use Rattle.bep_converge.proofs.TakenBack.{top_prevails}

-- ---- what a revert that was made had

kind_is : (kind : FolderKind) → ¬ (kind ≢ ReceiveOnly) → kind ≡ ReceiveOnly
kind_is ReceiveOnly other = refl
kind_is SendReceive other = absurd (other (λ same. cc))
kind_is SendOnly other = absurd (other (λ same. cc))

local_is : (own : Option Entry) → ¬ (¬ IsLocalOnly own) → (one : Entry) × (own ≡ Some one) × (one.invalid ≡ true)
local_is None local = absurd (local (λ none. none))
local_is (Some one) local = ⊎_elim (λ is. (one, refl, is)) (λ valid. absurd (local (λ is. let both : true ≡ false = sym is ∙ valid in cc))) (cases_Bool one.invalid)

-- two rows of one revert lead to one replica
one_reverted : (device : Device) (name : FileName) (failed : Option ℕ) (own : Option Entry) (before one other : Replica) (moved : Moved) →
    RevertedRow device name None own before one (Done Changed) → RevertedRow device name failed own before other (Done moved) → one ≡ other
one_reverted device name failed None before one other moved row made = absurd row
one_reverted device name failed (Some own) before one other moved row made = (not_refused row).1.0 ∙ sym (not_refused made).1.0

-- what it left
record IsLeft (device : Device) (name : FileName) (before after : Replica) : Type 0 where
  own : Entry
  was : own_at before name ≡ Some own
  local : own.invalid ≡ true
  kind : before.kind ≡ ReceiveOnly
  left : Entry
  recorded : own_at after name ≡ Some left
  gone : node_at after name ≡ None
  content : content_of left ≡ Deleted
  valid : left.invalid ≡ false
  version : left.version ≡ []
  keeps : KeepsOtherNames name before after

revert_left : RevertTakesBack → (device : Device) (name : FileName) (failed : Option ℕ) (before after : Replica) (moved : Moved) → RevertRow device name failed before after (Done moved) → IsLeft device name before after
revert_left takes_back device name failed before after moved row =
    let kinds = not_refused row in
    let marked = not_refused kinds.1 in
    let looked = not_refused marked.1 in
    let scanned = not_refused looked.1 in
    let counted = not_refused scanned.1 in
    let kind = kind_is before.kind kinds.0 in
    let local = local_is (own_at before name) marked.0 in
    let clean = clean_where_not_unclean (node_at before name) (own_at before name) scanned.0 in
    let back = takes_back device name before local.0 kind local.1 local.2 clean counted.0 in
    let rest = (not_refused (not_refused (not_refused (not_refused (not_refused back.2).1).1).1).1).1 in
    let same = one_reverted device name failed (own_at before name) before back.0 after moved rest counted.1 in
    subst (λ (r : Replica). IsLeft device name before r) same
    (record {
      own = local.0;
      was = local.1;
      local = local.2;
      kind = kind;
      left = back.1;
      recorded = back.3;
      gone = back.4;
      content = back.5;
      valid = back.6;
      version = back.7;
      keeps = back.8;
    })

-- ---- the cluster

deleted_is : (left : Entry) → content_of left ≡ Deleted → left.deleted ≡ true
deleted_is left content = ⊎_elim (λ is. is) (λ there. absurd (not_deleted left there content)) (cases_Bool left.deleted)

pub revert_lets_in_lem : RevertTakesBack → RevertLetsIn
revert_lets_in_lem takes_back device folder name failed old new moved top sound awaits made =
    let row = done_row (Revert device folder name) failed old new moved made in
    let before = row.0 in
    let after = row.1 in
    let here = row.2 in
    let left = revert_left takes_back device name failed before after moved row.3 in
    let later = changed old device folder after in
    let was = own_told old device folder name before (said_here old device folder before awaits.shares here) ∙ left.was in
    let said = said_after old device folder after awaits.shares in
    let alone = changes_alone old device folder name before after here left.keeps in
    let gone : (tables_of_cluster later).node device folder name ≡ None = node_told later device folder name after said ∙ left.gone in
    let takes : TakesChanges (tables_of_cluster old) device folder =
    (before.kind, (fits_there old sound device folder awaits.shares before here).kind, λ sends. let both : SendOnly ≡ ReceiveOnly = sym sends ∙ left.kind in cc) in
    let prevails = top_prevails (tables_of_cluster old) (tables_of_cluster later) device folder name alone top awaits left.own was left.local takes left.left
    (record {
      recorded = own_told later device folder name after said ∙ left.recorded;
      valid = left.valid;
      version = left.version;
      content = left.content;
      clean = subst (λ (n : Option NodeParts). IsClean n (Some left.left)) (sym gone) (deleted_is left.left left.content);
      gone = gone;
    }) in
    subst (λ (c : Cluster). Prevails (tables_of_cluster c) folder name top × ChangesAlone (tables_of_cluster old) (tables_of_cluster c) device folder name × LeavesOthers (tables_of_cluster old) (tables_of_cluster c) folder name)
    (sym row.4)
    (prevails, alone, leaves_others (tables_of_cluster old) (tables_of_cluster later) device folder name alone)
