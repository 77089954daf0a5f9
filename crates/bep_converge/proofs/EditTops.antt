-- An edit and then a scan, as `touch` is, make a record that prevails.
use Rattle.std.proofs.Common.{◌≡◌, ◌∙◌, ℕ, Option, Some, refl, sym, ap, subst, inr}
use Rattle.std.specs.FinMap.{get}
use Rattle.bep_record.specs.declared.entry.Entry.{Entry}
use Rattle.bep_record.specs.declared.kind.Kind.{Kind}
use Rattle.bep_record.specs.declared.kind.Kind.TheVariants.{File}
use Rattle.bep_record.specs.declared.node.NodeParts.{NodeParts}
use Rattle.bep_record.specs.Content.{Content}
use Rattle.bep_record.specs.Node.{IsClean, LooksSame}
use Rattle.bep_store.specs.Store.{at_time}
use Rattle.bep_model.specs.Tables.{Tables, Device, Folder, FileName}
use Rattle.bep_model.specs.Settled.{content_of_node}
use Rattle.bep_machine.specs.declared.moved.Moved.{Moved}
use Rattle.bep_machine.specs.declared.step.Step.TheVariants.{Edit}
use Rattle.bep_machine.specs.Answer.{Done}
use Rattle.bep_machine.specs.Cluster.{Cluster}
use Rattle.bep_machine.specs.Effects.{EditPuts, HasPut, KeepsOtherNames}
use Rattle.bep_machine.specs.Laws.{StepsKeepSound}
use Rattle.bep_machine.specs.Local.{EditRow}
use Rattle.bep_machine.specs.Replica.{Replica, own_at, version_of}
use Rattle.bep_machine.specs.Said.{tables_of_cluster}
use Rattle.bep_converge.specs.Awaits.{AwaitsRecord, AwaitsScan}
use Rattle.bep_converge.specs.Tops.{ChangesAlone, MakesTop}
use Rattle.bep_converge.specs.AfterLaws.{RecordsChanges, ScanMakesTop, EditMakesTop, TouchIsSeen}
use Rattle.bep_converge.proofs.ChangedAlone.{awaits_still, leaves_others}
use Rattle.bep_converge.proofs.DoneRows.{not_refused, done_row, none_failed}
use Rattle.bep_converge.proofs.ReplicaAlone.{said_here, said_after, changed, changes_alone}
use Rattle.bep_converge.proofs.ReplicaTops.{own_told, node_told}

-- ---- two changes of one name

alone_through : (first second third : Tables) (device : Device) (folder : Folder) (name : FileName) → ChangesAlone first second device folder name → ChangesAlone second third device folder name → ChangesAlone first third device folder name
alone_through first second third device folder name one two = record {
  sharing = λ any. two.sharing any ∙ one.sharing any;
  own = λ other any at apart. two.own other any at apart ∙ one.own other any at apart;
  node = λ other any at apart. two.node other any at apart ∙ one.node other any at apart;
  viewed = λ this other any at. two.viewed this other any at ∙ one.viewed this other any at;
  target = λ this any at. two.target this any at ∙ one.target this any at;
  flying = λ sender receiver. two.flying sender receiver ∙ one.flying sender receiver;
}

-- ---- the edit

edit_put : EditPuts → (name : FileName) (node : NodeParts) (failed : Option ℕ) (before after : Replica) (moved : Moved) → EditRow name node failed before after (Done moved) → HasPut name (Some node) before after
edit_put puts name node failed before after moved row =
    let made = (not_refused row).1 in
    let put = puts name node before in
    let same = (put.only after (Done moved) (inr (none_failed 1, made))).0 in
    subst (λ (r : Replica). HasPut name (Some node) before r) (sym same) put.fits

put_keeps : (name : FileName) (node : NodeParts) (before after : Replica) → HasPut name (Some node) before after → KeepsOtherNames name before after
put_keeps name node before after put = record {
  records = λ other apart. ap (λ (r : Replica). own_at r other) put.rest;
  files = put.others;
  pulls = ap (λ (r : Replica). r.pulls) put.rest;
  views = ap (λ (r : Replica). r.views) put.rest;
}

-- ---- the cluster

module _ (puts : EditPuts) (device : Device) (folder : Folder) (name : FileName) (node : NodeParts) (old : Cluster)
    (unclean : ¬ IsClean (Some node) ((tables_of_cluster old).own device folder name))
    (awaits : AwaitsRecord (tables_of_cluster old) device folder name (version_of ((tables_of_cluster old).own device folder name)) (Some node))
    (before after : Replica) (here : get (old.peer device).replicas folder ≡ Some before) (put : HasPut name (Some node) before after) where
  abbrev edited : Cluster
  edited = changed old device folder after

  edit_alone : ChangesAlone (tables_of_cluster old) (tables_of_cluster edited) device folder name
  edit_alone = changes_alone old device folder name before after here (put_keeps name node before after put)

  own_edited : (tables_of_cluster edited).own device folder name ≡ (tables_of_cluster old).own device folder name
  own_edited =
      own_told (changed old device folder after) device folder name after (said_after old device folder after awaits.shares) ∙ ap (λ (r : Replica). own_at r name) put.rest
      ∙ sym (own_told old device folder name before (said_here old device folder before awaits.shares here))

  node_edited : (tables_of_cluster edited).node device folder name ≡ Some node
  node_edited = node_told (changed old device folder after) device folder name after (said_after old device folder after awaits.shares) ∙ put.here

  edit_awaits : AwaitsScan (tables_of_cluster edited) device folder name
  edit_awaits =
      subst (λ (o : Option Entry). (¬ IsClean ((tables_of_cluster edited).node device folder name) o) × AwaitsRecord (tables_of_cluster edited) device folder name (version_of o) ((tables_of_cluster edited).node device folder name) →
      AwaitsScan (tables_of_cluster edited) device folder name) own_edited
      (λ parts. record { unclean = parts.0; awaits = parts.1 }) (
        subst (λ (n : Option NodeParts). ¬ IsClean n ((tables_of_cluster old).own device folder name)) (sym node_edited) unclean,
        subst (λ (n : Option NodeParts). AwaitsRecord (tables_of_cluster edited) device folder name (version_of ((tables_of_cluster old).own device folder name)) n) (sym node_edited)
            (awaits_still (tables_of_cluster old) (tables_of_cluster edited) device folder name edit_alone (version_of ((tables_of_cluster old).own device folder name)) (Some node) awaits),
      )

-- what the scan makes of the edited name is what both make of the name
both_make : (first second third : Tables) (device : Device) (folder : Folder) (name : FileName) (like edited_like : Content) → edited_like ≡ like → ChangesAlone first second device folder name → MakesTop second third device folder name edited_like → MakesTop first third device folder name like
both_make first second third device folder name like edited_like same one made =
    let alone = alone_through first second third device folder name one made.alone in
    record { top = made.top; recorded = made.recorded; content = made.content ∙ same; prevails = made.prevails; alone = alone; rest = leaves_others first third device folder name alone }

pub edit_makes_top_lem : EditPuts → StepsKeepSound → ScanMakesTop → EditMakesTop
edit_makes_top_lem puts keep_sound scan device folder name node failed fails old between new moved scanned is_node sound records unclean awaits made looked =
    let row = done_row (Edit device folder name node) failed old between moved made in
    let put = edit_put puts name node failed row.0 row.1 moved row.3 in
    let sound_between = keep_sound (Edit device folder name node) failed old between (Done moved) is_node sound made in
    let alone : ChangesAlone (tables_of_cluster old) (tables_of_cluster between) device folder name =
    subst (λ (c : Cluster). ChangesAlone (tables_of_cluster old) (tables_of_cluster c) device folder name) (sym row.4) (edit_alone puts device folder name node old unclean awaits row.0 row.1 row.2 put) in
    let awaits_between : AwaitsScan (tables_of_cluster between) device folder name =
    subst (λ (c : Cluster). AwaitsScan (tables_of_cluster c) device folder name) (sym row.4) (edit_awaits puts device folder name node old unclean awaits row.0 row.1 row.2 put) in
    let holds : (tables_of_cluster between).node device folder name ≡ Some node =
    subst (λ (c : Cluster). (tables_of_cluster c).node device folder name ≡ Some node) (sym row.4) (node_edited puts device folder name node old unclean awaits row.0 row.1 row.2 put) in
    let records_between : RecordsChanges (tables_of_cluster between) device folder =
    subst (λ (c : Cluster). RecordsChanges (tables_of_cluster c) device folder) (sym row.4) records in
    let made_there = scan device folder name fails between new scanned sound_between records_between awaits_between looked in
    both_make (tables_of_cluster old) (tables_of_cluster between) (tables_of_cluster new) device folder name (content_of_node (Some node)) (content_of_node ((tables_of_cluster between).node device folder name)) (ap content_of_node holds) alone made_there

-- ---- a file that gets another time

file_looks : (kind : Kind) (held : NodeParts) (own : Entry) → kind ≡ File → LooksSame kind held own → (held.modified_s ≡ own.modified_s) × (held.modified_ns ≡ own.modified_ns)
file_looks kind held own is looks = let file : LooksSame File held own = subst (λ (k : Kind). LooksSame k held own) is looks in (file.1, file.2)

pub touch_is_seen_lem : TouchIsSeen
touch_is_seen_lem held own seconds nanoseconds clean file other = (
  λ still.
      let was = file_looks held.kind held own file clean.2 in
      let is = file_looks held.kind (at_time held seconds nanoseconds) own file still.2 in
      other (is.0 ∙ sym was.0, is.1 ∙ sym was.1),
  refl,
)
