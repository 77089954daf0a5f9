-- Where one device alone has unclean names, its scans of these lead to a cut that prevails.
use Rattle.std.proofs.Common.{◌≡◌, ◌≢◌, ◌⊎◌, ◌∙◌, ℕ, List, [], ◌∷◌, Contains, Option, Some, None, IsSome, refl, sym, ap, subst, inl, inr, ⊎_elim}
use Rattle.std.specs.FinMap.{get}
use Rattle.std.proofs.lemmas.Bool.{cases_eq}
use Rattle.bep_facts.specs.Decided.{both_or_not}
use Rattle.bep_facts.specs.Members.{not_in_none, Contains-cons_cases}
use Rattle.bep_record.specs.declared.entry.Entry.{Entry}
use Rattle.bep_record.specs.declared.node.NodeParts.{NodeParts}
use Rattle.bep_record.specs.declared.folder_kind.FolderKind.{FolderKind}
use Rattle.bep_record.specs.declared.folder_kind.FolderKind.TheVariants.{ReceiveOnly}
use Rattle.bep_record.specs.Node.{IsClean}
use Rattle.bep_model.specs.Tables.{Tables, Device, Folder, FileName, Shares}
use Rattle.bep_model.specs.Foreign.{IsKnown}
use Rattle.bep_machine.specs.declared.moved.Moved.{Moved}
use Rattle.bep_machine.specs.declared.step.Step.{Step}
use Rattle.bep_machine.specs.declared.step.Step.TheVariants.{Scan}
use Rattle.bep_machine.specs.Answer.{Answer, Done}
use Rattle.bep_machine.specs.Cluster.{Cluster}
use Rattle.bep_machine.specs.Laws.{StepsKeepSound}
use Rattle.bep_machine.specs.Local.{ScanRow}
use Rattle.bep_machine.specs.Replica.{Replica, own_at, node_at}
use Rattle.bep_machine.specs.Said.{tables_of_cluster}
use Rattle.bep_machine.specs.Sound.{IsSound}
use Rattle.bep_machine.specs.Steps.{IsStep}
use Rattle.bep_converge.specs.Prevails.{Prevails, AllPrevail}
use Rattle.bep_converge.specs.Rises.{NoNameComes}
use Rattle.bep_converge.specs.Awaits.{AwaitsScan}
use Rattle.bep_converge.specs.Tops.{ChangesAlone}
use Rattle.bep_converge.specs.AfterLaws.{RecordsChanges, Places, AllPrevailBut, ScanMakesTop, ScansMakeTops}
use Rattle.bep_converge.proofs.ChangedAlone.{prevails_still, known_before, awaits_scan_still, own_apart, node_apart}
use Rattle.bep_converge.proofs.CleanDecided.{clean_or_unclean}
use Rattle.bep_converge.proofs.DoneRows.{not_refused, done_row, done_there}
use Rattle.bep_converge.proofs.PlaceMoves.{same_name}
use Rattle.bep_converge.proofs.ReplicaAlone.{shares_where_not_absent, said_here, said_after, changed, changes_alone}
use Rattle.bep_converge.proofs.ReplicaTops.{own_told, node_told}

-- ---- tables

-- what a scan that was made leaves: all as it was, and the name is clean; or the name prevails
pub record IsScanned (old new : Tables) (device : Device) (folder : Folder) (name : FileName) : Type 0 where
  pub alone : ChangesAlone old new device folder name
  pub ends : (((other : Device) → new.own other folder name ≡ old.own other folder name) × ((other : Device) → new.node other folder name ≡ old.node other folder name) ×
      IsClean (old.node device folder name) (old.own device folder name)) ⊎ (IsKnown old folder name × ((top : Entry) × Prevails new folder name top))

module _ (old new : Tables) (device : Device) (place : Folder × FileName) (places : Places) (scanned : IsScanned old new device place.0 place.1) (all : AllPrevailBut old device (place ∷ places)) where
  abbrev Holds : Folder → FileName → Type 0
  Holds folder name = ((top : Entry) × Prevails new folder name top) ⊎ (Contains places (folder, name) × RecordsChanges new device folder × AwaitsScan new device folder name)

  records_still : (folder : Folder) → RecordsChanges old device folder → RecordsChanges new device folder
  records_still folder records = subst (λ (s : List (Device × FolderKind)). (kind : FolderKind) → Contains s (device, kind) → kind ≢ ReceiveOnly) (sym (scanned.alone.sharing folder)) records

  -- a name of which all is as it was, and that isn't the scanned one or is clean
  holds_still : (folder : Folder) (name : FileName) (own_same : (other : Device) → new.own other folder name ≡ old.own other folder name)
      (node_same : (other : Device) → new.node other folder name ≡ old.node other folder name) →
      (place ≡ (folder, name) → IsClean (old.node device folder name) (old.own device folder name)) → IsKnown new folder name → Holds folder name
  holds_still folder name own_same node_same clean known =
      ⊎_elim
      (λ prevails. inl (prevails.0, prevails_still old new device place.0 place.1 scanned.alone folder name own_same node_same prevails.0 prevails.1))
      (λ waits.
      ⊎_elim
      (λ here. absurd (waits.2.unclean (clean here)))
      (λ later. inr (later, records_still folder waits.1, awaits_scan_still old new device place.0 place.1 scanned.alone folder name own_same node_same waits.2))
      (Contains-cons_cases place places (folder, name) waits.0))
      (all folder name (known_before old new device place.0 place.1 scanned.alone folder name own_same node_same known))

  same_place : (folder : Folder) (name : FileName) → ((folder ≡ place.0) × (name ≡ place.1)) ⊎ (¬ ((folder ≡ place.0) × (name ≡ place.1)))
  same_place folder name = both_or_not (same_name folder place.0) (same_name name place.1)

  pub prevail_but_fewer : AllPrevailBut new device places
  prevail_but_fewer folder name known =
      ⊎_elim
      (λ here.
      ⊎_elim
      (λ same.
      holds_still folder name
      (λ other. subst (λ (p : Folder × FileName). new.own other p.0 p.1 ≡ old.own other p.0 p.1) (at here) (same.0 other))
      (λ other. subst (λ (p : Folder × FileName). new.node other p.0 p.1 ≡ old.node other p.0 p.1) (at here) (same.1 other))
      (λ is. subst (λ (p : Folder × FileName). IsClean (old.node device p.0 p.1) (old.own device p.0 p.1)) is same.2) known)
      (λ tops. inl (tops.1.0, subst (λ (p : Folder × FileName). Prevails new p.0 p.1 tops.1.0) (at here) tops.1.1))
      scanned.ends)
      (λ apart.
      holds_still folder name (own_apart old new device place.0 place.1 scanned.alone folder name apart) (node_apart old new device place.0 place.1 scanned.alone folder name apart)
      (λ is. absurd (apart (ap (λ (p : Folder × FileName). p.0) (sym is), ap (λ (p : Folder × FileName). p.1) (sym is)))) known)
      (same_place folder name)
    where
      at : (folder ≡ place.0) × (name ≡ place.1) → place ≡ (folder, name)
      at same = λ i. (sym same.0 i, sym same.1 i)

-- no name is known that wasn't
pub none_comes : (old new : Tables) (device : Device) (place : Folder × FileName) → IsScanned old new device place.0 place.1 → NoNameComes old new
none_comes old new device place scanned folder name known =
    ⊎_elim
    (λ here.
    let at : place ≡ (folder, name) = λ i. (sym here.0 i, sym here.1 i) in
    ⊎_elim
    (λ same.
    known_before old new device place.0 place.1 scanned.alone folder name
    (λ other. subst (λ (p : Folder × FileName). new.own other p.0 p.1 ≡ old.own other p.0 p.1) at (same.0 other))
    (λ other. subst (λ (p : Folder × FileName). new.node other p.0 p.1 ≡ old.node other p.0 p.1) at (same.1 other)) known)
    (λ tops. subst (λ (p : Folder × FileName). IsKnown old p.0 p.1) at tops.0)
    scanned.ends)
    (λ apart.
    known_before old new device place.0 place.1 scanned.alone folder name (own_apart old new device place.0 place.1 scanned.alone folder name apart)
    (node_apart old new device place.0 place.1 scanned.alone folder name apart) known)
    (both_or_not (same_name folder place.0) (same_name name place.1))

-- ---- one scan

trace_where_unclean : (node : Option NodeParts) (own : Option Entry) → ¬ IsClean node own → IsSome node ⊎ IsSome own
trace_where_unclean None None unclean = absurd (unclean tt)
trace_where_unclean (Some node) own unclean = inl refl
trace_where_unclean None (Some own) unclean = inr refl

module _ (scan : ScanMakesTop) (old : Cluster) (sound : IsSound old) (device : Device) (place : Folder × FileName) (places : Places)
    (all : AllPrevailBut (tables_of_cluster old) device (place ∷ places)) (failed : Option ℕ) (new : Cluster) (moved : Moved)
    (made : IsStep (Scan device place.0 place.1) failed old new (Done moved)) where
  abbrev row : (before after : Replica) × (get (old.peer device).replicas place.0 ≡ Some before) × ScanRow device place.1 failed before after (Done moved) × (new ≡ changed old device place.0 after)
  row = done_row (Scan device place.0 place.1) failed old new moved made

  there : Shares (tables_of_cluster old) device place.0
  there = shares_where_not_absent old.config device place.0 (done_there (Scan device place.0 place.1) failed old new moved made)

  -- what the replica has of the name is what the tables say
  abbrev CleanThere : Type 0
  CleanThere = IsClean (node_at row.0 place.1) (own_at row.0 place.1)

  abbrev CleanTold : Type 0
  CleanTold = IsClean ((tables_of_cluster old).node device place.0 place.1) ((tables_of_cluster old).own device place.0 place.1)

  own_is : (tables_of_cluster old).own device place.0 place.1 ≡ own_at row.0 place.1
  own_is = own_told old device place.0 place.1 row.0 (said_here old device place.0 row.0 there row.2)

  node_is : (tables_of_cluster old).node device place.0 place.1 ≡ node_at row.0 place.1
  node_is = node_told old device place.0 place.1 row.0 (said_here old device place.0 row.0 there row.2)

  clean_told : CleanThere → CleanTold
  clean_told clean =
      subst (λ (o : Option Entry). IsClean ((tables_of_cluster old).node device place.0 place.1) o) (sym own_is)
      (subst (λ (n : Option NodeParts). IsClean n (own_at row.0 place.1)) (sym node_is) clean)

  -- the name is clean: nothing changed
  scanned_clean : IsClean (node_at row.0 place.1) (own_at row.0 place.1) → IsScanned (tables_of_cluster old) (tables_of_cluster new) device place.0 place.1
  scanned_clean clean =
      let before = row.0 in
      let here = row.2 in
      let same : row.1 ≡ before = ⊎_elim (λ kept. kept.1.0) (λ found. absurd (found.0 clean)) (not_refused row.3).1 in
      let later = changed old device place.0 before in
      let told = said_here old device place.0 before there here in
      let after = said_after old device place.0 before there in
      let alone : ChangesAlone (tables_of_cluster old) (tables_of_cluster later) device place.0 place.1 =
      changes_alone old device place.0 place.1 before before here (record { records = λ other apart. refl; files = λ other apart. refl; pulls = refl; views = refl }) in
      let own_same : (other : Device) → (tables_of_cluster later).own other place.0 place.1 ≡ (tables_of_cluster old).own other place.0 place.1 = λ other.
      ⊎_elim
      (λ is. subst (λ (d : Device). (tables_of_cluster later).own d place.0 place.1 ≡ (tables_of_cluster old).own d place.0 place.1) (sym is)
      (own_told later device place.0 place.1 before after ∙ sym (own_told old device place.0 place.1 before told)))
      (λ apart. alone.own other place.0 place.1 (λ p. apart p.0))
      (cases_eq other device) in
      let node_same : (other : Device) → (tables_of_cluster later).node other place.0 place.1 ≡ (tables_of_cluster old).node other place.0 place.1 = λ other.
      ⊎_elim
      (λ is. subst (λ (d : Device). (tables_of_cluster later).node d place.0 place.1 ≡ (tables_of_cluster old).node d place.0 place.1) (sym is)
      (node_told later device place.0 place.1 before after ∙ sym (node_told old device place.0 place.1 before told)))
      (λ apart. alone.node other place.0 place.1 (λ p. apart p.0))
      (cases_eq other device) in
      subst (λ (c : Cluster). IsScanned (tables_of_cluster old) (tables_of_cluster c) device place.0 place.1) (sym (row.4 ∙ ap (changed old device place.0) same))
      (record { alone = alone; ends = inl (own_same, node_same, clean_told clean) })

  -- it isn't: so it awaited the scan
  scanned_unclean : ¬ IsClean ((tables_of_cluster old).node device place.0 place.1) ((tables_of_cluster old).own device place.0 place.1) → IsScanned (tables_of_cluster old) (tables_of_cluster new) device place.0 place.1
  scanned_unclean unclean =
      let known : IsKnown (tables_of_cluster old) place.0 place.1 =
      (device, there, ⊎_elim (λ node. inl node) (λ own. inr (inl own)) (trace_where_unclean ((tables_of_cluster old).node device place.0 place.1) ((tables_of_cluster old).own device place.0 place.1) unclean)) in
      ⊎_elim
      (λ prevails. absurd (unclean (prevails.1.everywhere device there).clean))
      (λ waits. let tops = scan device place.0 place.1 failed old new moved sound waits.1 waits.2 made in record { alone = tops.alone; ends = inr (known, (tops.top, tops.prevails)) })
      (all place.0 place.1 known)

  pub scanned : IsScanned (tables_of_cluster old) (tables_of_cluster new) device place.0 place.1
  scanned =
      ⊎_elim
      (λ clean. scanned_clean (subst (λ (o : Option Entry). IsClean (node_at row.0 place.1) o) own_is (subst (λ (n : Option NodeParts). IsClean n ((tables_of_cluster old).own device place.0 place.1)) node_is clean)))
      scanned_unclean
      (clean_or_unclean ((tables_of_cluster old).node device place.0 place.1) ((tables_of_cluster old).own device place.0 place.1))

-- ---- all of them

pub scans_make_tops_lem : StepsKeepSound → ScanMakesTop → ScansMakeTops
scans_make_tops_lem keep_sound scan device [] old new [] sound all scans run =
    subst (λ (c : Cluster). AllPrevail (tables_of_cluster c)) (sym run)
    (λ folder name known. ⊎_elim (λ prevails. prevails) (λ waits. absurd (not_in_none (folder, name) waits.0)) (all folder name known))
scans_make_tops_lem keep_sound scan device (place ∷ places) old new (event ∷ events) sound all scans run =
    let next = run.0 in
    let moved = scans.1.0 in
    let answered : IsStep event.step event.failed old next (Done moved) = subst (λ (a : Answer). IsStep event.step event.failed old next a) scans.1.1 run.1 in
    let made : IsStep (Scan device place.0 place.1) event.failed old next (Done moved) = subst (λ (s : Step). IsStep s event.failed old next (Done moved)) scans.0 answered in
    let sound_next = keep_sound (Scan device place.0 place.1) event.failed old next (Done moved) tt sound made in
    let fewer = prevail_but_fewer (tables_of_cluster old) (tables_of_cluster next) device place places (scanned scan old sound device place places all event.failed next moved made) all in
    scans_make_tops_lem keep_sound scan device places next new events sound_next fewer scans.2 run.2
scans_make_tops_lem keep_sound scan device [] old new (event ∷ events) sound all scans run = absurd scans
scans_make_tops_lem keep_sound scan device (place ∷ places) old new [] sound all scans run = absurd scans
