-- A step of a replica that isn't done leaves it as it was, all but the end of a pull, which may keep a conflict copy.
use Rattle.std.proofs.Common.{◌≡◌, ◌⊎◌, ◌∙◌, ℕ, Bool, true, false, cond, Option, Some, None, refl, sym, ap, subst, inl, inr, ⊎_elim}
use Rattle.std.specs.FinMap.{get, remove, get-remove, same_map}
use Rattle.std.specs.Ordering.{nat_cmp, eq_by_cmp}
use Rattle.std.specs.Cmp.Lexicographic.{slice_cmp, nat_list_cmp_total}
use Rattle.std.proofs.lemmas.Map.Lookups.{exact_bytes}
use Rattle.bep_facts.specs.Maps.{same_key, get-insert_here}
use Rattle.bep_map.specs.NameMap.{ByName}
use Rattle.bep_record.specs.declared.entry.Entry.{Entry}
use Rattle.bep_record.specs.declared.node.NodeParts.{NodeParts}
use Rattle.bep_record.specs.declared.folder_kind.FolderKind.{FolderKind}
use Rattle.bep_record.specs.declared.folder_kind.FolderKind.TheVariants.{SendReceive, SendOnly, ReceiveOnly}
use Rattle.bep_model.specs.Tables.{Device, FileName}
use Rattle.bep_machine.specs.Answer.{Answer, Done, Row, becomes}
use Rattle.bep_machine.specs.Replica.{Pull, Replica, own_at, node_at, with_node}
use Rattle.bep_machine.specs.Local.{EditRow, RemoveRow, PutRow, FoundRow, ScanRow, OverridingRow, OverrideRow, RevertedRow, RevertRow}
use Rattle.bep_machine.specs.Pull.{ChosenRow, StartPullRow, SettlingRow, RoomRow, CopyingRow, EndingRow, FinishRow, copy_name}
use Rattle.bep_machine.specs.Halves.{IsDone}
use Rattle.bep_machine.proofs.CalmRows.{CopiedRow}

-- what isn't done changes nothing
abbrev pub Stays : {S : Type 0} → S → S → Answer → Type 0
Stays old new answer = ¬ IsDone answer → new ≡ old

pub stays_at : {S : Type 0} {old new : S} {given answer : Answer} → becomes old given new answer → Stays old new answer
stays_at made undone = made.0

pub stays_done : {S : Type 0} {old new made : S} {answer : Answer} {moved : _} → becomes made (Done moved) new answer → Stays old new answer
stays_done made undone = absurd (undone (subst IsDone (sym made.1) tt))

pub stays_or : {S : Type 0} {old new : S} {given answer : Answer} {C R : Type 0} → (C × becomes old given new answer) ⊎ ((¬ C) × R) → (R → Stays old new answer) → Stays old new answer
stays_or row rest = ⊎_elim (λ refused. stays_at refused.1) (λ passed. rest passed.1) row

pub edit_stays : (name : FileName) (node : NodeParts) (failed : Option ℕ) (old new : Replica) (answer : Answer) → EditRow name node failed old new answer → Stays old new answer
edit_stays name node failed old new answer row = stays_or row (λ made. stays_done made)

pub remove_stays : (name : FileName) (failed : Option ℕ) (old new : Replica) (answer : Answer) → RemoveRow name failed old new answer → Stays old new answer
remove_stays name failed old new answer row = stays_or row (λ more. stays_or more (λ again. stays_or again (λ made. stays_done made)))

put_stays : (name : FileName) (IsNew : Entry → Type 0) (old new : Replica) (answer : Answer) → PutRow name IsNew old new answer → Stays old new answer
put_stays name IsNew old new answer row = stays_or row (λ more. stays_or more (λ put. stays_done put.2))

found_stays : (kind : FolderKind) (device : Device) (name : FileName) (old new : Replica) (answer : Answer) → FoundRow kind device name old new answer → Stays old new answer
found_stays ReceiveOnly device name old new answer row = put_stays name _ old new answer row
found_stays SendOnly device name old new answer row = stays_or row (λ more. stays_or more (λ put. put_stays name _ old new answer put))
found_stays SendReceive device name old new answer row = stays_or row (λ more. stays_or more (λ put. put_stays name _ old new answer put))

pub scan_stays : (device : Device) (name : FileName) (failed : Option ℕ) (old new : Replica) (answer : Answer) → ScanRow device name failed old new answer → Stays old new answer
scan_stays device name failed old new answer row = stays_or row (λ more. stays_or more (λ found. found_stays old.kind device name old new answer found))

overriding_stays : (device : Device) (name : FileName) (chosen : Entry) (old new : Replica) (answer : Answer) → OverridingRow device name chosen old new answer → Stays old new answer
overriding_stays device name chosen old new answer row = stays_or row (λ more. stays_or more (λ put. put_stays name _ old new answer put))

pub override_stays : (device : Device) (name : FileName) (old new : Replica) (answer : Answer) → OverrideRow device name old new answer → Stays old new answer
override_stays device name old new answer row = stays_or row (λ more. stays_or more (λ can. overriding_stays device name can.0 old new answer can.2))

reverted_stays : (device : Device) (name : FileName) (failed : Option ℕ) (own : Option Entry) (old new : Replica) (answer : Answer) → RevertedRow device name failed own old new answer → Stays old new answer
reverted_stays device name failed None old new answer row = absurd row
reverted_stays device name failed (Some own) old new answer row = stays_or row (λ made. stays_done made)

pub revert_stays : (device : Device) (name : FileName) (failed : Option ℕ) (old new : Replica) (answer : Answer) → RevertRow device name failed old new answer → Stays old new answer
revert_stays device name failed old new answer row =
    stays_or row (λ a. stays_or a (λ b. stays_or b (λ c. stays_or c (λ d. stays_or d (λ e.
    reverted_stays device name failed (own_at old name) old new answer e)))))

chosen_stays : (name : FileName) (chosen : Entry) (old new : Replica) (answer : Answer) → ChosenRow name chosen old new answer → Stays old new answer
chosen_stays name chosen old new answer row = stays_or row (λ a. stays_or a (λ b. stays_or b (λ made. stays_done made)))

pub start_pull_stays : (device : Device) (name : FileName) (old new : Replica) (answer : Answer) → StartPullRow device name old new answer → Stays old new answer
start_pull_stays device name old new answer row = stays_or row (λ more. chosen_stays name more.0 old new answer more.2)

-- ---- the end of a pull

-- what is not done changes nothing, or really changes something
abbrev pub StaysOrChanges : {S : Type 0} → S → S → Answer → Type 0
StaysOrChanges old new answer = ¬ IsDone answer → (new ≡ old) ⊎ (¬ (new ≡ old))

either_or : {S : Type 0} {old new : S} {given answer : Answer} {C R : Type 0} → (C × becomes old given new answer) ⊎ ((¬ C) × R) → (R → StaysOrChanges old new answer) → StaysOrChanges old new answer
either_or row rest = ⊎_elim (λ refused undone. inl refused.1.0) (λ passed. rest passed.1) row

room_or : (name : FileName) (own : Option Entry) (target : Entry) (old new : Replica) (rest : Row Replica) (answer : Answer) → RoomRow name own target old rest new answer → (rest new answer → StaysOrChanges old new answer) → StaysOrChanges old new answer
room_or name own target old new rest answer row more = either_or row (λ a. either_or a (λ b. either_or b more))

pub settling_stays : (name : FileName) (pull : Pull) (call : ℕ) (failed : Option ℕ) (own : Option Entry) (had : Option NodeParts) (start new : Replica) (answer : Answer) → SettlingRow name pull call failed own had start new answer → Stays start new answer
settling_stays name pull call failed own had start new answer row =
    ⊎_elim (λ wants. stays_at wants) (λ ends. stays_or ends.2 (λ made. stays_done made.2)) row

-- to take away what isn't there changes nothing
remove_missing : (m : ByName NodeParts) (name : FileName) → get m name ≡ None → remove m name ≡ m
remove_missing m name none = same_map nat_list_cmp_total exact_bytes (remove m name) m
    (λ other. get-remove nat_list_cmp_total m name other ∙ cases other (eq_by_cmp (slice_cmp nat_cmp) other name) refl)
  where
    cases : (other : FileName) (b : Bool) → eq_by_cmp (slice_cmp nat_cmp) other name ≡ b → cond b None (get m other) ≡ get m other
    cases other true tied = sym none ∙ ap (get m) (sym (same_key exact_bytes other name tied))
    cases other false tied = refl

copied_or : (name : FileName) (node : Option NodeParts) (old new : Replica) → node_at old name ≡ None → new ≡ with_node old name node → (new ≡ old) ⊎ (¬ (new ≡ old))
copied_or name None old new none same = inl (same ∙ λ i. record old { store = remove_missing old.store name none i })
copied_or name (Some node) old new none same = inr (λ still.
    let here : node_at new name ≡ Some node = ap (λ r. node_at r name) same ∙ get-insert_here nat_list_cmp_total exact_bytes old.store name node in
    let gone : node_at new name ≡ None = ap (λ r. node_at r name) still ∙ none in
    cc)

copying_ends : (name : FileName) (pull : Pull) (failed : Option ℕ) (own : Option Entry) (node : Option NodeParts) (old new : Replica) (answer : Answer) → CopyingRow name pull failed own node old new answer → StaysOrChanges old new answer
copying_ends name pull failed own node old new answer row =
    either_or row (λ a. either_or a (λ b. either_or b (λ c.
    room_or name own pull.target old new (CopiedRow name pull failed own node old) answer c (λ (ends : CopiedRow name pull failed own node old new answer).
    ⊎_elim
    (λ fresh. either_or fresh.1 (λ settles undone. copied_or (copy_name own) node old new fresh.0 (settling_stays name pull 4 failed own node _ new answer settles undone)))
    (λ there undone. inl (settling_stays name pull 3 failed own node old new answer there.1 undone))
    ends))))

ending_ends : (name : FileName) (pull : Pull) (failed : Option ℕ) (old new : Replica) (answer : Answer) → EndingRow name pull failed old new answer → StaysOrChanges old new answer
ending_ends name pull failed old new answer row =
    either_or row (λ a. either_or a (λ b. either_or b (λ ends.
    ⊎_elim
    (λ due. copying_ends name pull failed (own_at old name) (node_at old name) old new answer due.1)
    (λ free. room_or name (own_at old name) pull.target old new (SettlingRow name pull 2 failed (own_at old name) (node_at old name) old) answer free.1 (λ settles undone. inl (settling_stays name pull 2 failed (own_at old name) (node_at old name) old new answer settles undone)))
    ends)))

pub finish_ends : (device : Device) (name : FileName) (failed : Option ℕ) (old new : Replica) (answer : Answer) → FinishRow device name failed old new answer → StaysOrChanges old new answer
finish_ends device name failed old new answer row =
    either_or row (λ more.
    ⊎_elim
    (λ wanted. ending_ends name more.0 failed old new answer wanted.1)
    (λ dropped undone. inl (stays_done dropped.1 undone))
    more.2)
