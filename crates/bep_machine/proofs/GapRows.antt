-- What a step of one replica does to its index and its views: no view changes, and at most one record is put.
use Rattle.std.proofs.Common.{◌≡◌, ◌⊎◌, ℕ, [], Option, Some, None, refl, ap, inl, inr, ⊎_elim}
use Rattle.bep_record.specs.declared.entry.Entry.{Entry}
use Rattle.bep_record.specs.declared.node.NodeParts.{NodeParts}
use Rattle.bep_record.specs.declared.folder_kind.FolderKind.{FolderKind}
use Rattle.bep_record.specs.declared.folder_kind.FolderKind.TheVariants.{SendReceive, SendOnly, ReceiveOnly}
use Rattle.bep_index.specs.Index.{after_put}
use Rattle.bep_model.specs.Tables.{Device, FileName}
use Rattle.bep_machine.specs.Answer.{Answer, Row, becomes}
use Rattle.bep_machine.specs.Replica.{Replica, Pull, own_at, node_at, with_record, with_node}
use Rattle.bep_machine.specs.Local.{EditRow, RemoveRow, ScanRow, FoundRow, PutRow, OverrideRow, RevertRow, RevertedRow, deletion_of}
use Rattle.bep_machine.specs.Pull.{StartPullRow, FinishRow, EndingRow, CopyingRow, SettlingRow, RoomRow, copy_name}
use Rattle.bep_machine.proofs.CalmRows.{CopiedRow, at_answers, at_becomes}

pub record IsGrown (old new : Replica) : Type 0 where
  pub views : new.views ≡ old.views
  pub index : (new.index ≡ old.index) ⊎ ((put : Entry) × (new.index ≡ after_put old.index put))

pub nothing_grown : (old : Replica) → IsGrown old old
nothing_grown old = record { views = refl; index = inl refl }

-- the same views, and the same index
record IsAlike (old new : Replica) : Type 0 where
  views : new.views ≡ old.views
  index : new.index ≡ old.index

alike : (old : Replica) → IsAlike old old
alike old = record { views = refl; index = refl }

alike_is_grown : (old new : Replica) → IsAlike old new → IsGrown old new
alike_is_grown old new same = record { views = same.views; index = inl same.index }

with_node_alike : (old start : Replica) (name : FileName) (node : Option NodeParts) → IsAlike old start → IsAlike old (with_node start name node)
with_node_alike old start name None same = record { views = same.views; index = same.index }
with_node_alike old start name (Some node) same = record { views = same.views; index = same.index }

node_grows : (old : Replica) (name : FileName) (node : Option NodeParts) → IsGrown old (with_node old name node)
node_grows old name node = alike_is_grown old (with_node old name node) (with_node_alike old old name node (alike old))

put_grows : (old start : Replica) (entry : Entry) → IsAlike old start → IsGrown old (with_record start entry)
put_grows old start entry same = record { views = same.views; index = inr (entry, ap (λ index. after_put index entry) same.index) }

-- where a line of a row refuses, nothing has grown
or_grows : {old new : Replica} {given answer : Answer} {condition R : Type 0} → (condition × becomes old given new answer) ⊎ ((¬ condition) × R) → (R → IsGrown old new) → IsGrown old new
or_grows {old} row rest = at_answers (IsGrown old) row (nothing_grown old) (λ _ passed. rest passed)

-- ---- local steps

abbrev pub RowGrows : (Replica → Row Replica) → Type 0
RowGrows row = (old new : Replica) (answer : Answer) → row old new answer → IsGrown old new

pub edit_grows : (name : FileName) (node : NodeParts) (failed : Option ℕ) → RowGrows (EditRow name node failed)
edit_grows name node failed old new answer row = or_grows row (λ made. at_becomes (IsGrown old) made (node_grows old name (Some node)))

pub remove_grows : (name : FileName) (failed : Option ℕ) → RowGrows (RemoveRow name failed)
remove_grows name failed old new answer row =
    or_grows row (λ looked. or_grows looked (λ there. or_grows there (λ made. at_becomes (IsGrown old) made (node_grows old name None))))

put_row_grows : (name : FileName) (IsNew : Entry → Type 0) → RowGrows (PutRow name IsNew)
put_row_grows name IsNew old new answer row =
    or_grows row (λ counted. or_grows counted (λ put. at_becomes (IsGrown old) put.2 (put_grows old old put.0 (alike old))))

found_grows : (kind : FolderKind) (device : Device) (name : FileName) → RowGrows (FoundRow kind device name)
found_grows ReceiveOnly device name old new answer row = put_row_grows name _ old new answer row
found_grows SendReceive device name old new answer row = or_grows row (λ few. or_grows few (λ put. put_row_grows name _ old new answer put))
found_grows SendOnly device name old new answer row = or_grows row (λ few. or_grows few (λ put. put_row_grows name _ old new answer put))

pub scan_grows : (device : Device) (name : FileName) (failed : Option ℕ) → RowGrows (ScanRow device name failed)
scan_grows device name failed old new answer row = or_grows row (λ looked. or_grows looked (λ found. found_grows old.kind device name old new answer found))

pub override_grows : (device : Device) (name : FileName) → RowGrows (OverrideRow device name)
override_grows device name old new answer row =
    or_grows row (λ kind. or_grows kind (λ chosen. or_grows chosen.2 (λ few. or_grows few (λ put. put_row_grows name _ old new answer put))))

reverted_grows : (device : Device) (name : FileName) (failed : Option ℕ) (own : Option Entry) → RowGrows (RevertedRow device name failed own)
reverted_grows device name failed None old new answer row = absurd row
reverted_grows device name failed (Some own) old new answer row =
    or_grows row (λ made. at_becomes (IsGrown old) made (put_grows old (with_node old name None) (deletion_of device name own []) (with_node_alike old old name None (alike old))))

pub revert_grows : (device : Device) (name : FileName) (failed : Option ℕ) → RowGrows (RevertRow device name failed)
revert_grows device name failed old new answer row =
    or_grows row (λ kind. or_grows kind (λ local. or_grows local (λ looked. or_grows looked (λ scanned. or_grows scanned (λ reverted.
    reverted_grows device name failed (own_at old name) old new answer reverted)))))

-- ---- pulls

pub start_pull_grows : (device : Device) (name : FileName) → RowGrows (StartPullRow device name)
start_pull_grows device name old new answer row =
    or_grows row (λ chosen. or_grows chosen.2 (λ needed. or_grows needed (λ full. or_grows full (λ begun.
    at_becomes (IsGrown old) begun (record { views = refl; index = inl refl })))))

settling_grows : (name : FileName) (pull : Pull) (call : ℕ) (failed : Option ℕ) (own : Option Entry) (node : Option NodeParts) (start old new : Replica) (answer : Answer) → IsAlike old start → SettlingRow name pull call failed own node start new answer → IsGrown old new
settling_grows name pull call failed own held start old new answer same row =
    ⊎_elim
    (λ memory. at_becomes (IsGrown old) memory (alike_is_grown old start same))
    (λ called.
    at_answers (IsGrown old) called.2 (alike_is_grown old start same)
    (λ _ put.
    at_becomes (IsGrown old) put.2
    (let grown = put_grows old (with_node start name called.0) put.0 (with_node_alike old start name called.0 same) in
    record { views = grown.views; index = grown.index })))
    row

room_grows : (name : FileName) (own : Option Entry) (target : Entry) (old new : Replica) (answer : Answer) (rest : Row Replica) → (rest new answer → IsGrown old new) → RoomRow name own target old rest new answer → IsGrown old new
room_grows name own target old new answer rest grows row = or_grows row (λ few. or_grows few (λ counted. or_grows counted grows))

copied_grows : (name : FileName) (pull : Pull) (failed : Option ℕ) (own : Option Entry) (node : Option NodeParts) → RowGrows (CopiedRow name pull failed own node)
copied_grows name pull failed own node old new answer row =
    ⊎_elim
    (λ writes.
    or_grows writes.1
    (λ copied. settling_grows name pull 4 failed own node (with_node old (copy_name own) node) old new answer (with_node_alike old old (copy_name own) node (alike old)) copied))
    (λ there. settling_grows name pull 3 failed own node old old new answer (alike old) there.1)
    row

copying_grows : (name : FileName) (pull : Pull) (failed : Option ℕ) (own : Option Entry) (node : Option NodeParts) → RowGrows (CopyingRow name pull failed own node)
copying_grows name pull failed own node old new answer row =
    or_grows row (λ named. or_grows named (λ looked. or_grows looked (λ free.
    room_grows name own pull.target old new answer (CopiedRow name pull failed own node old) (λ room. copied_grows name pull failed own node old new answer room) free)))

ending_grows : (name : FileName) (pull : Pull) (failed : Option ℕ) → RowGrows (EndingRow name pull failed)
ending_grows name pull failed old new answer row =
    or_grows row (λ received. or_grows received (λ looked. or_grows looked (λ scanned.
    ⊎_elim
    (λ copying. copying_grows name pull failed (own_at old name) (node_at old name) old new answer copying.1)
    (λ alone.
    room_grows name (own_at old name) pull.target old new answer (SettlingRow name pull 2 failed (own_at old name) (node_at old name) old)
    (λ room. settling_grows name pull 2 failed (own_at old name) (node_at old name) old old new answer (alike old) room) alone.1)
    scanned)))

pub finish_grows : (device : Device) (name : FileName) (failed : Option ℕ) → RowGrows (FinishRow device name failed)
finish_grows device name failed old new answer row =
    or_grows row (λ pulled.
    ⊎_elim
    (λ wanted. ending_grows name pulled.0 failed old new answer wanted.1)
    (λ unwanted. at_becomes (IsGrown old) unwanted.1 (record { views = refl; index = inl refl }))
    pulled.2)
