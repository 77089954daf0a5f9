-- A step within a folder changes nothing of its kind, and of who shares it.
use Rattle.std.proofs.Common.{◌≡◌, ℕ, List, Option, Some, None, refl, ⊎_elim}
use Rattle.bep_record.specs.declared.entry.Entry.{Entry}
use Rattle.bep_record.specs.declared.node.NodeParts.{NodeParts}
use Rattle.bep_record.specs.declared.folder_kind.FolderKind.{FolderKind}
use Rattle.bep_record.specs.declared.folder_kind.FolderKind.TheVariants.{SendReceive, SendOnly, ReceiveOnly}
use Rattle.bep_model.specs.Tables.{Device, FileName}
use Rattle.bep_machine.specs.declared.moved.Moved.TheVariants.{Changed}
use Rattle.bep_machine.specs.Answer.{Answer, Done, Row, becomes}
use Rattle.bep_machine.specs.Local.{EditRow, RemoveRow, PutRow, FoundRow, ScanRow, OverridingRow, OverrideRow, RevertedRow, RevertRow}
use Rattle.bep_machine.specs.Pull.{StartPullRow, SettlingRow, RoomRow, CopyingRow, EndingRow, FinishRow, IsAdopted}
use Rattle.bep_machine.specs.Replica.{Pull, Replica, own_at, node_at, with_node, with_record, without_pull}
use Rattle.bep_peer.proofs.Keeping.{Keeping, becoming, refusing, either}

-- a replica's kind, and who shares the folder
abbrev pub outline : Replica → FolderKind × List Device
outline replica = (replica.kind, replica.others)

-- of the same kind, and shared with the same devices
abbrev pub IsLike : Replica → Replica → Type 0
IsLike old new = outline new ≡ outline old

abbrev pub Keeps : Replica → Row Replica → Type 0
Keeps old row = Keeping (IsLike old) row

node_given : (old start : Replica) (name : FileName) (node : Option NodeParts) → outline start ≡ outline old → outline (with_node start name node) ≡ outline old
node_given old start name None same = same
node_given old start name (Some node) same = same

-- ---- a user's changes

pub edit_keeps : (name : FileName) (node : NodeParts) (failed : Option ℕ) (old : Replica) → Keeps old (EditRow name node failed old)
edit_keeps name node failed old = refusing (IsLike old) old _ _ _ refl (becoming (IsLike old) _ _ refl)

pub remove_keeps : (name : FileName) (failed : Option ℕ) (old : Replica) → Keeps old (RemoveRow name failed old)
remove_keeps name failed old = refusing (IsLike old) old _ _ _ refl (refusing (IsLike old) old _ _ _ refl (refusing (IsLike old) old _ _ _ refl (becoming (IsLike old) _ _ refl)))

-- ---- records of the device's own

put_keeps : (name : FileName) (IsNew : Entry → Type 0) (old : Replica) → Keeps old (PutRow name IsNew old)
put_keeps name IsNew old = refusing (IsLike old) old _ _ _ refl (refusing (IsLike old) old _ _ _ refl (λ new answer made. becoming (IsLike old) _ _ refl new answer made.2))

found_keeps : (kind : FolderKind) (device : Device) (name : FileName) (old : Replica) → Keeps old (FoundRow kind device name old)
found_keeps ReceiveOnly device name old = put_keeps name _ old
found_keeps SendReceive device name old = refusing (IsLike old) old _ _ _ refl (refusing (IsLike old) old _ _ _ refl (put_keeps name _ old))
found_keeps SendOnly device name old = refusing (IsLike old) old _ _ _ refl (refusing (IsLike old) old _ _ _ refl (put_keeps name _ old))

pub scan_keeps : (device : Device) (name : FileName) (failed : Option ℕ) (old : Replica) → Keeps old (ScanRow device name failed old)
scan_keeps device name failed old = refusing (IsLike old) old _ _ _ refl (refusing (IsLike old) old _ _ _ refl (found_keeps old.kind device name old))

overriding_keeps : (device : Device) (name : FileName) (chosen : Entry) (old : Replica) → Keeps old (OverridingRow device name chosen old)
overriding_keeps device name chosen old = refusing (IsLike old) old _ _ _ refl (refusing (IsLike old) old _ _ _ refl (put_keeps name _ old))

pub override_keeps : (device : Device) (name : FileName) (old : Replica) → Keeps old (OverrideRow device name old)
override_keeps device name old =
    refusing (IsLike old) old _ _ _ refl (refusing (IsLike old) old _ _ _ refl (λ new answer made. overriding_keeps device name made.0 old new answer made.2))

reverted_keeps : (device : Device) (name : FileName) (failed : Option ℕ) (own : Option Entry) (old : Replica) → Keeps old (RevertedRow device name failed own old)
reverted_keeps device name failed None old = λ new answer made. absurd made
reverted_keeps device name failed (Some own) old = refusing (IsLike old) old _ _ _ refl (becoming (IsLike old) _ _ refl)

pub revert_keeps : (device : Device) (name : FileName) (failed : Option ℕ) (old : Replica) → Keeps old (RevertRow device name failed old)
revert_keeps device name failed old =
    refusing (IsLike old) old _ _ _ refl (refusing (IsLike old) old _ _ _ refl (refusing (IsLike old) old _ _ _ refl (refusing (IsLike old) old _ _ _ refl (refusing (IsLike old) old _ _ _ refl
    (reverted_keeps device name failed (own_at old name) old)))))

-- ---- pulls

pub start_keeps : (device : Device) (name : FileName) (old : Replica) → Keeps old (StartPullRow device name old)
start_keeps device name old =
    refusing (IsLike old) old _ _ _ refl (λ new answer made.
    refusing (IsLike old) old _ _ _ refl (refusing (IsLike old) old _ _ _ refl (refusing (IsLike old) old _ _ _ refl (becoming (IsLike old) _ _ refl))) new answer made.2)

settling_keeps : (name : FileName) (pull : Pull) (call : ℕ) (failed : Option ℕ) (own : Option Entry) (node : Option NodeParts) (old start : Replica) → outline start ≡ outline old → Keeps old (SettlingRow name pull call failed own node start)
settling_keeps name pull call failed own held old start same new answer is =
    ⊎_elim
    (λ wanting. becoming (IsLike old) start _ same new answer wanting)
    (λ made. refusing (IsLike old) start _ _ _ same (λ (new : Replica) (answer : Answer) (more : (entry : Entry) × IsAdopted own pull.target entry × becomes (without_pull (with_record (with_node start name made.0) entry) name) (Done Changed) new answer).
    becoming (IsLike old) _ _ (node_given old start name made.0 same) new answer more.2) new answer made.2)
    is

room_keeps : (name : FileName) (own : Option Entry) (target : Entry) (old : Replica) (rest : Row Replica) → Keeps old rest → Keeps old (RoomRow name own target old rest)
room_keeps name own target old rest keeps = refusing (IsLike old) old _ _ _ refl (refusing (IsLike old) old _ _ _ refl (refusing (IsLike old) old _ _ _ refl keeps))

copying_keeps : (name : FileName) (pull : Pull) (failed : Option ℕ) (own : Option Entry) (node : Option NodeParts) (old : Replica) → Keeps old (CopyingRow name pull failed own node old)
copying_keeps name pull failed own node old =
    refusing (IsLike old) old _ _ _ refl (refusing (IsLike old) old _ _ _ refl (refusing (IsLike old) old _ _ _ refl (room_keeps name own pull.target old _
    (either (IsLike old) _ _ _
    (refusing (IsLike old) old _ _ _ refl (settling_keeps name pull 4 failed own node old _ (node_given old old _ node refl)))
    (settling_keeps name pull 3 failed own node old old refl)))))

ending_keeps : (name : FileName) (pull : Pull) (failed : Option ℕ) (old : Replica) → Keeps old (EndingRow name pull failed old)
ending_keeps name pull failed old =
    refusing (IsLike old) old _ _ _ refl (refusing (IsLike old) old _ _ _ refl (refusing (IsLike old) old _ _ _ refl
    (either (IsLike old) _ _ _
    (copying_keeps name pull failed (own_at old name) (node_at old name) old)
    (room_keeps name (own_at old name) pull.target old _ (settling_keeps name pull 2 failed (own_at old name) (node_at old name) old old refl)))))

pub finish_keeps : (device : Device) (name : FileName) (failed : Option ℕ) (old : Replica) → Keeps old (FinishRow device name failed old)
finish_keeps device name failed old =
    refusing (IsLike old) old _ _ _ refl (λ new answer made.
    either (IsLike old) _ _ _ (ending_keeps name made.0 failed old) (becoming (IsLike old) _ _ refl) new answer made.2)
