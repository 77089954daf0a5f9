-- The steps of one device in one folder that look at its own files: editing, scanning, override and revert
-- (this project's profile, over Syncthing, 'Folder Types').
use Rattle.std.specs.Prelude.{◌≡◌, ◌≢◌, ℕ, ◌+◌, ◌<◌, ◌==◌, ◌&&◌, true, false, max, List, [], length, Option, Some, None, IsSome, if◌then◌else◌}
use Rattle.bep_record.specs.Block.{block_size_of}
use Rattle.bep_record.specs.declared.entry.Entry.{Entry}
use Rattle.bep_record.specs.declared.kind.Kind.{Kind}
use Rattle.bep_record.specs.declared.kind.Kind.TheVariants.{File, Directory, Symlink}
use Rattle.bep_record.specs.declared.node.NodeParts.{NodeParts}
use Rattle.bep_record.specs.declared.folder_kind.FolderKind.{FolderKind}
use Rattle.bep_record.specs.declared.folder_kind.FolderKind.TheVariants.{SendOnly, ReceiveOnly}
use Rattle.bep_record.specs.declared.block.Block.{Block}
use Rattle.bep_record.specs.Content.{content_of}
use Rattle.bep_record.specs.Node.{IsClean}
use Rattle.bep_record.specs.Vector.{counter_of, greatest_counter, most_counters, IsVersion, IsAtMost, IsMerge, IsBump, ids_in_either}
use Rattle.bep_blocks.specs.Plain.{file_blocks}
use Rattle.bep_index.specs.Index.{IsSequenceFull, IsIndexFull}
use Rattle.bep_model.specs.Tables.{Device, FileName}
use Rattle.bep_machine.specs.Answer.{Done, Refused, Row, becomes, ◌answers◌when◌else◌}
use Rattle.bep_machine.specs.declared.moved.Moved.TheVariants.{Changed, Unchanged}
use Rattle.bep_machine.specs.declared.refusal.Refusal.TheVariants.{CounterFull, TooManyCounters, SequenceFull, IndexFull, StoreFault, Unscanned, KindForbids, NothingToDo}
use Rattle.bep_machine.specs.Replica.{Replica, own_at, node_at, version_of, Chooses, with_record, with_node}

-- the store call with this number, from 1, failed
abbrev pub Fails : ℕ → Option ℕ → Type 0
Fails call failed = failed ≡ Some call

-- ---- the user's own changes

-- the node becomes the given one; no record changes
abbrev pub EditRow : FileName → NodeParts → Option ℕ → Replica → Row Replica
EditRow name node failed old =
    old answers Refused StoreFault when Fails 1 failed else
    becomes (with_node old name (Some node)) (Done Changed)

-- the node goes; no record changes
abbrev pub RemoveRow : FileName → Option ℕ → Replica → Row Replica
RemoveRow name failed old =
    old answers Refused StoreFault when Fails 1 failed else
    old answers Refused NothingToDo when node_at old name ≡ None else
    old answers Refused StoreFault when Fails 2 failed else
    becomes (with_node old name None) (Done Changed)

-- ---- new records

-- the blocks of a node, and the size of each but the last, by its kind
abbrev pub blocks_of_kind : Kind → List ℕ → List Block
blocks_of_kind File bytes = file_blocks bytes
blocks_of_kind Directory bytes = []
blocks_of_kind Symlink bytes = []

abbrev pub block_size_of_kind : Kind → List ℕ → ℕ
block_size_of_kind File bytes = block_size_of (length bytes)
block_size_of_kind Directory bytes = 0
block_size_of_kind Symlink bytes = 0

-- the record of a node that the device found
abbrev pub record_of_node : Device → FileName → NodeParts → List (ℕ × ℕ) → Entry
record_of_node device name node version = record {
  name = name;
  kind = node.kind;
  size = length node.bytes;
  modified_s = node.modified_s;
  modified_ns = node.modified_ns;
  modified_by = device;
  deleted = false;
  invalid = false;
  no_permissions = true;
  version = version;
  sequence = 0;
  block_size = block_size_of_kind node.kind node.bytes;
  blocks = blocks_of_kind node.kind node.bytes;
  target = node.target;
}

-- a deletion by the device, with this record's kind and time
abbrev pub deletion_of : Device → FileName → Entry → List (ℕ × ℕ) → Entry
deletion_of device name entry version = record {
  name = name;
  kind = entry.kind;
  size = 0;
  modified_s = entry.modified_s;
  modified_ns = entry.modified_ns;
  modified_by = device;
  deleted = true;
  invalid = false;
  no_permissions = true;
  version = version;
  sequence = 0;
  block_size = 0;
  blocks = [];
  target = [];
}

-- the record that a scan makes of what it finds: a node, or none where a record tells of one
abbrev pub Finds : Device → FileName → Option NodeParts → Option Entry → List (ℕ × ℕ) → Entry → Type 0
Finds device name (Some node) own version entry = entry ≡ record_of_node device name node version
Finds device name None (Some own) version entry = entry ≡ deletion_of device name own version
Finds device name None None version entry = ⊥

-- such a record is put under the name, unless the index is full
abbrev pub PutRow : FileName → (Entry → Type 0) → Replica → Row Replica
PutRow name IsNew old =
    old answers Refused SequenceFull when IsSequenceFull old.index else
    old answers Refused IndexFull when IsIndexFull old.index name else
    (λ new answer. (entry : Entry) × IsNew entry × becomes (with_record old entry) (Done Changed) new answer)

-- ---- scanning

-- the device's counter is raised
pub record IsRaised (device : Device) (old new : List (ℕ × ℕ)) : Type 0 where
  pub bump : IsBump old device new
  pub version : IsVersion new

-- the device has no counter in the version, which has 16
abbrev pub IsCrowded : Device → List (ℕ × ℕ) → Type 0
IsCrowded device version = (counter_of version device ≡ 0) × (length version ≡ most_counters)

-- A name that isn't clean gets a new record, with the device's counter raised. In a receive-only folder it keeps the old
-- version and is marked local-only.
abbrev pub FoundRow : FolderKind → Device → FileName → Replica → Row Replica
FoundRow ReceiveOnly device name old =
    PutRow name (λ entry. (found : Entry) × Finds device name (node_at old name) (own_at old name) (version_of (own_at old name)) found × (entry ≡ record found { invalid = true })) old
FoundRow kind device name old =
    old answers Refused CounterFull when counter_of (version_of (own_at old name)) device ≡ greatest_counter else
    old answers Refused TooManyCounters when IsCrowded device (version_of (own_at old name)) else
    PutRow name (λ entry. (version : List (ℕ × ℕ)) × IsRaised device (version_of (own_at old name)) version × Finds device name (node_at old name) (own_at old name) version entry) old

abbrev pub ScanRow : Device → FileName → Option ℕ → Replica → Row Replica
ScanRow device name failed old =
    old answers Refused StoreFault when Fails 1 failed else
    old answers Done Unchanged when IsClean (node_at old name) (own_at old name) else
    FoundRow old.kind device name old

-- ---- override

-- the own record is behind the chosen one and differs from it
abbrev pub IsOverridable : Option Entry → Entry → Type 0
IsOverridable None chosen = chosen.deleted ≡ false
IsOverridable (Some own) chosen = (¬ IsAtMost chosen.version own.version) × (content_of chosen ≢ content_of own)

-- the own record wins; without one, a deletion of the chosen record's kind and time does
abbrev pub overriding : Device → FileName → Option Entry → Entry → List (ℕ × ℕ) → Entry
overriding device name None chosen version = deletion_of device name chosen version
overriding device name (Some own) chosen version = record own { modified_by = device; version = version }

-- both versions merged, and then the device's counter raised
pub record IsMergedAndRaised (device : Device) (u v new : List (ℕ × ℕ)) : Type 0 where
  pub merged : List (ℕ × ℕ)
  pub merge : IsMerge u v merged
  pub bump : IsBump merged device new
  pub version : IsVersion new

-- how many ids have a counter in one of the versions, or are the device's
abbrev pub ids_with : Device → List (ℕ × ℕ) → List (ℕ × ℕ) → ℕ
ids_with device u v = ids_in_either u v + (if (counter_of u device == 0) && (counter_of v device == 0) then 1 else 0)

abbrev pub OverridingRow : Device → FileName → Entry → Replica → Row Replica
OverridingRow device name chosen old =
    old answers Refused CounterFull when max (counter_of (version_of (own_at old name)) device) (counter_of chosen.version device) ≡ greatest_counter else
    old answers Refused TooManyCounters when most_counters < ids_with device (version_of (own_at old name)) chosen.version else
    PutRow name (λ entry. (version : List (ℕ × ℕ)) × IsMergedAndRaised device (version_of (own_at old name)) chosen.version version × (entry ≡ overriding device name (own_at old name) chosen version)) old

-- a record is chosen that can be overridden
abbrev pub CanOverride : Device → FileName → Replica → Type 0
CanOverride device name old = (chosen : Entry) × Chooses device old name chosen × IsOverridable (own_at old name) chosen

abbrev pub OverrideRow : Device → FileName → Replica → Row Replica
OverrideRow device name old =
    old answers Refused KindForbids when old.kind ≢ SendOnly else
    old answers Refused NothingToDo when ¬ CanOverride device name old else
    (λ new answer. (chosen : Entry) × Chooses device old name chosen × OverridingRow device name chosen old new answer)

-- ---- revert

abbrev pub IsLocalOnly : Option Entry → Type 0
IsLocalOnly None = ⊥
IsLocalOnly (Some own) = own.invalid ≡ true

-- the node goes, and a deletion of the own record's kind and time with an empty version takes the record's place
abbrev pub RevertedRow : Device → FileName → Option ℕ → Option Entry → Replica → Row Replica
RevertedRow device name failed None old = λ new answer. ⊥
RevertedRow device name failed (Some own) old =
    old answers Refused StoreFault when IsSome (node_at old name) × Fails 2 failed else
    becomes (with_record (with_node old name None) (deletion_of device name own [])) (Done Changed)

abbrev pub RevertRow : Device → FileName → Option ℕ → Replica → Row Replica
RevertRow device name failed old =
    old answers Refused KindForbids when old.kind ≢ ReceiveOnly else
    old answers Refused NothingToDo when ¬ IsLocalOnly (own_at old name) else
    old answers Refused StoreFault when Fails 1 failed else
    old answers Refused Unscanned when ¬ IsClean (node_at old name) (own_at old name) else
    old answers Refused SequenceFull when IsSequenceFull old.index else
    RevertedRow device name failed (own_at old name) old
