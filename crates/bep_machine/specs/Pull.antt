-- Pulling a record that another device has: begin, and the end (this project's profile).
use Rattle.std.specs.Prelude.{◌≡◌, ◌≢◌, ◌⊎◌, ℕ, ◌<◌, ◌≤◌, false, List, [], map, length, Option, Some, None, Contains, unwrap_or, if◌then◌else◌}
use Rattle.std.specs.List.{concat}
use Rattle.std.specs.FinMap.{len}
use Rattle.bep_record.specs.declared.entry.Entry.{Entry}
use Rattle.bep_record.specs.declared.kind.Kind.TheVariants.{File}
use Rattle.bep_record.specs.declared.node.NodeParts.{NodeParts}
use Rattle.bep_record.specs.declared.folder_kind.FolderKind.TheVariants.{SendReceive}
use Rattle.bep_record.specs.declared.limits.TheConstants.{MAX_PULLS}
use Rattle.bep_record.specs.Content.{content_of}
use Rattle.bep_record.specs.Conflict.{conflict_name_of}
use Rattle.bep_record.specs.Entry.{SameEntry}
use Rattle.bep_record.specs.Name.{max_name_len}
use Rattle.bep_record.specs.Node.{IsClean}
use Rattle.bep_record.specs.Vector.{most_counters, IsVersion, AreConcurrent, IsMerge, ids_in_either}
use Rattle.bep_index.specs.Index.{IsSequenceFull, IsIndexFull}
use Rattle.bep_choice.specs.Need.{IsNeeded, NeedsBeside}
use Rattle.bep_store.specs.Store.{at_time}
use Rattle.bep_model.specs.Tables.{Device, FileName}
use Rattle.bep_machine.specs.Answer.{Done, Refused, OutOfMemory, Row, becomes, when◌then◌else◌, ◌answers◌when◌else◌}
use Rattle.bep_machine.specs.declared.moved.Moved.TheVariants.{Changed, Dropped}
use Rattle.bep_machine.specs.declared.refusal.Refusal.TheVariants.{TooManyCounters, NameBad, SequenceFull, IndexFull, StoreFault, Unscanned, NotNeeded, BlocksMissing, CopyExists, PullsFull, KindForbids}
use Rattle.bep_machine.specs.Replica.{Pull, Replica, own_at, node_at, pull_at, version_of, HasContentOf, Chooses, Wants, with_record, with_node, with_pull, without_pull}
use Rattle.bep_machine.specs.Local.{Fails}

-- ---- beginning a pull

-- a send and receive folder would need the chosen record, if the own one weren't local-only
abbrev pub IsNeededAnyway : Option Entry → Entry → Type 0
IsNeededAnyway None chosen = IsNeeded SendReceive None chosen
IsNeededAnyway (Some own) chosen = NeedsBeside false SendReceive own chosen

abbrev pub ChoosesNone : Device → Replica → FileName → Type 0
ChoosesNone device replica name = (chosen : Entry) → ¬ Chooses device replica name chosen

-- a pull of which nothing was received yet
abbrev pub new_pull : Entry → Pull
new_pull target = record { target = target; received = map (λ block. None) target.blocks }

-- there is no pull of the name, and no room for one more
abbrev pub ArePullsFull : Replica → FileName → Type 0
ArePullsFull replica name = (pull_at replica name ≡ None) × (MAX_PULLS ≤ len replica.pulls)

abbrev pub ChosenRow : FileName → Entry → Replica → Row Replica
ChosenRow name chosen old =
    let own = own_at old name in
    old answers Refused NotNeeded when (¬ IsNeeded old.kind own chosen) × (¬ IsNeededAnyway own chosen) else
    old answers Refused KindForbids when ¬ IsNeeded old.kind own chosen else
    old answers Refused PullsFull when ArePullsFull old name else
    becomes (with_pull old name (new_pull chosen)) (Done Changed)

abbrev pub StartPullRow : Device → FileName → Replica → Row Replica
StartPullRow device name old =
    old answers Refused NotNeeded when ChoosesNone device old name else
    (λ new answer. (chosen : Entry) × Chooses device old name chosen × ChosenRow name chosen old new answer)

-- ---- ending a pull

-- the record is of a file that is there
abbrev pub IsFile : Entry → Type 0
IsFile entry = (entry.deleted ≡ false) × (entry.kind ≡ File)

-- some block wasn't received
abbrev pub IsMissingBlocks : Pull → Type 0
IsMissingBlocks pull = Contains pull.received None

-- the device still wants the very record that it pulls
abbrev pub IsStillWanted : Device → Replica → FileName → Entry → Type 0
IsStillWanted device replica name target = (wanted : Entry) × Wants device replica name wanted × SameEntry wanted target

-- what the store holds once the target was written; a deletion leaves nothing
abbrev pub written : Pull → Option NodeParts
written pull =
    if pull.target.deleted then None else
    Some (record {
      kind = pull.target.kind;
      bytes = concat (map (λ bytes. unwrap_or bytes []) pull.received);
      target = pull.target.target;
      modified_s = pull.target.modified_s;
      modified_ns = pull.target.modified_ns;
    })

-- the node with the record's time
abbrev pub timed : Option NodeParts → Entry → Option NodeParts
timed None entry = None
timed (Some node) entry = Some (at_time node entry.modified_s entry.modified_ns)

-- What the name holds at the end. Where the own content is the target's already, its bytes stay, and only the time is
-- taken.
abbrev pub EndsWith : Option Entry → Option NodeParts → Pull → Option NodeParts → Type 0
EndsWith own node pull after =
    (HasContentOf own pull.target × (after ≡ timed node pull.target)) ⊎ ((¬ HasContentOf own pull.target) × (after ≡ written pull))

-- the target under the merge of its version and the own one, and not invalid
pub record IsAdopted (own : Option Entry) (target entry : Entry) : Type 0 where
  pub version : List (ℕ × ℕ)
  pub merge : IsMerge (version_of own) target.version version
  pub rises : IsVersion version
  pub same : entry ≡ record target { version = version; invalid = false }

-- A call of the store is made at the end, unless it holds already what it is to hold; a target with new bytes is always
-- written.
abbrev pub CallsStore : Option Entry → Option NodeParts → Entry → Option NodeParts → Type 0
CallsStore own node target after = (after ≢ node) ⊎ ((¬ HasContentOf own target) × (target.deleted ≡ false))

-- The last call of the store, which has this number, and then the record and the pull. What was done before the call
-- stays where it fails or memory is wanting.
abbrev pub SettlingRow : FileName → Pull → ℕ → Option ℕ → Option Entry → Option NodeParts → Replica → Row Replica
SettlingRow name pull call failed own node start new answer =
    becomes start OutOfMemory new answer ⊎
    ((after : Option NodeParts) × EndsWith own node pull after ×
    (start answers Refused StoreFault when CallsStore own node pull.target after × Fails call failed else
    (λ new answer. (entry : Entry) × IsAdopted own pull.target entry ×
    becomes (without_pull (with_record (with_node start name after) entry) name) (Done Changed) new answer)) new answer)

-- there is room for the new record in versions and index
abbrev pub RoomRow : FileName → Option Entry → Entry → Replica → Row Replica → Row Replica
RoomRow name own target old rest =
    old answers Refused TooManyCounters when most_counters < ids_in_either (version_of own) target.version else
    old answers Refused SequenceFull when IsSequenceFull old.index else
    old answers Refused IndexFull when IsIndexFull old.index name else
    rest

-- ---- the conflict copy

-- the own file loses against a concurrent one of other content
abbrev pub IsConflictDue : Option Entry → Entry → Type 0
IsConflictDue None target = ⊥
IsConflictDue (Some own) target =
    IsFile own × IsFile target × AreConcurrent own.version target.version × (content_of target ≢ content_of own)

-- the name under which the losing file is kept
abbrev pub copy_name : Option Entry → FileName
copy_name None = []
copy_name (Some own) = conflict_name_of own.name own.modified_s own.modified_by

-- a file of the same bytes and time counts as the copy
abbrev pub IsCopy : Option NodeParts → Option NodeParts → Type 0
IsCopy (Some there) (Some node) =
    (there.kind ≡ File) × (there.bytes ≡ node.bytes) × (there.modified_s ≡ node.modified_s) × (there.modified_ns ≡ node.modified_ns)
IsCopy _ _ = ⊥

-- Under the conflict name the node is written, unless its copy is there. That is one call of the store more, and one to
-- look.
abbrev pub CopyingRow : FileName → Pull → Option ℕ → Option Entry → Option NodeParts → Replica → Row Replica
CopyingRow name pull failed own node old =
    let copy = copy_name own in
    old answers Refused NameBad when max_name_len < length copy else
    old answers Refused StoreFault when Fails 2 failed else
    old answers Refused CopyExists when (node_at old copy ≢ None) × (¬ IsCopy (node_at old copy) node) else
    RoomRow name own pull.target old
    (when node_at old copy ≡ None
    then (old answers Refused StoreFault when Fails 3 failed else SettlingRow name pull 4 failed own node (with_node old copy node))
    else SettlingRow name pull 3 failed own node old)

-- ---- the whole

abbrev pub EndingRow : FileName → Pull → Option ℕ → Replica → Row Replica
EndingRow name pull failed old =
    let own = own_at old name in
    let node = node_at old name in
    old answers Refused BlocksMissing when IsFile pull.target × (¬ HasContentOf own pull.target) × IsMissingBlocks pull else
    old answers Refused StoreFault when Fails 1 failed else
    old answers Refused Unscanned when ¬ IsClean node own else
    (when IsConflictDue own pull.target
    then CopyingRow name pull failed own node old
    else RoomRow name own pull.target old (SettlingRow name pull 2 failed own node old))

abbrev pub FinishRow : Device → FileName → Option ℕ → Replica → Row Replica
FinishRow device name failed old =
    old answers Refused NotNeeded when pull_at old name ≡ None else
    (λ new answer. (pull : Pull) × (pull_at old name ≡ Some pull) ×
    (when IsStillWanted device old name pull.target
    then EndingRow name pull failed old
    else becomes (without_pull old name) (Done Dropped)) new answer)
