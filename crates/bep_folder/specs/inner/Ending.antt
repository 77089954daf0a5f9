-- The end of a pull, in the parts in which it is done: each is a row, or the rest of one (this project's profile).
use Rattle.std.specs.Prelude.{◌≡◌, ℕ, ◌+◌, ◌≢◌, ◌⊎◌, ◌↔◌, ◌<◌, ⊤, Bool, true, false, Option, Some, None, IsSome, Result, Ok, Err, IsErr}
use Rattle.std.specs.FinMap.{get, insert, remove}
use Rattle.bep_map.specs.NameMap.{ByName}
use Rattle.bep_record.specs.declared.entry.Entry.{Entry}
use Rattle.bep_record.specs.declared.node.NodeParts.{NodeParts}
use Rattle.bep_record.specs.Vector.{most_counters, ids_in_either}
use Rattle.bep_record.specs.Node.{IsClean}
use Rattle.bep_index.specs.Listing.{Listing}
use Rattle.bep_index.specs.Index.{IsSequenceFull, IsIndexFull, after_put}
use Rattle.bep_model.specs.Tables.{FileName}
use Rattle.bep_machine.specs.declared.moved.Moved.{Moved}
use Rattle.bep_machine.specs.declared.refusal.Refusal.TheVariants.{StoreFault, Unscanned}
use Rattle.bep_machine.specs.Answer.{Refused, Row, when◌then◌else◌, ◌answers◌when◌else◌}
use Rattle.bep_machine.specs.Replica.{Pull, Replica, HasContentOf, own_at, node_at, pull_at, version_of, with_node}
use Rattle.bep_machine.specs.Local.{Fails}
use Rattle.bep_machine.specs.Pull.{CopyingRow, RoomRow, SettlingRow, IsAdopted, IsConflictDue, IsFile, IsMissingBlocks, timed, written}
use Rattle.bep_folder.specs.declared.error.FolderError.{FolderError}
use Rattle.bep_folder.specs.declared.error.FolderError.TheVariants as errors
use Rattle.bep_folder.specs.Held.{Held}
use Rattle.bep_folder.specs.Trace.{TracedStore, next_call, failed_now}

-- the row of the name's pull
abbrev pub PulledRow : FileName → (Pull → Row Replica) → Replica → Row Replica
PulledRow name row old new answer = (pull : Pull) × (pull_at old name ≡ Some pull) × row pull new answer

-- The writes, of which the first call has this number: the conflict copy under its name, where there is one to write, and
-- then the target.
abbrev pub WritingRow : FileName → Pull → Option FileName → ℕ → Option ℕ → Replica → Row Replica
WritingRow name pull None call failed old =
    SettlingRow name pull call failed (own_at old name) (node_at old name) old
WritingRow name pull (Some copy) call failed old =
    old answers Refused StoreFault when Fails call failed else
    SettlingRow name pull (call + 1) failed (own_at old name) (node_at old name) (with_node old copy (node_at old name))

-- some block is missing of a file whose content isn't there yet
abbrev pub IsIncomplete : Option Entry → Pull → Type 0
IsIncomplete own pull = IsFile pull.target × (¬ HasContentOf own pull.target) × IsMissingBlocks pull

-- the end of a pull once its blocks are there and the node is read
abbrev pub CleanRow : FileName → Pull → Option ℕ → Replica → Row Replica
CleanRow name pull failed old =
    let own = own_at old name in
    let node = node_at old name in
    old answers Refused Unscanned when ¬ IsClean node own else
    (when IsConflictDue own pull.target
    then CopyingRow name pull failed own node old
    else RoomRow name own pull.target old (SettlingRow name pull 2 failed own node old))

-- there is room for the record, and the writes are made
abbrev pub RoomyRow : FileName → Pull → Option FileName → ℕ → Option ℕ → Replica → Row Replica
RoomyRow name pull copy call failed old =
    RoomRow name (own_at old name) pull.target old (WritingRow name pull copy call failed old)

-- ---- the store

-- the store holds this at the name
abbrev pub stored : ByName NodeParts → FileName → Option NodeParts → ByName NodeParts
stored contents name None = remove contents name
stored contents name (Some node) = insert contents name node

-- At most one call is made, after which the store holds this at the name; where it fails, the condition for a call holds
-- and the trace tells of it. Want of memory changes nothing.
abbrev pub Stores : FileName → Option NodeParts → Type 0 → TracedStore → TracedStore → Result ⊤ FolderError → Type 0
Stores name after called old new (Ok _) =
    (new.contents ≡ stored old.contents name after) × (new.faults ≡ old.faults) × (new.trace ≡ old.trace)
Stores name after called old new (Err errors.StoreFault) =
    called × (new.contents ≡ old.contents) × (old.faults < new.faults) × (new.trace ≡ failed_now (next_call old.made) old.trace)
Stores name after called old new (Err errors.Memory) =
    (new.contents ≡ old.contents) × (new.faults ≡ old.faults) × (new.trace ≡ old.trace)
Stores name after called old new (Err _) = ⊥

-- what the name holds at the end, by whether the own content is the target's already
abbrev pub EndsIn : Bool → Option NodeParts → Pull → Option NodeParts → Type 0
EndsIn true held pull after = after ≡ timed held pull.target
EndsIn false held pull after = after ≡ written pull

-- and whether a call of the store is made for that
abbrev pub CallsIn : Bool → Option NodeParts → Entry → Option NodeParts → Type 0
CallsIn same held target after = (after ≢ held) ⊎ ((same ≡ false) × (target.deleted ≡ false))

-- the name is brought to what it holds at the end of its pull
abbrev pub WritesTarget : FileName → Pull → Bool → Option NodeParts → TracedStore → TracedStore → Result ⊤ FolderError → Type 0
WritesTarget name pull same node old new result =
    (after : Option NodeParts) × EndsIn same node pull after × Stores name after (CallsIn same node pull.target after) old new result

-- the store once the copy is written
abbrev pub with_copy : TracedStore → FileName → Option NodeParts → TracedStore
with_copy store copy node =
    record store { contents = stored store.contents copy node; made = next_call store.made; trace = record store.trace { copied = true } }

-- the conflict copy is written first, where there is one to write
abbrev pub WritesAll : FileName → Pull → Bool → Option FileName → Option NodeParts → TracedStore → TracedStore → Result ⊤ FolderError → Type 0
WritesAll name pull same None node old new result = WritesTarget name pull same node old new result
WritesAll name pull same (Some copy) node old new result =
    (IsErr result × Stores copy node ⊤ old new result) ⊎ WritesTarget name pull same node (with_copy old copy node) new result

-- ---- the record

-- there is room for the record that the target gives, in versions and index
pub record HasRoom (name : FileName) (own : Option Entry) (target : Entry) (index : Listing) : Type 0 where
  pub few : ¬ (most_counters < ids_in_either (version_of own) target.version)
  pub numbers : ¬ IsSequenceFull index
  pub names : ¬ IsIndexFull index name

-- why there is none
abbrev pub LacksRoom : FileName → Option Entry → Entry → Listing → FolderError → Type 0
LacksRoom name own target index errors.TooManyCounters = most_counters < ids_in_either (version_of own) target.version
LacksRoom name own target index errors.SequenceFull =
    (¬ (most_counters < ids_in_either (version_of own) target.version)) × IsSequenceFull index
LacksRoom name own target index errors.IndexFull =
    (¬ (most_counters < ids_in_either (version_of own) target.version)) × (¬ IsSequenceFull index) × IsIndexFull index name
LacksRoom name own target index errors.Memory = ⊤
LacksRoom name own target index _ = ⊥

-- What the trace tells of the copy that is to be written. Either the copy was written, and stands there; or it wasn't, and
-- after an error all is as before.
abbrev pub WroteCopy : Option FileName → Held → Held → Result Moved FolderError → Type 0
WroteCopy None old new result = (new.trace.copied ≡ old.trace.copied) × (IsErr result → new.tables ≡ old.tables)
WroteCopy (Some copy) old new result =
    ((new.trace.copied ≡ true) × IsSome (node_at new.tables copy)) ⊎ ((new.trace.copied ≡ old.trace.copied) × IsErr result × (new.tables ≡ old.tables))

-- what is known where the writes begin: whether the own content is the target's, and that there is room
pub record IsReady (name : FileName) (own : Option Entry) (pull : Pull) (index : Listing) (same : Bool) : Type 0 where
  pub has : (same ≡ true) ↔ HasContentOf own pull.target
  pub room : HasRoom name own pull.target index

-- The record is put and the writes are made; or there is no room, and nothing changes; or the writes are given up, and
-- the index is as before.
abbrev pub PutsAndWrites : FileName → Pull → Option FileName → Option NodeParts → Listing → Listing → TracedStore → TracedStore → Result ⊤ FolderError → Type 0
PutsAndWrites name pull copy node index index_new store store_new (Ok done) =
    (same : Bool) × IsReady name (get index.records name) pull index same × WritesAll name pull same copy node store store_new (Ok done) ×
    ((entry : Entry) × IsAdopted (get index.records name) pull.target entry × (index_new ≡ after_put index entry))
PutsAndWrites name pull copy node index index_new store store_new (Err error) =
    (index_new ≡ index) ×
    ((LacksRoom name (get index.records name) pull.target index error × (store_new ≡ store)) ⊎
    ((same : Bool) × IsReady name (get index.records name) pull index same × WritesAll name pull same copy node store store_new (Err error)))
