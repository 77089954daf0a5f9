-- What follows from the definitions alone; the functions of src/laws.rt have these as contracts. Most of it is what a
-- receiver has that takes a sender's batches in order and without a gap (BEP v1, 'Index' and 'Index Update').
use Rattle.std.specs.Prelude.{◌≡◌, ◌↔◌, ◌⊎◌, Contains, ℕ, ◌≤◌, nat_le, List, [], ◌∷◌, length, Option, Some, None, if◌then◌else◌}
use Rattle.std.specs.FinMap.{empty, get, len}
use Rattle.bep_record.specs.declared.entry.Entry.{Entry}
use Rattle.bep_index.specs.Listing.{Listing}
use Rattle.bep_index.specs.Index.{IsIndex, IsSequenceFull, IsIndexFull, after_put}
use Rattle.bep_map.specs.NameMap.{ByName}
use Rattle.bep_index.specs.Batch.{HasNo, NamesDiffer, IsBatch, last_sequence, with_all}
use Rattle.bep_index.specs.Change.{Change, IsLastChange}
use Rattle.bep_index.specs.After.{IsAmong, IsStretch}
use Rattle.bep_index.specs.View.{IsView, IsOld, cleared, replaced, amended}
use Rattle.bep_index.specs.declared.limits.TheConstants.{MAX_NAMES, MAX_SEQUENCE}

-- each batch begins where the one before ended, and leaves none of the index's records out; all are of this one index,
-- which doesn't change between them
abbrev pub FollowInOrder : Listing → ℕ → List (List Entry) → Type 0
FollowInOrder index sequence [] = Unit {0}
FollowInOrder index sequence (batch ∷ more) =
    IsStretch index.records sequence batch × FollowInOrder index (last_sequence sequence batch) more

-- the view after each of the batches was added
abbrev pub after_each : Listing → List (List Entry) → Listing
after_each view [] = view
after_each view (batch ∷ more) = after_each (amended view batch) more

-- a record up to this sequence
abbrev pub up_to : ℕ → Option Entry → Option Entry
up_to sequence None = None
up_to sequence (Some entry) = if nat_le entry.sequence sequence then Some entry else None

-- the view has exactly the index's records up to its sequence; where the index changes a record that was sent, it is no
-- longer so, since the record then has a number above the view's
abbrev pub HoldsUpTo : Listing → Listing → Type 0
HoldsUpTo index view = (name : List ℕ) → get view.records name ≡ up_to view.sequence (get index.records name)

-- a view that takes the first batch in place of all it had, and adds those that follow, has exactly the index's records
-- up to its sequence, after each batch
abbrev pub BatchesBringTheIndex : Type 0
BatchesBringTheIndex =
    (index view : Listing) (first : List Entry) (more : List (List Entry)) → IsIndex index → FollowInOrder index 0 (first ∷ more)
    → HoldsUpTo index (after_each (replaced view first) more)

-- so, at the index's point, it is the index
abbrev pub SamePointSameIndex : Type 0
SamePointSameIndex =
    (index view : Listing) → IsIndex index → HoldsUpTo index view → view.id ≡ index.id → view.sequence ≡ index.sequence → view ≡ index

-- each of these has a number from 1 to the greatest, and no two have the same one
pub record HaveIndexNumbers (greatest : ℕ) (entries : List Entry) : Type 0 where
  pub within : (entry : Entry) → IsAmong entry entries → (1 ≤ entry.sequence) × (entry.sequence ≤ greatest)
  pub different : (one other : Entry) → IsAmong one entries → IsAmong other entries → one.sequence ≡ other.sequence → one ≡ other

-- records of different names with such numbers, each at its name, are those of an index
abbrev pub RecordsMakeAnIndex : Type 0
RecordsMakeAnIndex =
    (id greatest : ℕ) (entries : List Entry) → greatest ≤ MAX_SEQUENCE → length entries ≤ MAX_NAMES → NamesDiffer entries →
    HaveIndexNumbers greatest entries →
    IsIndex (record { id = id; sequence = greatest; records = with_all empty entries })

-- the record at a name is the one of these that has the name
abbrev pub RecordsAreFound : Type 0
RecordsAreFound =
    (entries : List Entry) (name : List ℕ) (entry : Entry) → NamesDiffer entries →
    (get (with_all empty entries) name ≡ Some entry) ↔ (IsAmong entry entries × (entry.name ≡ name))

-- what stands at a name after all records of a batch were put there is the batch's, or was there before and none of the
-- batch has the name
abbrev pub FoundIsOfBatchOrBefore : Type 0
FoundIsOfBatchOrBefore =
    (records : ByName Entry) (batch : List Entry) (name : List ℕ) (entry : Entry) → get (with_all records batch) name ≡ Some entry →
    (IsAmong entry batch × (entry.name ≡ name)) ⊎ (HasNo name batch × (get records name ≡ Some entry))

-- each record of a batch stands at its name then
abbrev pub BatchIsFound : Type 0
BatchIsFound =
    (records : ByName Entry) (batch : List Entry) (entry : Entry) → NamesDiffer batch → IsAmong entry batch →
    get (with_all records batch) entry.name ≡ Some entry

-- and each other name has what it had
abbrev pub OthersAreKept : Type 0
OthersAreKept =
    (records : ByName Entry) (batch : List Entry) (name : List ℕ) → HasNo name batch →
    get (with_all records batch) name ≡ get records name

-- to be among records is to be an element of their list
abbrev pub AmongIsContained : Type 0
AmongIsContained = (entry : Entry) (entries : List Entry) → IsAmong entry entries ↔ Contains entries entry

-- once another record was put, no earlier change is the index's last one
abbrev pub EarlierChangesDontFit : Type 0
EarlierChangesDontFit =
    (change : Change) (index : Listing) (entry : Entry) → IsLastChange change index → ¬ IsLastChange change (after_put index entry)

-- changes that are an index's last one are of one name, and gave one number
abbrev pub LastChangesAgree : Type 0
LastChangesAgree =
    (one other : Change) (index : Listing) → IsIndex index → IsLastChange one index → IsLastChange other index →
    (one.name ≡ other.name) × (one.sequence ≡ other.sequence)

-- an index stays one when a record is put, where a number is left and there is room for its name
abbrev pub PutsKeepAnIndex : Type 0
PutsKeepAnIndex =
    (index : Listing) (entry : Entry) → IsIndex index → ¬ IsSequenceFull index → ¬ IsIndexFull index entry.name → IsIndex (after_put index entry)

-- a view of which all is forgotten is a view
abbrev pub ClearedIsView : Type 0
ClearedIsView = (id : ℕ) → IsView (cleared id)

-- what takes a batch in place of all that was known is a view
abbrev pub ReplacedIsView : Type 0
ReplacedIsView = (view : Listing) (batch : List Entry) → IsBatch batch → IsView (replaced view batch)

-- a view to which a batch is added is a view, where the batch isn't old and there is room for its names
abbrev pub AmendedIsView : Type 0
AmendedIsView =
    (view : Listing) (batch : List Entry) → IsView view → IsBatch batch → ¬ IsOld view.sequence batch → len (with_all view.records batch) ≤ MAX_NAMES →
    IsView (amended view batch)
