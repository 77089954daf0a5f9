-- A change of one name in an index, and how it is taken back.
use Rattle.std.specs.Prelude.{◌≡◌, ℕ, ◌-◌, List, Option, Some, None}
use Rattle.std.specs.FinMap.{get, insert, remove}
use Rattle.bep_map.specs.NameMap.{ByName}
use Rattle.bep_record.specs.declared.entry.Entry.{Entry}
use Rattle.bep_index.specs.Listing.{Listing}
use Rattle.bep_index.specs.Index.{IsIndex}

-- the index that was changed, the sequence number that it gave, the name that was changed, and its record before the
-- change, if it had one
pub record Change : Type 0 where
  pub id : ℕ
  pub sequence : ℕ
  pub name : List ℕ
  pub before : Option Entry

-- the name has again what it had before
abbrev pub given_back : ByName Entry → List ℕ → Option Entry → ByName Entry
given_back records name None = remove records name
given_back records name (Some entry) = insert records name entry

-- the index without the change, the sequence number too
abbrev pub taken_back : Change → Listing → Listing
taken_back change index =
    record index { sequence = index.sequence - 1; records = given_back index.records change.name change.before }

-- the change is the index's last one: it gave the greatest number of this index, its name has the record of that
-- number, and without the change there is an index again
pub record IsLastChange (change : Change) (index : Listing) : Type 0 where
  pub same_index : change.id ≡ index.id
  pub last : change.sequence ≡ index.sequence
  pub given : (entry : Entry) × ((get index.records change.name ≡ Some entry) × (entry.sequence ≡ change.sequence))
  pub before : IsIndex (taken_back change index)
