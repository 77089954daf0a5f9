-- Groups of entries, one for each folder and name, and a map that says where each stands.
use Rattle.std.specs.Prelude.{◌≡◌, ◌<◌, ◌≤◌, ◌+◌, ◌++◌, ◌∷◌, ℕ, Bool, ◌&&◌, List, [], Option, Some, None, Contains, length, map, get_or, ltb}
use Rattle.std.specs.Ordering.{is_eq}
use Rattle.std.specs.BTreeMap.{is_at}
use Rattle.std.specs.List.{flat_map, sum_by}
use Rattle.std.specs.List.Sorted.{IsStrictlySortedBy}
use Rattle.std.specs.Map.{lookup, keys_of}
use Rattle.bep_model.specs.Tables.{Folder, FileName}
use Rattle.bep_model.specs.Settled.{key_cmp}
use Rattle.bep_tables.specs.declared.table.falling.Falling.{Falling}
use Rattle.bep_tables.specs.declared.table.entry.TableEntry.{TableEntry}
use Rattle.bep_tables.specs.Listed.{Listed, key_at, listed, group_of}
use Rattle.bep_tables.specs.inner.TableOrder.{entry_cmp}

-- the folder and the name of a lent entry
abbrev pub key_in : TableEntry → Folder × FileName
key_in one = key_at (listed one)

-- where the group of the folder and name stands, by these pairs of an entry and a place
abbrev pub place_of : List (TableEntry × ℕ) → Folder × FileName → Option ℕ
place_of places key = lookup (is_at (λ (one : TableEntry). key_cmp key (key_in one))) places

-- the pairs of a map that has the last folder and name first, from the first folder and name to the last
abbrev pub rising : List (Falling × ℕ) → List (TableEntry × ℕ)
rising [] = []
rising (pair ∷ more) = rising more ++ (pair.0.entry, pair.1) ∷ []

-- a group: its folder and name, and its number
abbrev pub Spot : Type 0
Spot = (Folder × FileName) × ℕ

-- what groups are: their spots, where the group of each folder and name stands among them, and the room for their entries
pub record Grouping : Type 0 where
  pub groups : List Spot
  pub places : List (TableEntry × ℕ)
  pub entries : List TableEntry

abbrev pub grouping : List Spot → List (TableEntry × ℕ) → List TableEntry → Grouping
grouping groups places entries = record { groups = groups; places = places; entries = entries }

-- the group at this place
abbrev pub spot_at : List Spot → ℕ → Spot
spot_at groups place = get_or groups place (([], []), 0)

-- the sum of the groups' numbers
abbrev pub numbered : List Spot → ℕ
numbered groups = sum_by (λ (spot : Spot). spot.1) groups

-- there is a group at the place, and it is of this folder and name
abbrev pub begins_with : Folder × FileName → ℕ → List Spot → Bool
begins_with key place groups = ltb place (length groups) && is_eq (key_cmp (spot_at groups place).0 key)

-- each place is that of a group of the folder and name, and each group has its place
pub record AreFull (groups : List Spot) (places : List (TableEntry × ℕ)) : Type 0 where
  pub filled : (key : Folder × FileName) (place : ℕ) → place_of places key ≡ Some place → (place < length groups) × ((spot_at groups place).0 ≡ key)
  pub first : (place : ℕ) → place < length groups → place_of places (spot_at groups place).0 ≡ Some place

-- the groups' numbers say how many of these entries are of their folders and names, and no entry is of another one
pub record Counted (seen : List Listed) (all : Grouping) : Type 0 where
  pub counts : (key : Folder × FileName) (place : ℕ) → place_of all.places key ≡ Some place → (spot_at all.groups place).1 ≡ length (group_of key seen)
  pub absent : (key : Folder × FileName) → place_of all.places key ≡ None → group_of key seen ≡ []

-- the entries of the folders and names of these pairs, in the order of the pairs
abbrev pub in_order_of : List Listed → List (TableEntry × ℕ) → List Listed
in_order_of all = flat_map (λ (pair : TableEntry × ℕ). group_of (key_in pair.0) all)

-- there is room for all these entries, in the order of the places, and those that were seen so far stand where they belong:
-- each group has its room from its base on, and its number says where its next entry goes
pub record Filled (every seen : List Listed) (all : Grouping) : Type 0 where
  pub base : ℕ → ℕ
  pub sorted : IsStrictlySortedBy entry_cmp (keys_of all.places)
  pub places : (pair : TableEntry × ℕ) → Contains all.places pair → place_of all.places (key_in pair.0) ≡ Some pair.1
  pub absent : (key : Folder × FileName) → place_of all.places key ≡ None → group_of key every ≡ []
  pub long : length all.entries ≡ length (in_order_of every all.places)
  pub next : (key : Folder × FileName) (place : ℕ) → place_of all.places key ≡ Some place → (spot_at all.groups place).1 ≡ base place + length (group_of key seen)
  pub within : (key : Folder × FileName) (place : ℕ) → place_of all.places key ≡ Some place → base place + length (group_of key every) ≤ length (in_order_of every all.places)
  pub rooms : (key : Folder × FileName) (place i : ℕ) (none : Listed) → place_of all.places key ≡ Some place → i < length (group_of key every) → get_or (in_order_of every all.places) (base place + i) none ≡ get_or (group_of key every) i none
  pub right : (key : Folder × FileName) (place i : ℕ) (none : Listed) → place_of all.places key ≡ Some place → i < length (group_of key seen) → get_or (map listed all.entries) (base place + i) none ≡ get_or (in_order_of every all.places) (base place + i) none
  pub covers : (i : ℕ) → i < length (in_order_of every all.places) → (pair : TableEntry × ℕ) × Contains all.places pair × (j : ℕ) × (j < length (group_of (key_in pair.0) every)) × (i ≡ base pair.1 + j)

-- the groups took these entries: what was counted, or put, before is so with them
pub record Took (more : List Listed) (before after : Grouping) : Type 0 where
  pub counted : (seen : List Listed) → Counted seen before → Counted (seen ++ more) after
  pub filled : (every seen rest : List Listed) → every ≡ (seen ++ more) ++ rest → Filled every seen before → Filled every (seen ++ more) after
