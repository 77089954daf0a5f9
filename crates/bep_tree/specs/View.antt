-- The value that `serde_json` has where a tree over a document's text stands.
use Rattle.std.specs.Prelude.{List, Option, Some, None}
use Rattle.json.specs.Json as json
use Rattle.json.specs.Value as tree
use Rattle.json.specs.declared.value.Value.{Value}
use Rattle.serde_json.specs.Data.{Data, Num, null, boolean, number, string, array, object, Items, no_items, item, Members, no_members, put}
use Rattle.serde_json.specs.Read.{number_of}

-- a number; null where it is too large for a float, which no tree of `read_tree` has
abbrev pub number_data : Option Num → Data
number_data None = null
number_data (Some n) = number n

-- the members go in one after another, so the last value of a key stays
abbrev mutual
  pub data_of : json.Json → Data
  data_of json.null = null
  data_of (json.boolean b) = boolean b
  data_of (json.number s) = number_data (number_of s)
  data_of (json.string s) = string s
  data_of (json.array js) = array (items_data js)
  data_of (json.object ms) = object (members_data ms no_members)

  pub items_data : json.Items → Items
  items_data json.no_items = no_items
  items_data (json.item j js) = item (data_of j) (items_data js)

  pub members_data : json.Members → Members → Members
  members_data json.no_members found = found
  members_data (json.member k j ms) found = members_data ms (put k (data_of j) found)

-- the value of a tree
abbrev pub view : {A : Type 0} → Value A → Data
view v = data_of (tree.value_view v)

-- the values of trees
abbrev pub items_view : {A : Type 0} → List (Value A) → Items
items_view vs = items_data (tree.items_view vs)
