-- Which trees have no number that is too large for a float.
use Rattle.std.specs.Prelude.{Bool, true, ◌&&◌, is_some}
use Rattle.json.specs.Json as json
use Rattle.serde_json.specs.Read.{number_of}

abbrev mutual
  pub is_in_range : json.Json → Bool
  is_in_range json.null = true
  is_in_range (json.boolean b) = true
  is_in_range (json.number s) = is_some (number_of s)
  is_in_range (json.string s) = true
  is_in_range (json.array js) = items_in_range js
  is_in_range (json.object ms) = members_in_range ms

  pub items_in_range : json.Items → Bool
  items_in_range json.no_items = true
  items_in_range (json.item j js) = is_in_range j && items_in_range js

  pub members_in_range : json.Members → Bool
  members_in_range json.no_members = true
  members_in_range (json.member k j ms) = is_in_range j && members_in_range ms
