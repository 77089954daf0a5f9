-- The member and the item that are found in a tree are those that its value has.
use Rattle.std.proofs.Common.{◌≡◌, ◌∙◌, ℕ, zero, suc, List, Bool, true, false, cond, Option, Some, None, option_map, Bor, refl, sym, subst}
use Rattle.std.specs.Str.{bytes_eq}
use Rattle.std.proofs.lemmas.Slice.Eq.{bytes_eq-Decides}
use Rattle.json.specs.Json as json
use Rattle.json.specs.Find.{later_or}
use Rattle.json.specs.Find as tree
use Rattle.json.specs.Value.{value_view}
use Rattle.json.specs.declared.value.Value.{Value}
use Rattle.serde_json.specs.Data.{Data, Num, Members, no_members, put}
use Rattle.serde_json.specs.Find.{at, get, get_item, get_member}
use Rattle.serde_json.specs.Read.{number_of}
use Rattle.serde_json.proofs.Views.{get_member-put, get_member-put_other}
use Rattle.bep_tree.specs.View.{view, number_data, data_of, items_data, members_data}

-- the value of this tree, if there is one, or what was found before
abbrev pub or_before : Option Data → Option json.Json → Option Data
or_before before None = before
or_before before (Some j) = Some (data_of j)

put_here : (name k : List ℕ) (j : json.Json) (found : Members) (same : Bool) → bytes_eq k name ≡ same
    → get_member name (put k (data_of j) found) ≡ or_before (get_member name found) (cond same (Some j) None)
put_here name k j found true same =
    let one : k ≡ name = (bytes_eq-Decides k name).0 same in
    subst (λ key. get_member name (put key (data_of j) found) ≡ Some (data_of j)) (sym one) (get_member-put name (data_of j) found)
put_here name k j found false same = get_member-put_other name k (data_of j) found (λ one. (let other : bytes_eq k name ≡ true = (bytes_eq-Decides k name).1 (sym one) in cc))

later : (before there : Option Data) (here last : Option json.Json) → there ≡ or_before before here → or_before there last ≡ or_before before (later_or last here)
later before there here None is = is
later before there here (Some j) is = refl

pub member_found : (name : List ℕ) (ms : json.Members) (found : Members) → get_member name (members_data ms found) ≡ or_before (get_member name found) (tree.get_member name ms)
member_found name json.no_members found = refl
member_found name (json.member k j ms) found =
    member_found name ms (put k (data_of j) found)
    ∙ later (get_member name found) _ (cond (bytes_eq k name) (Some j) None) (tree.get_member name ms) (put_here name k j found (bytes_eq k name) refl)

as_mapped : (found : Option json.Json) → or_before None found ≡ option_map data_of found
as_mapped None = refl
as_mapped (Some j) = refl

in_number : (name : List ℕ) (n : Option Num) → get name (number_data n) ≡ None
in_number name None = refl
in_number name (Some n) = refl

pub is_found : (name : List ℕ) (j : json.Json) → get name (data_of j) ≡ option_map data_of (tree.get name j)
is_found name json.null = refl
is_found name (json.boolean b) = refl
is_found name (json.number s) = in_number name (number_of s)
is_found name (json.string s) = refl
is_found name (json.array js) = refl
is_found name (json.object ms) = member_found name ms no_members ∙ as_mapped (tree.get_member name ms)

item_found : (place : ℕ) (js : json.Items) → get_item place (items_data js) ≡ option_map data_of (tree.get_item place js)
item_found place json.no_items = refl
item_found zero (json.item j js) = refl
item_found (suc place) (json.item j js) = item_found place js

at_number : (place : ℕ) (n : Option Num) → at place (number_data n) ≡ None
at_number place None = refl
at_number place (Some n) = refl

pub stands_at : (place : ℕ) (j : json.Json) → at place (data_of j) ≡ option_map data_of (tree.at place j)
stands_at place json.null = refl
stands_at place (json.boolean b) = refl
stands_at place (json.number s) = at_number place (number_of s)
stands_at place (json.string s) = refl
stands_at place (json.array js) = item_found place js
stands_at place (json.object ms) = refl

-- a tree that is found, and its value
pub value_of_found : {A : Type 0} (found : Option (Bor (Value A))) → option_map (λ x. view x.now) found ≡ option_map data_of (option_map (λ x. value_view x.now) found)
value_of_found None = refl
value_of_found (Some x) = refl
