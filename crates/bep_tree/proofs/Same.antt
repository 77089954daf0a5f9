-- A tree's value is what `serde_json` reads, where each number is in range.
use Rattle.std.proofs.Common.{◌≡◌, ◌∙◌, Bool, true, false, ◌&&◌, cond, Option, Some, None, is_some, option_and_then, option_map, refl, ap}
use Rattle.json.specs.Json as json
use Rattle.serde_json.specs.Data.{Data, Num, number, array, object, Items, item, Members, no_members, put}
use Rattle.serde_json.specs.Read.{number_of, of_items, of_json, of_members}
use Rattle.bep_tree.specs.View.{number_data, data_of, items_data, members_data}
use Rattle.bep_tree.specs.inner.InRange.{is_in_range, items_in_range, members_in_range}

-- the thing, where a test passes
abbrev where_passed : {A : Type 0} → Bool → A → Option A
where_passed b a = cond b (Some a) None

number_read : (n : Option Num) → option_map number n ≡ where_passed (is_some n) (number_data n)
number_read None = refl
number_read (Some n) = refl

mapped : {A B : Type 0} (f : A → B) (b : Bool) (a : A) → option_map f (where_passed b a) ≡ where_passed b (f a)
mapped f true a = refl
mapped f false a = refl

both : (b c : Bool) (d : Data) (ds : Items) → option_and_then (λ e. option_map (item e) (where_passed c ds)) (where_passed b d) ≡ where_passed (b && c) (item d ds)
both true true d ds = refl
both true false d ds = refl
both false true d ds = refl
both false false d ds = refl

then : {A B : Type 0} (f : A → Option B) (b c : Bool) (a : A) (x : B) → f a ≡ where_passed c x → option_and_then f (where_passed b a) ≡ where_passed (b && c) x
then f true c a x e = e
then f false c a x e = refl

mutual
  pub read_is : (j : json.Json) → of_json j ≡ where_passed (is_in_range j) (data_of j)
  read_is json.null = refl
  read_is (json.boolean b) = refl
  read_is (json.number s) = number_read (number_of s)
  read_is (json.string s) = refl
  read_is (json.array js) = ap (option_map array) (items_are js) ∙ mapped array (items_in_range js) (items_data js)
  read_is (json.object ms) = ap (option_map object) (members_are ms no_members) ∙ mapped object (members_in_range ms) (members_data ms no_members)

  items_are : (js : json.Items) → of_items js ≡ where_passed (items_in_range js) (items_data js)
  items_are json.no_items = refl
  items_are (json.item j js) =
      ap (λ (more : Option Items). option_and_then (λ d. option_map (item d) more) (of_json j)) (items_are js)
      ∙ ap (option_and_then (λ d. option_map (item d) (where_passed (items_in_range js) (items_data js)))) (read_is j)
      ∙ both (is_in_range j) (items_in_range js) (data_of j) (items_data js)

  members_are : (ms : json.Members) (found : Members) → of_members ms found ≡ where_passed (members_in_range ms) (members_data ms found)
  members_are json.no_members found = refl
  members_are (json.member k j ms) found =
      ap (option_and_then (λ d. of_members ms (put k d found))) (read_is j)
      ∙ then (λ d. of_members ms (put k d found)) (is_in_range j) (members_in_range ms) (data_of j) (members_data ms (put k (data_of j) found)) (members_are ms (put k (data_of j) found))
