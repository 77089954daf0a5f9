-- Whether the members of an object have names among several, as they are put in one after another.
use Rattle.std.proofs.Common.{◌≡◌, ◌∙◌, ℕ, List, Bool, true, false, ◌&&◌, Ordering, Less, Equal, Greater, nat_cmp, is_eq, refl, sym, ap}
use Rattle.std.specs.Ordering.{match_ordering}
use Rattle.std.specs.Cmp.Lexicographic.{slice_cmp}
use Rattle.std.proofs.lemmas.Slice.Eq.{bytes_eq-Decides}
use Rattle.std.proofs.lemmas.Map.Text.{is_eq-slice_cmp}
use Rattle.json.specs.Json as json
use Rattle.serde_json.specs.Data.{Data, Members, no_members, member, put}
use Rattle.bep_tree.specs.Names.{is_among, are_among}
use Rattle.bep_tree.specs.View.{data_of, members_data}

-- ---- what is asked of each, in another order

once_more : (a b : Bool) → a && b ≡ a && (a && b)
once_more true b = refl
once_more false b = refl

swapped : (a b c : Bool) → a && (b && c) ≡ b && (a && c)
swapped true true c = refl
swapped true false c = refl
swapped false true c = refl
swapped false false c = refl

grouped : (a b c : Bool) → a && (b && c) ≡ (b && a) && c
grouped true true c = refl
grouped true false c = refl
grouped false true c = refl
grouped false false c = refl

and_false : (a : Bool) → a && false ≡ false
and_false true = refl
and_false false = refl

-- ---- members that are put in one after another

put_at : (names : List (List ℕ)) (o : Ordering) (k l : List ℕ) (d e : Data) (ms : Members) → slice_cmp nat_cmp k l ≡ o
    → are_among names (put k d ms) ≡ is_among k names && are_among names ms
    → are_among names (match_ordering o (member k d (member l e ms)) (member l d ms) (member l e (put k d ms))) ≡ is_among k names && (is_among l names && are_among names ms)
put_at names Less k l d e ms is later = refl
put_at names Equal k l d e ms is later =
    let same : k ≡ l = (bytes_eq-Decides k l).0 (sym (is_eq-slice_cmp k l) ∙ ap is_eq is) in
    once_more (is_among l names) (are_among names ms) ∙ ap (λ key. is_among key names && (is_among l names && are_among names ms)) (sym same)
put_at names Greater k l d e ms is later =
    ap (λ b. is_among l names && b) later ∙ swapped (is_among l names) (is_among k names) (are_among names ms)

pub put_among : (names : List (List ℕ)) (k : List ℕ) (d : Data) (ms : Members) → are_among names (put k d ms) ≡ is_among k names && are_among names ms
put_among names k d no_members = refl
put_among names k d (member l e ms) = put_at names (slice_cmp nat_cmp k l) k l d e ms refl (put_among names k d ms)

abbrev keys_among : List (List ℕ) → json.Members → Bool
keys_among names json.no_members = true
keys_among names (json.member k j ms) = is_among k names && keys_among names ms

all_put : (names : List (List ℕ)) (ms : json.Members) (found : Members) → are_among names (members_data ms found) ≡ keys_among names ms && are_among names found
all_put names json.no_members found = refl
all_put names (json.member k j ms) found =
    all_put names ms (put k (data_of j) found)
    ∙ ap (λ b. keys_among names ms && b) (put_among names k (data_of j) found)
    ∙ grouped (keys_among names ms) (is_among k names) (are_among names found)

-- a member of another name stays among those that are put to it
pub stays_strange : (names : List (List ℕ)) (js : json.Members) (found : Members) → are_among names found ≡ false → are_among names (members_data js found) ≡ false
stays_strange names js found strange = all_put names js found ∙ ap (λ b. keys_among names js && b) strange ∙ and_false (keys_among names js)
