-- What a walk meets next, by what the grammar of `json` reads.
use Rattle.std.proofs.Common.{◌≡◌, ◌∙◌, ℕ, zero, suc, List, [], ◌∷◌, length, Option, Some, None, Result, Ok, Err, option_map, option_and_then, refl, sym, ap, subst}
use Rattle.json.specs.Token.{Token}
use Rattle.json.specs.Json as json
use Rattle.json.specs.Json.{Parse, parse_map, after_end_array, items_step, members_step, read_key, skip_value}
use Rattle.json.proofs.Found.{not_found, Some_inj}
use Rattle.json.proofs.Grammar.{value_is}
use Rattle.serde_json.specs.Data.{Data, Num, null, boolean, string, array, object, Items, no_items, item, Members, no_members, put}
use Rattle.serde_json.specs.Read.{number_of}
use Rattle.bep_tree.specs.View.{number_data, data_of, items_data, members_data}
use Rattle.bep_tree.specs.declared.walk.WalkError.{WalkError}
use Rattle.bep_tree.specs.Walk.{Stands, StandItems, StandMembers, Reaches, IsLeaf}

-- ---- what was read in two steps

-- the first step's thing, and that the second step was made with it
abbrev Steps : {A B : Type 0} → (A → Option B) → Option A → B → Type 0
Steps {A} f read b = (a : A) × (read ≡ Some a) × (f a ≡ Some b)

two_steps : {A B : Type 0} (f : A → Option B) (read : Option A) (b : B) → option_and_then f read ≡ Some b → Steps f read b
two_steps f None b is = not_found b is
two_steps f (Some a) b is = (a, refl, is)

-- what was read before it was mapped
abbrev IsMapped : {A B : Type 0} → (A → B) → Option (A × List Token) → B → List Token → Type 0
IsMapped {A} f read b rest = (a : A) × (read ≡ Some (a, rest)) × (b ≡ f a)

mapped : {A B : Type 0} (f : A → B) (read : Option (A × List Token)) (b : B) (rest : List Token) → parse_map f read ≡ Some (b, rest) → IsMapped f read b rest
mapped f None b rest is = not_found (b, rest) is
mapped f (Some p) b rest is = let both = Some_inj _ _ is in (p.0, ap (λ r. Some (p.0, r)) (ap (λ z. z.1) both), sym (ap (λ z. z.0) both))

-- ---- the items of a list

-- an item and what follows it
abbrev pub NextItem : ℕ → List Token → Items → List Token → Type 0
NextItem depth tokens ds rest = (d : Data) × (more : Items) × (next : List Token) × (ds ≡ item d more) × Stands depth tokens d next × StandItems depth next more rest

item_after : (depth n : ℕ) (tokens : List Token) (js : json.Items) (ds : Items) (rest : List Token)
    → option_and_then (λ p. parse_map (json.item p.0) (json.items (json.value depth) n p.1)) (json.value depth tokens) ≡ Some (js, rest) → ds ≡ items_data js → NextItem depth tokens ds rest
item_after depth n tokens js ds rest is seen =
    let first = two_steps (λ p. parse_map (json.item p.0) (json.items (json.value depth) n p.1)) (json.value depth tokens) (js, rest) is in
    let others = mapped (json.item first.0.0) (json.items (json.value depth) n first.0.1) js rest first.2 in (
      data_of first.0.0,
      items_data others.0,
      first.0.1,
      seen ∙ ap items_data others.2,
      (first.0.0, first.1, refl),
      (n, others.0, others.1, refl),
    )

pub item_comes : (depth : ℕ) (tokens : List Token) (ds : Items) (rest : List Token) → after_end_array tokens ≡ None → StandItems depth tokens ds rest → NextItem depth tokens ds rest
unfolding json.items
item_comes depth tokens ds rest going (zero, js, is, seen) = not_found (js, rest) is
item_comes depth tokens ds rest going (suc n, js, is, seen) =
    item_after depth n tokens js ds rest (ap (items_step (json.value depth) (json.items (json.value depth) n) tokens) (sym going) ∙ is) seen

pub list_ends : (depth : ℕ) (tokens next : List Token) (ds : Items) (rest : List Token) → after_end_array tokens ≡ Some next → StandItems depth tokens ds rest → (ds ≡ no_items) × (next ≡ rest)
unfolding json.items
list_ends depth tokens next ds rest closed (zero, js, is, seen) = not_found (js, rest) is
list_ends depth tokens next ds rest closed (suc n, js, is, seen) =
    let both = Some_inj _ _ (ap (items_step (json.value depth) (json.items (json.value depth) n) tokens) (sym closed) ∙ is) in
    (seen ∙ ap items_data (sym (ap (λ z. z.0) both)), ap (λ z. z.1) both)

-- ---- the members of an object

-- a member's value and what follows it
abbrev pub NextMember : ℕ → List ℕ → List Token → Members → Members → List Token → Type 0
NextMember depth key tokens found ms rest = (d : Data) × (next : List Token) × Stands depth tokens d next × StandMembers depth next (put key d found) ms rest

member_after : (depth n : ℕ) (key : List ℕ) (tokens : List Token) (found : Members) (js : json.Members) (ms : Members) (rest : List Token)
    → option_and_then (λ p. parse_map (json.member key p.0) (json.members (json.value depth) n p.1)) (json.value depth tokens) ≡ Some (js, rest) → ms ≡ members_data js found
    → NextMember depth key tokens found ms rest
member_after depth n key tokens found js ms rest is seen =
    let first = two_steps (λ p. parse_map (json.member key p.0) (json.members (json.value depth) n p.1)) (json.value depth tokens) (js, rest) is in
    let others = mapped (json.member key first.0.0) (json.members (json.value depth) n first.0.1) js rest first.2 in
    (data_of first.0.0, first.0.1, (first.0.0, first.1, refl), (n, others.0, others.1, seen ∙ ap (λ ms. members_data ms found) others.2))

pub member_comes : (depth : ℕ) (key : List ℕ) (tokens next : List Token) (found ms : Members) (rest : List Token) → read_key tokens ≡ Some (Some key, next) → StandMembers depth tokens found ms rest
    → NextMember depth key next found ms rest
unfolding json.members
member_comes depth key tokens next found ms rest is_key (zero, js, is, seen) = not_found (js, rest) is
member_comes depth key tokens next found ms rest is_key (suc n, js, is, seen) =
    member_after depth n key next found js ms rest (ap (option_and_then (λ p. members_step (json.value depth) (json.members (json.value depth) n) p.0 p.1)) (sym is_key) ∙ is) seen

pub object_ends : (depth : ℕ) (tokens next : List Token) (found ms : Members) (rest : List Token) → read_key tokens ≡ Some (None, next) → StandMembers depth tokens found ms rest
    → (ms ≡ found) × (next ≡ rest)
unfolding json.members
object_ends depth tokens next found ms rest closed (zero, js, is, seen) = not_found (js, rest) is
object_ends depth tokens next found ms rest closed (suc n, js, is, seen) =
    let both = Some_inj _ _ (ap (option_and_then (λ p. members_step (json.value depth) (json.members (json.value depth) n) p.0 p.1)) (sym closed) ∙ is) in
    (seen ∙ ap (λ js. members_data js found) (sym (ap (λ z. z.0) both)), ap (λ z. z.1) both)

pub key_comes : (depth : ℕ) (tokens : List Token) (found ms : Members) (rest : List Token) → read_key tokens ≡ None → StandMembers depth tokens found ms rest → ⊥
unfolding json.members
key_comes depth tokens found ms rest none (zero, js, is, seen) = not_found (js, rest) is
key_comes depth tokens found ms rest none (suc n, js, is, seen) =
    not_found (js, rest) (ap (option_and_then (λ p. members_step (json.value depth) (json.members (json.value depth) n) p.0 p.1)) (sym none) ∙ is)

-- ---- the value that comes next

pub value_passed : (depth : ℕ) (tokens next : List Token) (d : Data) (rest : List Token) → skip_value depth tokens ≡ Some next → Stands depth tokens d rest → next ≡ rest
value_passed depth tokens next d rest passed (j, is, seen) = Some_inj _ _ (sym passed ∙ ap (option_map (λ p. p.1)) is)

pub no_value : (depth : ℕ) (tokens : List Token) (d : Data) (rest : List Token) → skip_value depth tokens ≡ None → Stands depth tokens d rest → ⊥
no_value depth tokens d rest none (j, is, seen) = not_found rest (sym none ∙ ap (option_map (λ p. p.1)) is)

-- what a value is that begins with this token
abbrev pub Meets : Token → ℕ → Data → List Token → List Token → Type 0
Meets Token.begin_object zero d next rest = ⊥
Meets Token.begin_object (suc depth) d next rest = (ms : Members) × (d ≡ object ms) × StandMembers depth next no_members ms rest
Meets Token.end_object depth d next rest = ⊥
Meets Token.begin_array zero d next rest = ⊥
Meets Token.begin_array (suc depth) d next rest = (ds : Items) × (d ≡ array ds) × StandItems depth next ds rest
Meets Token.end_array depth d next rest = ⊥
Meets (Token.key s) depth d next rest = ⊥
Meets (Token.string s) depth d next rest = (string s ≡ d) × IsLeaf d × (next ≡ rest)
Meets (Token.number s) depth d next rest = (number_data (number_of s) ≡ d) × IsLeaf d × (next ≡ rest)
Meets (Token.boolean b) depth d next rest = (boolean b ≡ d) × IsLeaf d × (next ≡ rest)
Meets Token.null depth d next rest = (null ≡ d) × IsLeaf d × (next ≡ rest)
Meets Token.bad depth d next rest = ⊥

-- a number is no list and no object
number_is_leaf : (n : Option Num) → IsLeaf (number_data n)
number_is_leaf None = (refl, refl)
number_is_leaf (Some n) = (refl, refl)

-- the value that was read is this one, and so is what follows
leaf : (i j : json.Json) (next : List Token) (d : Data) (rest : List Token) → IsLeaf (data_of i) → ◌≡◌ {A = Option (json.Json × List Token)} (Some (i, next)) (Some (j, rest)) → d ≡ data_of j
    → (data_of i ≡ d) × IsLeaf d × (next ≡ rest)
leaf i j next d rest is_leaf is seen =
    let both : ◌≡◌ {A = json.Json × List Token} (i, next) (j, rest) = Some_inj (i, next) (j, rest) is in
    let same : data_of i ≡ d = ap (λ p. data_of p.0) both ∙ sym seen in
    (same, subst IsLeaf same is_leaf, ap (λ p. p.1) both)

pub meets : (t : Token) (depth : ℕ) (next : List Token) (d : Data) (rest : List Token) → Stands depth (t ∷ next) d rest → Meets t depth d next rest
unfolding json.value
meets Token.begin_object zero next d rest (j, is, seen) = not_found (j, rest) is
meets Token.begin_object (suc depth) next d rest (j, is, seen) =
    let inside = mapped json.object (json.members (json.value depth) (length next) next) j rest is in
    (members_data inside.0 no_members, seen ∙ ap data_of inside.2, (length next, inside.0, inside.1, refl))
meets Token.end_object depth next d rest (j, is, seen) = not_found (j, rest) (sym (value_is depth (Token.end_object ∷ next)) ∙ is)
meets Token.begin_array zero next d rest (j, is, seen) = not_found (j, rest) is
meets Token.begin_array (suc depth) next d rest (j, is, seen) =
    let inside = mapped json.array (json.items (json.value depth) (length next) next) j rest is in
    (items_data inside.0, seen ∙ ap data_of inside.2, (length next, inside.0, inside.1, refl))
meets Token.end_array depth next d rest (j, is, seen) = not_found (j, rest) (sym (value_is depth (Token.end_array ∷ next)) ∙ is)
meets (Token.key s) depth next d rest (j, is, seen) = not_found (j, rest) (sym (value_is depth (Token.key s ∷ next)) ∙ is)
meets (Token.string s) depth next d rest (j, is, seen) = leaf (json.string s) j next d rest (refl, refl) (sym (value_is depth (Token.string s ∷ next)) ∙ is) seen
meets (Token.number s) depth next d rest (j, is, seen) = leaf (json.number s) j next d rest (number_is_leaf (number_of s)) (sym (value_is depth (Token.number s ∷ next)) ∙ is) seen
meets (Token.boolean b) depth next d rest (j, is, seen) = leaf (json.boolean b) j next d rest (refl, refl) (sym (value_is depth (Token.boolean b ∷ next)) ∙ is) seen
meets Token.null depth next d rest (j, is, seen) = leaf json.null j next d rest (refl, refl) (sym (value_is depth (Token.null ∷ next)) ∙ is) seen
meets Token.bad depth next d rest (j, is, seen) = not_found (j, rest) (sym (value_is depth (Token.bad ∷ next)) ∙ is)

pub nothing_begins : (depth : ℕ) (d : Data) (rest : List Token) → Stands depth [] d rest → ⊥
nothing_begins depth d rest (j, is, seen) = not_found (j, rest) (sym (value_is depth []) ∙ is)

-- ---- what was reached

-- where all that is so as said first is so as said then, what was reached is so
pub reaches_so : {X : Type 0} (first then : X → Type 0) (result : Result X WalkError) → ((x : X) → first x → then x) → Reaches result first → Reaches result then
reaches_so first then (Ok x) so reached = so x reached
reaches_so first then (Err error) so reached = reached
