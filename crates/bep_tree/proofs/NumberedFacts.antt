-- The whole number at a member of a value, a member at a time.
use Rattle.std.proofs.Common.{◌≡◌, ◌∙◌, ℕ, zero, suc, ◌-◌, ◌<◌, inl, inr, List, [], ◌∷◌, Bool, true, false, ◌&&◌, cond, Option, Some, None, is_some, option_map, option_and_then, IsUtf8, MatchOption, refl, sym, ap, arith}
use Rattle.std.specs.Str.{bytes_eq}
use Rattle.json.specs.Find as tree
use Rattle.json.specs.Find.{later_or}
use Rattle.json.specs.Json as json
use Rattle.json.specs.Json.{items, members, value}
use Rattle.json.specs.Lex.{tokens}
use Rattle.json.specs.Reads.{token_of}
use Rattle.json.specs.Token.{Token}
use Rattle.json.specs.declared.token.Token.{Token as TokenOf}
use Rattle.json.specs.declared.token.Token.TheVariants as variants
use Rattle.json.proofs.Grammar.{members_more, members_fail, value_is}
use Rattle.serde_json.specs.Data.{Data}
use Rattle.serde_json.specs.Find.{as_number, as_u64}
use Rattle.serde_json.specs.Read.{max_depth, number_of}
use Rattle.bep_tree.specs.Number.{number_at, whole_number}
use Rattle.bep_tree.specs.Read.{tree_of}
use Rattle.bep_tree.specs.View.{data_of, number_data}
use Rattle.bep_tree.specs.inner.InRange.{is_in_range, members_in_range}
use Rattle.bep_tree.specs.inner.Numbered.{whole_of, whole_begun, numbered, last_number, found_among, found_in}
use Rattle.bep_tree.specs.inner.Passed.{after, after_value}
use Rattle.bep_tree.proofs.Found.{is_found}
use Rattle.bep_tree.proofs.OneValue.{read_if_last, not_read}
use Rattle.bep_tree.proofs.Passing.{not_passed}
use Rattle.bep_tree.proofs.Text.{of_text, of_good_json}

-- ---- a value
abbrev number_told : Option (Option ℕ × List Token) → Option ℕ
number_told None = None
number_told (Some p) = p.0

abbrev rest_in : {A : Type 0} → List Token → Option (A × List Token) → List Token
rest_in ts None = ts
rest_in ts (Some p) = p.1

abbrev json_in : Option (json.Json × List Token) → json.Json
json_in None = json.null
json_in (Some p) = p.0

-- a value that was passed, and the number that it is
number_passed : (o : Option (json.Json × List Token)) (x : Option ℕ) (rest : List Token) → numbered o ≡ Some (x, rest)
    → (j : json.Json) × (o ≡ Some (j, rest)) × (is_in_range j ≡ true) × (whole_of j ≡ x)
number_passed None x rest e = absurd (cc)
number_passed (Some p) x rest e = by_test (is_in_range p.0) refl e
  where
    by_test : (b : Bool) → is_in_range p.0 ≡ b → cond {A = Option (Option ℕ × List Token)} b (Some (whole_of p.0, p.1)) None ≡ Some (x, rest)
        → (j : json.Json) × (◌≡◌ {A = Option (json.Json × List Token)} (Some p) (Some (j, rest))) × (is_in_range j ≡ true) × (whole_of j ≡ x)
    by_test true f g = (p.0, ap (λ x. Some (p.0, x)) (ap (rest_in p.1) g), f, ap number_told g)
    by_test false f g = absurd (cc)

as_after : (o : Option (json.Json × List Token)) → numbered o ≡ None → after is_in_range o ≡ None
as_after None e = refl
as_after (Some p) e = by_test (is_in_range p.0) e
  where
    by_test : (b : Bool) → cond {A = Option (Option ℕ × List Token)} b (Some (whole_of p.0, p.1)) None ≡ None → cond b (Some p.1) None ≡ None
    by_test true f = absurd (cc)
    by_test false f = refl

whole_in : (s : List ℕ) → whole_of (json.number s) ≡ option_and_then as_u64 (number_of s)
whole_in s = by_number (number_of s)
  where
    by_number : (n : Option _) → option_and_then as_u64 (as_number (number_data n)) ≡ option_and_then as_u64 n
    by_number None = refl
    by_number (Some n) = refl

-- ---- members
found_mapped : (name k : List ℕ) (found x : Option ℕ) (j : json.Json) → is_in_range j ≡ true → whole_of j ≡ x → (o : Option (json.Members × List Token))
    → found_among name found (json.parse_map (json.member k j) o) ≡ found_among name (cond (bytes_eq k name) x found) o
found_mapped name k found x j fits is None = refl
found_mapped name k found x j fits is (Some p) =
    ap (λ b. cond (b && members_in_range p.0) (Some (last_number name (cond (bytes_eq k name) (whole_of j) found) p.0, p.1)) None) fits
    ∙ ap (λ y. cond (members_in_range p.0) (Some (last_number name (cond (bytes_eq k name) y found) p.0, p.1)) None) is

none_mapped : (name k : List ℕ) (found : Option ℕ) (j : json.Json) → is_in_range j ≡ false → (o : Option (json.Members × List Token)) → found_among name found (json.parse_map (json.member k j) o) ≡ None
none_mapped name k found j fails None = refl
none_mapped name k found j fails (Some p) = ap (λ b. cond (b && members_in_range p.0) (Some (last_number name (cond (bytes_eq k name) (whole_of j) found) p.0, p.1)) None) fails

module _ (p : json.Parse json.Json) (name : List ℕ) where
  pub found_more : (n : ℕ) (ts s rest : List Token) (k : List ℕ) (found x : Option ℕ) → 0 < n → json.read_key ts ≡ Some (Some k, s) → numbered (p s) ≡ Some (x, rest)
      → found_among name found (members p n ts) ≡ found_among name (cond (bytes_eq k name) x found) (members p (n - 1) rest)
  found_more n ts s rest k found x some e f =
      let j = number_passed (p s) x rest f in
      ap (found_among name found) (members_more p n k ts s rest j.0 some e j.1) ∙ found_mapped name k found x j.0 j.2 j.3 _

  pub found_none : (n : ℕ) (ts s : List Token) (k : List ℕ) (found : Option ℕ) → json.read_key ts ≡ Some (Some k, s) → numbered (p s) ≡ None → found_among name found (members p n ts) ≡ None
  unfolding members
  found_none zero ts s k found e f = refl
  found_none (suc n) ts s k found e f =
      elim (not_passed (p s) (as_after (p s) f)) [
        | inl none ↦ ap (found_among name found) (members_fail p (suc n) k ts s e none)
        | inr j ↦ ap (found_among name found) (members_more p (suc n) k ts s j.1 j.0 (omega arith) e j.2) ∙ none_mapped name k found j.0 j.3 _
      ]

-- ---- the whole value
-- the whole number that this value is, if there is one; else what was found before
abbrev or_before : Option ℕ → Option json.Json → Option ℕ
or_before found None = found
or_before found (Some j) = whole_of j

later : (same : Bool) (found : Option ℕ) (j : json.Json) (last : Option json.Json) → or_before (cond same (whole_of j) found) last ≡ or_before found (later_or last (cond same (Some j) None))
later true found j None = refl
later false found j None = refl
later true found j (Some i) = refl
later false found j (Some i) = refl

last_found : (name : List ℕ) (ms : json.Members) (found : Option ℕ) → last_number name found ms ≡ or_before found (tree.get_member name ms)
last_found name json.no_members found = refl
last_found name (json.member k j ms) found = last_found name ms (cond (bytes_eq k name) (whole_of j) found) ∙ later (bytes_eq k name) found j (tree.get_member name ms)

or_none : (o : Option json.Json) → or_before None o ≡ option_and_then whole_of o
or_none None = refl
or_none (Some j) = refl

pub found_in_object : (name : List ℕ) (o : Option (json.Members × List Token)) → found_in name (json.parse_map json.object o) ≡ found_among name None o
found_in_object name None = refl
found_in_object name (Some p) = ap (λ x. cond (members_in_range p.0) (Some (x, p.1)) None) (sym (last_found name p.0 None ∙ or_none (tree.get_member name p.0)))

-- a value that has no members
no_member : (name : List ℕ) (o : Option (json.Json × List Token)) → ((j : json.Json) (rest : List Token) → o ≡ Some (j, rest) → tree.get name j ≡ None)
    → found_in name o ≡ option_map (λ rest. (None, rest)) (after is_in_range o)
no_member name None none = refl
no_member name (Some p) none = by_test (is_in_range p.0)
  where
    by_test : (b : Bool) → cond {A = Option (Option ℕ × List Token)} b (Some (option_and_then whole_of (tree.get name p.0), p.1)) None ≡ option_map (λ rest. (None, rest)) (cond b (Some p.1) None)
    by_test true = ap (λ o. Some (option_and_then whole_of o, p.1)) (none p.0 p.1 refl)
    by_test false = refl

abbrev pub is_opening : Token → Bool
is_opening Token.begin_object = true
is_opening Token.end_object = false
is_opening Token.begin_array = false
is_opening Token.end_array = false
is_opening (Token.key s) = false
is_opening (Token.string s) = false
is_opening (Token.number s) = false
is_opening (Token.boolean b) = false
is_opening Token.null = false
is_opening Token.bad = false

-- a value that begins with another token than an object's brace has no members
given : (name : List ℕ) (i : json.Json) (ts : List Token) → tree.get name i ≡ None → (j : json.Json) (rest : List Token) → ◌≡◌ {A = Option (json.Json × List Token)} (Some (i, ts)) (Some (j, rest)) → tree.get name j ≡ None
given name i ts none j rest e = ap (tree.get name) (sym (ap json_in e)) ∙ none

given_list : (name : List ℕ) (o : Option (json.Items × List Token)) (j : json.Json) (rest : List Token) → json.parse_map json.array o ≡ Some (j, rest) → tree.get name j ≡ None
given_list name None j rest e = absurd (cc)
given_list name (Some p) j rest e = given name (json.array p.0) p.1 refl j rest e

no_member_with : (name : List ℕ) (a : json.Parse json.Items) (o : json.Parse json.Members) (t : Token) (ts : List Token) → is_opening t ≡ false
    → (j : json.Json) (rest : List Token) → json.value_with a o (t ∷ ts) ≡ Some (j, rest) → tree.get name j ≡ None
no_member_with name a o Token.begin_object ts other j rest e = absurd (cc)
no_member_with name a o Token.end_object ts other j rest e = absurd (cc)
no_member_with name a o Token.begin_array ts other j rest e = given_list name (a ts) j rest e
no_member_with name a o Token.end_array ts other j rest e = absurd (cc)
no_member_with name a o (Token.key s) ts other j rest e = absurd (cc)
no_member_with name a o (Token.string s) ts other j rest e = given name (json.string s) ts refl j rest e
no_member_with name a o (Token.number s) ts other j rest e = given name (json.number s) ts refl j rest e
no_member_with name a o (Token.boolean b) ts other j rest e = given name (json.boolean b) ts refl j rest e
no_member_with name a o Token.null ts other j rest e = given name json.null ts refl j rest e
no_member_with name a o Token.bad ts other j rest e = absurd (cc)

pub found_elsewhere : (name : List ℕ) (depth : ℕ) (t : Token) (ts : List Token) → is_opening t ≡ false
    → found_in name (value depth (t ∷ ts)) ≡ option_map (λ rest. (None, rest)) (after_value depth (t ∷ ts))
found_elsewhere name depth t ts other = no_member name (value depth (t ∷ ts)) (λ j rest e. no_member_with name _ _ t ts other j rest (sym (value_is depth (t ∷ ts)) ∙ e))

-- ---- what a value is that begins with a token
begun_list : (o : Option (json.Items × List Token)) → numbered (json.parse_map json.array o) ≡ option_map (λ rest. (None, rest)) (after is_in_range (json.parse_map json.array o))
begun_list None = refl
begun_list (Some p) = by_test (is_in_range (json.array p.0))
  where
    by_test : (b : Bool) → cond {A = Option (Option ℕ × List Token)} b (Some (None, p.1)) None ≡ option_map (λ rest. (None, rest)) (cond b (Some p.1) None)
    by_test true = refl
    by_test false = refl

begun_object : (o : Option (json.Members × List Token)) → numbered (json.parse_map json.object o) ≡ option_map (λ rest. (None, rest)) (after is_in_range (json.parse_map json.object o))
begun_object None = refl
begun_object (Some p) = by_test (is_in_range (json.object p.0))
  where
    by_test : (b : Bool) → cond {A = Option (Option ℕ × List Token)} b (Some (None, p.1)) None ≡ option_map (λ rest. (None, rest)) (cond b (Some p.1) None)
    by_test true = refl
    by_test false = refl

begun_number : (s : List ℕ) (ts : List Token) → numbered (Some (json.number s, ts)) ≡ option_map (λ rest. (option_and_then as_u64 (number_of s), rest)) (after is_in_range (Some (json.number s, ts)))
begun_number s ts = ap (λ x. cond (is_in_range (json.number s)) (Some (x, ts)) None) (whole_in s) ∙ by_test (is_in_range (json.number s))
  where
    by_test : (b : Bool) → cond {A = Option (Option ℕ × List Token)} b (Some (option_and_then as_u64 (number_of s), ts)) None ≡ option_map (λ rest. (option_and_then as_u64 (number_of s), rest)) (cond b (Some ts) None)
    by_test true = refl
    by_test false = refl

number_begun : (a : json.Parse json.Items) (o : json.Parse json.Members) (t : Token) (ts : List Token)
    → numbered (json.value_with a o (t ∷ ts)) ≡ option_map (λ rest. (whole_begun t, rest)) (after is_in_range (json.value_with a o (t ∷ ts)))
number_begun a o Token.begin_object ts = begun_object (o ts)
number_begun a o Token.end_object ts = refl
number_begun a o Token.begin_array ts = begun_list (a ts)
number_begun a o Token.end_array ts = refl
number_begun a o (Token.key s) ts = refl
number_begun a o (Token.string s) ts = refl
number_begun a o (Token.number s) ts = begun_number s ts
number_begun a o (Token.boolean b) ts = refl
number_begun a o Token.null ts = refl
number_begun a o Token.bad ts = refl

pub numbered_as_begun : (depth : ℕ) (t : Token) (ts : List Token) → numbered (value depth (t ∷ ts)) ≡ option_map (λ rest. (whole_begun t, rest)) (after_value depth (t ∷ ts))
numbered_as_begun depth t ts = ap numbered (value_is depth (t ∷ ts)) ∙ number_begun _ _ t ts ∙ ap (λ o. option_map (λ rest. (whole_begun t, rest)) (after is_in_range o)) (sym (value_is depth (t ∷ ts)))

-- ---- a document
whole_found : (o : Option json.Json) → option_and_then whole_of o ≡ option_and_then whole_number (option_map data_of o)
whole_found None = refl
whole_found (Some j) = refl

found_whole : (name : List ℕ) (o : Option (json.Json × List Token)) (x : Option ℕ) (rest : List Token) → found_in name o ≡ Some (x, rest)
    → (j : json.Json) × (o ≡ Some (j, rest)) × (is_in_range j ≡ true) × (x ≡ number_at name (data_of j))
found_whole name None x rest e = absurd (cc)
found_whole name (Some p) x rest e = by_test (is_in_range p.0) refl e
  where
    by_test : (b : Bool) → is_in_range p.0 ≡ b → cond {A = Option (Option ℕ × List Token)} b (Some (option_and_then whole_of (tree.get name p.0), p.1)) None ≡ Some (x, rest)
        → (j : json.Json) × (◌≡◌ {A = Option (json.Json × List Token)} (Some p) (Some (j, rest))) × (is_in_range j ≡ true) × (x ≡ number_at name (data_of j))
    by_test true f g = (p.0, ap (λ x. Some (p.0, x)) (ap (rest_in p.1) g), f, sym (ap number_told g) ∙ whole_found (tree.get name p.0) ∙ ap (option_and_then whole_number) (sym (is_found name p.0)))
    by_test false f g = absurd (cc)

not_found : (name : List ℕ) (o : Option (json.Json × List Token)) → found_in name o ≡ None → after is_in_range o ≡ None
not_found name None e = refl
not_found name (Some p) e = by_test (is_in_range p.0) e
  where
    by_test : (b : Bool) → cond {A = Option (Option ℕ × List Token)} b (Some (option_and_then whole_of (tree.get name p.0), p.1)) None ≡ None → cond b (Some p.1) None ≡ None
    by_test true f = absurd (cc)
    by_test false f = refl

is_none_as : {A : Type 0} (o : Option A) → is_some o ≡ false → o ≡ None
is_none_as None e = refl
is_none_as (Some a) e = absurd (cc)

pub document_found : (name text : List ℕ) (x : Option ℕ) → IsUtf8 text → found_in name (value max_depth (tokens text)) ≡ Some (x, []) → (d : Data) × (tree_of text ≡ Some d) × (x ≡ number_at name d)
document_found name text x utf8 e =
    let whole = found_whole name (value max_depth (tokens text)) x [] e in
    (data_of whole.0, of_good_json text whole.0 utf8 (ap (option_and_then (λ p. json.if_last p.0 p.1)) whole.1) whole.2, whole.3)

pub no_document : (name text : List ℕ) → IsUtf8 text → found_in name (value max_depth (tokens text)) ≡ None → tree_of text ≡ None
no_document name text utf8 e = of_text text utf8 ∙ is_none_as _ (not_read (tokens text) (not_found name (value max_depth (tokens text)) e))

pub more_than_document : (name text : List ℕ) (x : Option ℕ) (t : Token) (rest : List Token) → IsUtf8 text → found_in name (value max_depth (tokens text)) ≡ Some (x, t ∷ rest) → tree_of text ≡ None
more_than_document name text x t rest utf8 e =
    let whole = found_whole name (value max_depth (tokens text)) x (t ∷ rest) e in
    of_text text utf8 ∙ is_none_as _ (read_if_last (tokens text) (t ∷ rest) (ap (after is_in_range) whole.1 ∙ ap (λ b. cond b (Some (t ∷ rest)) None) whole.2))

pub as_found : (o : Option (List Token)) (f : Option (Option ℕ × List Token)) → f ≡ option_map (λ rest. (None, rest)) o → (r : Option (Option ℕ)) (new : List Token)
    → MatchOption r (o ≡ None) (λ number. (number ≡ None) × (o ≡ Some new)) → MatchOption r (f ≡ None) (λ number. f ≡ Some (number, new))
as_found o f e None new is = e ∙ ap (option_map (λ rest. (None, rest))) is
as_found o f e (Some number) new is = e ∙ ap (option_map (λ rest. (None, rest))) is.1 ∙ ap (λ n. Some (n, new)) (sym is.0)

pub not_opening : (t : TokenOf) → (t ≡ variants.BeginObject → ⊥) → is_opening (token_of t) ≡ false
not_opening variants.BeginObject other = absurd (other refl)
not_opening variants.EndObject other = refl
not_opening variants.BeginArray other = refl
not_opening variants.EndArray other = refl
not_opening (variants.Key s) other = refl
not_opening (variants.String s) other = refl
not_opening (variants.Number s) other = refl
not_opening (variants.Bool b) other = refl
not_opening variants.Null other = refl
not_opening variants.Bad other = refl
