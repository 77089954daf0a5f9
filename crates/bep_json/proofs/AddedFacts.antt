-- Values that are written part by part: what the parts make.
use Rattle.std.proofs.Common.{◌≡◌, ◌<◌, ◌^◌, ℕ, ℤ, pos, negsuc, List, [], ◌∷◌, ◌++◌, Ok, Some, map, option_map, option_and_then, decimal, cond, false, Bool, refl, sym, ap, ap₂, subst, ◌∙◌, append_assoc, arith}
use Rattle.std.specs.Fmt.{signed_decimal}
use mir.Syntax.{w64}
use mir.Val.{SFits}
use Rattle.json.specs.Token.{Token}
use Rattle.json.specs.Json as json
use Rattle.json.specs.Tree.{json_tokens}
use Rattle.json.specs.Written.{Written, Writes}
use Rattle.serde_json.specs.Data.{Data, boolean, number, string, array, object, unsigned, negative, Num, Items, no_items, item, Members, no_members, member, put}
use Rattle.serde_json.specs.Find.{is_float}
use Rattle.serde_json.specs.Read.{of_items, of_members, number_of}
use Rattle.serde_json.specs.Written.{outline, items_outline, members_outline, number_text}
use Rattle.serde_json.specs.View.{items_of}
use Rattle.serde_json.proofs.Numbers.{number_of-decimal, number_of-negative}
use Rattle.serde_json.proofs.Texts.{unless_float-number_of}
use Rattle.bep_json.specs.Added.{Follow, IsReadable, Adds, AddsMember, AddsItems, AddsMembers, put_all}
use Rattle.bep_json.specs.Written.{whole, signed}

-- ---- tokens behind tokens
-- a token was written
pub one_token : {E : Type 0} {u : Unit {0}} {a b : Written} {t : Token} → Writes {E = E} (Ok u) a b t → Follow (t ∷ []) a b
one_token w = record { before = w.room.0; tokens = w.ok }

further : {ts us : List Token} {a b c : Written} → Follow ts a b → Follow us b c → Follow (ts ++ us) a c
further {ts} {us} {a} first next = record {
  before = next.before ∙ first.before;
  tokens = next.tokens ∙ ap (λ l. l ++ us) first.tokens ∙ append_assoc a.tokens ts us;
}

-- ---- numbers
readable_number : (n : Num) → is_float n ≡ false → number_of (number_text n) ≡ Some n → IsReadable (number n)
readable_number n exact reads = record {
  reads = ap (option_map number) reads;
  whole = ap json.number (unless_float-number_of (number_text n) n reads ∙ ap (λ b. cond b [] (number_text n)) exact);
}

pub whole_readable : (n : ℕ) → n < 2 ^ 64 → IsReadable (whole n)
whole_readable n h = readable_number (unsigned n) refl (number_of-decimal n h)

pub signed_readable : (z : ℤ) → SFits w64 z → IsReadable (signed z)
signed_readable (pos n) h = whole_readable n (omega (arith, h.sfits))
signed_readable (negsuc n) h = readable_number (negative (negsuc n)) refl (number_of-negative n (omega (arith, h.sfits)))

pub signed_text : (z : ℤ) → outline (signed z) ≡ json.number (signed_decimal z)
signed_text (pos n) = refl
signed_text (negsuc n) = refl

-- ---- values without parts
pub number_added : {E : Type 0} {u : Unit {0}} {a b : Written} (n : ℕ) → n < 2 ^ 64 → Writes {E = E} (Ok u) a b (Token.number (decimal n)) → Adds (whole n) a b
number_added n h w = record { follow = one_token w; readable = whole_readable n h }

pub signed_added : {E : Type 0} {u : Unit {0}} {a b : Written} (z : ℤ) → SFits w64 z → Writes {E = E} (Ok u) a b (Token.number (signed_decimal z)) → Adds (signed z) a b
signed_added {a = a} {b = b} z h w = record {
  follow = subst (λ j. Follow (json_tokens j) a b) (sym (signed_text z)) (one_token w);
  readable = signed_readable z h;
}

pub text_added : {E : Type 0} {u : Unit {0}} {a b : Written} (s : List ℕ) → Writes {E = E} (Ok u) a b (Token.string s) → Adds (string s) a b
text_added s w = record { follow = one_token w; readable = record { reads = refl; whole = refl } }

pub flag_added : {E : Type 0} {u : Unit {0}} {a b : Written} (flag : Bool) → Writes {E = E} (Ok u) a b (Token.boolean flag) → Adds (boolean flag) a b
flag_added flag w = record { follow = one_token w; readable = record { reads = refl; whole = refl } }

-- ---- lists
-- the last bracket of a list
pub no_more_items : {E : Type 0} {u : Unit {0}} {a b : Written} → Writes {E = E} (Ok u) a b Token.end_array → AddsItems no_items a b
no_more_items w = record { follow = one_token w; reads = refl; whole = refl }

-- an item, and what stands behind it
pub item_more : {d : Data} {ds : Items} {a b c : Written} → Adds d a b → AddsItems ds b c → AddsItems (item d ds) a c
item_more {d} {ds} first rest = record {
  follow = further first.follow rest.follow;
  reads = ap (option_and_then (λ e. option_map (item e) (of_items (items_outline ds)))) first.readable.reads ∙ ap (option_map (item d)) rest.reads;
  whole = ap₂ json.item first.readable.whole rest.whole;
}

pub list_added : {E : Type 0} {u : Unit {0}} {ds : Items} {a b c : Written} → Writes {E = E} (Ok u) a b Token.begin_array → AddsItems ds b c → Adds (array ds) a c
list_added w items = record {
  follow = further (one_token w) items.follow;
  readable = record { reads = ap (option_map array) items.reads; whole = ap json.array items.whole };
}

-- ---- objects
-- the last bracket of an object
pub no_more_members : {E : Type 0} {u : Unit {0}} {a b : Written} → Writes {E = E} (Ok u) a b Token.end_object → AddsMembers no_members a b
no_more_members w = record { follow = one_token w; reads = λ found. refl; whole = refl }

-- a value behind its name
pub keyed : {E : Type 0} {u : Unit {0}} {name : List ℕ} {d : Data} {a b c : Written} → Writes {E = E} (Ok u) a b (Token.key name) → Adds d b c → AddsMember name d a c
keyed w value = record { follow = further (one_token w) value.follow; readable = value.readable }

-- a member, and what stands behind it
pub member_more : {name : List ℕ} {d : Data} {ms : Members} {a b c : Written} → AddsMember name d a b → AddsMembers ms b c → AddsMembers (member name d ms) a c
member_more {name} {d} {ms} first rest = record {
  follow = further first.follow rest.follow;
  reads = λ found. ap (option_and_then (λ e. of_members (members_outline ms) (put name e found))) first.readable.reads ∙ rest.reads (put name d found);
  whole = ap₂ (json.member name) first.readable.whole rest.whole;
}

-- the same, where the member is known by another word
pub member_as : {name : List ℕ} {d e : Data} {ms : Members} {a b c : Written} → d ≡ e → AddsMember name d a b → AddsMembers ms b c → AddsMembers (member name e ms) a c
member_as {name} {ms = ms} {a = a} {c = c} same first rest = subst (λ d. AddsMembers (member name d ms) a c) same (member_more first rest)

pub object_added : {E : Type 0} {u : Unit {0}} {ms : Members} {a b c : Written} → put_all ms no_members ≡ ms → Writes {E = E} (Ok u) a b Token.begin_object → AddsMembers ms b c → Adds (object ms) a c
object_added in_order w members = record {
  follow = further (one_token w) members.follow;
  readable = record { reads = ap (option_map object) (members.reads no_members ∙ ap Some in_order); whole = ap json.object members.whole };
}

-- ---- a list in a loop
-- the next item, where those that are left begin with it
pub next_item : {A : Type 0} (written : A → Data) {xs left : List A} {x : A} {a b end : Written} → xs ≡ x ∷ left → Adds (written x) a b → AddsItems (items_of (map written left)) b end → AddsItems (items_of (map written xs)) a end
next_item written {a = a} {end = end} here first rest = subst (λ l. AddsItems (items_of (map written l)) a end) (sym here) (item_more first rest)

-- the last bracket, where none is left
pub last_item : {E : Type 0} {u : Unit {0}} {A : Type 0} (written : A → Data) {xs : List A} {a b : Written} → xs ≡ [] → Writes {E = E} (Ok u) a b Token.end_array → AddsItems (items_of (map written xs)) a b
last_item written {a = a} {b = b} none w = subst (λ l. AddsItems (items_of (map written l)) a b) (sym none) (no_more_items w)
