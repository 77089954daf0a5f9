-- Records at their places in a list, and the entries of the map that holds them.
use Rattle.std.proofs.Common.{◌≡◌, ◌≢◌, ◌∙◌, true≢false, ℕ, zero, suc, ◌+◌, ◌≤◌, ◌++◌, Bool, true, false, cond, nat_le, nat_eq, List, [], ◌∷◌, length, slice_get, Option, Some, None, is_some, inl, inr, refl, sym, ap, subst, arith}
use Rattle.std.specs.Ordering.{nat_cmp, eq_by_cmp}
use Rattle.std.specs.Cmp.Lexicographic.{pointwise, slice_cmp, nat_list_cmp_total, texts_ties}
use Rattle.std.specs.Map.{lookup, values_of}
use Rattle.std.specs.FinMap.{get, empty, len, find, contains_key, get-empty, len-empty}
use Rattle.std.proofs.lemmas.Map.Lookups.{exact_bytes}
use Rattle.std.proofs.lemmas.Option.{same_Some, none-some}
use Rattle.bep_record.specs.declared.entry.Entry.{Entry}
use Rattle.bep_index.specs.Batch.{Rises, HasNo, NamesDiffer, with_all}
use Rattle.bep_index.specs.After.{IsAmong}
use Rattle.bep_index.specs.inner.Count.{new_names}
use Rattle.bep_index.specs.Order.{AreInOrder, IsAt, count_up_to, is_up_to, named}
use Rattle.bep_index.proofs.LawFacts.{from_leb_false}
use Rattle.bep_index.proofs.BatchFacts.{len-with_all}
use Rattle.bep_index.proofs.MadeFacts.{kept_in_all, records_are_found}
use Rattle.bep_index.proofs.OrderFacts.{one_by_name, found_by_key, is_found_by_key, same_answer}
use Rattle.bep_index.proofs.AfterFacts.{count_none}

-- ---- places and sequences

-- a record that has at most the sequence is counted, with all before it
pub counted : (sequence low place : ℕ) (es : List Entry) → Rises low es → is_up_to (slice_get es place) sequence ≡ true → place + 1 ≤ count_up_to sequence es
counted sequence low place [] rises is = absurd cc
counted sequence low zero (e ∷ es) rises is = cases (nat_le e.sequence sequence) is
  where
    cases : (b : Bool) → b ≡ true → 1 ≤ cond b (suc (count_up_to sequence es)) (count_up_to sequence es)
    cases true t = omega arith
    cases false t = absurd cc
counted sequence low (suc place) (e ∷ es) rises is =
    cases (nat_le e.sequence sequence) refl (counted sequence e.sequence place es rises.2 is)
  where
    cases : (b : Bool) → nat_le e.sequence sequence ≡ b → place + 1 ≤ count_up_to sequence es → suc place + 1 ≤ cond b (suc (count_up_to sequence es)) (count_up_to sequence es)
    cases true t more = omega arith
    cases false t more =
        let above = from_leb_false _ _ t in
        let none = count_none sequence e.sequence es rises.2 (omega arith) in
        absurd (omega arith)

-- one that has more is not, and neither is any behind it
pub not_counted : (sequence low place : ℕ) (es : List Entry) → Rises low es → is_up_to (slice_get es place) sequence ≡ false → count_up_to sequence es ≤ place
not_counted sequence low place [] rises is = omega arith
not_counted sequence low zero (e ∷ es) rises is =
    let above = from_leb_false _ _ is in
    let none = count_none sequence e.sequence es rises.2 (omega arith) in
    subst (λ b. cond b (suc (count_up_to sequence es)) (count_up_to sequence es) ≤ 0) (sym is) (omega arith)
not_counted sequence low (suc place) (e ∷ es) rises is =
    cases (nat_le e.sequence sequence) (not_counted sequence e.sequence place es rises.2 is)
  where
    cases : (b : Bool) → count_up_to sequence es ≤ place → cond b (suc (count_up_to sequence es)) (count_up_to sequence es) ≤ suc place
    cases true more = omega arith
    cases false more = omega arith

-- ---- the map that the records are

all_new : (es : List Entry) → new_names empty es ≡ length es
all_new [] = refl
all_new (e ∷ es) =
    let new : contains_key (empty {X = Entry} {R = slice_cmp nat_cmp}) e.name ≡ false = ap is_some (get-empty (slice_cmp nat_cmp) e.name) in
    let more = all_new es in
    ap (λ b. cond b 0 1 + new_names empty es) new ∙ omega arith

pub len-records : (es : List Entry) → NamesDiffer es → len (with_all empty es) ≡ length es
len-records es names = let all = len-with_all empty es names in let new = all_new es in let none = len-empty (slice_cmp nat_cmp) Entry in omega arith

lookup-find : (q : List ℕ) (es : List (List ℕ × Entry)) → lookup (pointwise nat_eq q) es ≡ find (slice_cmp nat_cmp) q es
lookup-find q [] = refl
lookup-find q (e ∷ es) = ap (λ b. cond b (Some e.1) (lookup (pointwise nat_eq q) es)) (texts_ties q e.0) ∙ ap (cond (eq_by_cmp (slice_cmp nat_cmp) q e.0) (Some e.1)) (lookup-find q es)

-- what is looked up among the records is found in their map
pub get-records : (q : List ℕ) (es : List Entry) → NamesDiffer es → lookup (pointwise nat_eq q) (named es) ≡ get (with_all empty es) q
get-records q es names =
    lookup-find q (named es)
    ∙ same_answer _ _
    (λ x is.
    let found = found_by_key nat_list_cmp_total exact_bytes (λ (e : Entry). e.name) es q x is in
    (records_are_found es q x names).1 (found.0, found.1))
    (λ x is.
    let found = (records_are_found es q x names).0 is in
    subst (λ n. find (slice_cmp nat_cmp) n (named es) ≡ Some x) found.1
    (is_found_by_key nat_list_cmp_total exact_bytes (λ (e : Entry). e.name) es x (one_by_name es names) found.0))

-- ---- entries under their names

pub values-named : (es : List Entry) → values_of (named es) ≡ es
values-named [] = refl
values-named (e ∷ es) = ap (λ more. e ∷ more) (values-named es)

pub length-named : (es : List Entry) → length (named es) ≡ length es
length-named [] = refl
length-named (e ∷ es) = ap suc (length-named es)

pub named-push : (es : List Entry) (e : Entry) → named (es ++ e ∷ []) ≡ named es ++ (e.name, e) ∷ []
named-push [] e = refl
named-push (f ∷ es) e = ap (λ more. (f.name, f) ∷ more) (named-push es e)

-- entries that are these under their names are their values under their names
pub kept_named : (entries : List (List ℕ × Entry)) (es : List Entry) → entries ≡ named es → AreInOrder es → (entries ≡ named (values_of entries)) × AreInOrder (values_of entries)
kept_named entries es same order =
    let values : values_of entries ≡ es = ap values_of same ∙ values-named es in
    (same ∙ ap named (sym values), subst AreInOrder (sym values) order)

pub values-same : (entries : List (List ℕ × Entry)) (es : List Entry) → entries ≡ named es → values_of entries ≡ es
values-same entries es same = ap values_of same ∙ values-named es

-- what is looked up among entries that are records under their names
pub looked_up : (entries : List (List ℕ × Entry)) (es : List Entry) (q : List ℕ) → (entries ≡ named (values_of entries)) × AreInOrder (values_of entries) → values_of entries ≡ es
    → lookup (pointwise nat_eq q) entries ≡ get (with_all empty es) q
looked_up entries es q kept view =
    ap (lookup (pointwise nat_eq q)) kept.0 ∙ get-records q (values_of entries) kept.1.names ∙ ap (λ some. get (with_all empty some) q) view

-- ---- a name that has no record

pub nothing : {X : Type 0} (o : Option X) → is_some o ≡ false → o ≡ None
nothing None none = refl
nothing (Some x) full = absurd (true≢false full)

each_apart : (q : List ℕ) (es : List Entry) → ((x : Entry) → IsAmong x es → x.name ≢ q) → HasNo q es
each_apart q [] apart = tt
each_apart q (e ∷ es) apart = (apart e (inl refl), each_apart q es (λ x h. apart x (inr h)))

pub HasNo-none : (q : List ℕ) (es : List Entry) → NamesDiffer es → get (with_all empty es) q ≡ None → HasNo q es
HasNo-none q es names none = each_apart q es (λ x h same. none-some x (sym none ∙ (records_are_found es q x names).1 (h, same)))

pub among_at : (es : List Entry) (i : ℕ) (x : Entry) → slice_get es i ≡ Some x → IsAmong x es
among_at [] i x is = absurd (none-some x is)
among_at (e ∷ es) zero x is = inl (sym (same_Some e x is))
among_at (e ∷ es) (suc i) x is = inr (among_at es i x is)

pub get-new : (q : List ℕ) (es : List Entry) → HasNo q es → get (with_all empty es) q ≡ None
get-new q es none = kept_in_all empty es q none ∙ get-empty (slice_cmp nat_cmp) q

-- the record at a place is its name's
pub get-at : (q : List ℕ) (es : List Entry) (place : ℕ) → NamesDiffer es → (at : IsAt es place q) → slice_get es place ≡ get (with_all empty es) q
get-at q es place names at = at.there ∙ sym ((records_are_found es q at.entry names).1 (among_at es place at.entry at.there, at.named))
