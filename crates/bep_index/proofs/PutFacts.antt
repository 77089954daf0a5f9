-- Records in order when one is put last in place of its name's, and when that is taken back.
use Rattle.std.proofs.Common.{◌≡◌, ◌≢◌, ◌∙◌, ℕ, ◌+◌, ◌<◌, ◌≤◌, ◌++◌, Bool, true, false, cond, nat_le, List, [], ◌∷◌, length, take, drop, get_or, Option, Some, None, true≢false, inl, inr, refl, sym, ap, subst, arith}
use Rattle.std.specs.Ordering.{nat_cmp}
use Rattle.std.specs.Cmp.Lexicographic.{slice_cmp, nat_list_cmp_total}
use Rattle.std.specs.FinMap.{get, empty, get-empty}
use Rattle.std.specs.FinMap as map
use Rattle.std.proofs.lemmas.Map.Lookups.{exact_bytes}
use Rattle.bep_facts.specs.Maps.{get-insert_apart, remove-insert, insert-removed, insert-swapped}
use Rattle.bep_facts.specs.Places.{split_at, done_with}
use Rattle.bep_map.specs.NameMap.{ByName}
use Rattle.bep_record.specs.declared.entry.Entry.{Entry}
use Rattle.bep_index.specs.Batch.{Rises, HasNo, NamesDiffer, last_sequence, with_all}
use Rattle.bep_index.specs.Index.{AreNumbered}
use Rattle.bep_index.specs.Change.{given_back}
use Rattle.bep_index.specs.After.{IsAmong}
use Rattle.bep_index.specs.Order.{AreInOrder, IsBefore, IsLater, without, put_in, back_in}
use Rattle.bep_index.specs.declared.limits.TheConstants.{MAX_SEQUENCE}
use Rattle.bep_index.proofs.LawFacts.{from_leb_true, from_leb_false}
use Rattle.bep_index.proofs.BatchFacts.{with_all-push, last_sequence_le}
use Rattle.bep_index.proofs.MadeFacts.{is_in_all, kept_in_all}
use Rattle.bep_index.proofs.RecordsFacts.{same_name, same_name-itself, equal_from_same_name}

abbrev Name : Type 0
Name = List ℕ

named_same : (n m : Name) → n ≡ m → same_name n m ≡ true
named_same n m same = ap (same_name n) (sym same) ∙ same_name-itself n

named_apart : (n m : Name) → n ≢ m → (b : Bool) → same_name n m ≡ b → b ≡ false
named_apart n m apart true tied = absurd (apart (equal_from_same_name n m tied))
named_apart n m apart false tied = refl

-- ---- without a name

pub without_here : (n : Name) (e : Entry) (es : List Entry) → n ≡ e.name → without n (e ∷ es) ≡ es
without_here n e es same = ap (λ b. cond b es (e ∷ without n es)) (named_same n e.name same)

pub without_apart : (n : Name) (e : Entry) (es : List Entry) → n ≢ e.name → without n (e ∷ es) ≡ e ∷ without n es
without_apart n e es apart = ap (λ b. cond b es (e ∷ without n es)) (named_apart n e.name apart _ refl)

-- each step of `without` is one of these
either : (P : List Entry → Type 0) (n : Name) (e : Entry) (es : List Entry) → (n ≡ e.name → P es) → (n ≢ e.name → P (e ∷ without n es)) → P (without n (e ∷ es))
either P n e es here apart = cases (same_name n e.name) refl
  where
    cases : (b : Bool) → same_name n e.name ≡ b → P (cond b es (e ∷ without n es))
    cases true tied = here (equal_from_same_name n e.name tied)
    cases false tied = apart (λ same. true≢false (sym (named_same n e.name same) ∙ tied))

HasNo-without : (q n : Name) (es : List Entry) → HasNo q es → HasNo q (without n es)
HasNo-without q n [] none = tt
HasNo-without q n (e ∷ es) none = either (HasNo q) n e es (λ here. none.1) (λ apart. (none.0, HasNo-without q n es none.1))

pub NamesDiffer-without : (n : Name) (es : List Entry) → NamesDiffer es → NamesDiffer (without n es)
NamesDiffer-without n [] names = tt
NamesDiffer-without n (e ∷ es) names = either NamesDiffer n e es (λ here. names.1) (λ apart. (HasNo-without e.name n es names.0, NamesDiffer-without n es names.1))

pub gone : (n : Name) (es : List Entry) → NamesDiffer es → HasNo n (without n es)
gone n [] names = tt
gone n (e ∷ es) names = either (HasNo n) n e es (λ here. subst (λ q. HasNo q es) (sym here) names.0) (λ apart. ((λ same. apart (sym same)), gone n es names.1))

pub without_none : (n : Name) (es : List Entry) → HasNo n es → without n es ≡ es
without_none n [] none = refl
without_none n (e ∷ es) none = without_apart n e es (λ same. none.0 (sym same)) ∙ ap (λ more. e ∷ more) (without_none n es none.1)

Rises-lower : (low high : ℕ) (es : List Entry) → low ≤ high → Rises high es → Rises low es
Rises-lower low high [] below rises = tt
Rises-lower low high (e ∷ es) below rises = (let above = rises.0 in omega arith, rises.1, rises.2)

pub Rises-without : (n : Name) (low : ℕ) (es : List Entry) → Rises low es → Rises low (without n es)
Rises-without n low [] rises = tt
Rises-without n low (e ∷ es) rises =
    either (Rises low) n e es
    (λ here. Rises-lower low e.sequence es (let above = rises.0 in omega arith) rises.2)
    (λ apart. (rises.0, rises.1, Rises-without n e.sequence es rises.2))

last_lower : (low high : ℕ) (es : List Entry) → low ≤ high → last_sequence low es ≤ last_sequence high es
last_lower low high [] below = below
last_lower low high (e ∷ es) below = omega arith

last_without : (n : Name) (low : ℕ) (es : List Entry) → Rises low es → last_sequence low (without n es) ≤ last_sequence low es
last_without n low [] rises = omega arith
last_without n low (e ∷ es) rises =
    either (λ some. last_sequence low some ≤ last_sequence e.sequence es) n e es
    (λ here. last_lower low e.sequence es (let above = rises.0 in omega arith))
    (λ apart. last_without n e.sequence es rises.2)

pub among_without : (n : Name) (es : List Entry) (x : Entry) → IsAmong x (without n es) → IsAmong x es
among_without n [] x h = h
among_without n (e ∷ es) x h = either (λ some. IsAmong x some → IsAmong x (e ∷ es)) n e es (λ here more. inr more) (λ apart. first_or_later (among_without n es x)) h
  where
    first_or_later : (IsAmong x (without n es) → IsAmong x es) → IsAmong x (e ∷ without n es) → IsAmong x (e ∷ es)
    first_or_later later (inl q) = inl q
    first_or_later later (inr more) = inr (later more)

-- the map without the name
with_all-insert : (m : ByName Entry) (n : Name) (v : Entry) (es : List Entry) → HasNo n es → with_all (map.insert m n v) es ≡ map.insert (with_all m es) n v
with_all-insert m n v [] none = refl
with_all-insert m n v (e ∷ es) none =
    ap (λ k. with_all k es) (insert-swapped nat_list_cmp_total exact_bytes m n e.name v e (λ same. none.0 (sym same)))
    ∙ with_all-insert (map.insert m e.name e) n v es none.1

pub with_all-without : (m : ByName Entry) (n : Name) (es : List Entry) → NamesDiffer es → get m n ≡ None → with_all m (without n es) ≡ map.remove (with_all m es) n
with_all-without m n [] names none = removed_none
  where
    removed_none : m ≡ map.remove m n
    removed_none = map.same_map nat_list_cmp_total exact_bytes _ _ (λ q. cases q (same_name q n) refl ∙ sym (map.get-remove nat_list_cmp_total m n q))
      where
        cases : (q : Name) (b : Bool) → same_name q n ≡ b → get m q ≡ cond b None (get m q)
        cases q true tied = ap (get m) (equal_from_same_name q n tied) ∙ none
        cases q false tied = refl
with_all-without m n (e ∷ es) names none =
    either (λ some. with_all m some ≡ map.remove (with_all (map.insert m e.name e) es) n) n e es
    (λ here.
    let free : HasNo n es = subst (λ q. HasNo q es) (sym here) names.0 in
    sym (ap (λ k. map.remove k n) (ap (λ q. with_all (map.insert m q e) es) (sym here) ∙ with_all-insert m n e es free)
    ∙ remove-insert nat_list_cmp_total exact_bytes (with_all m es) n e (kept_in_all m es n free ∙ none)))
    (λ apart. with_all-without (map.insert m e.name e) n es names.1 (get-insert_apart nat_list_cmp_total exact_bytes m e.name e n apart ∙ none))

-- ---- a record put last, in place of its name's

pub Rises-push : (low : ℕ) (es : List Entry) (e : Entry) → Rises low es → last_sequence low es < e.sequence → e.sequence ≤ MAX_SEQUENCE → Rises low (es ++ e ∷ [])
Rises-push low [] e h above within = (above, within, tt)
Rises-push low (f ∷ es) e h above within = (h.0, h.1, Rises-push f.sequence es e h.2 above within)

HasNo-push : (q : Name) (es : List Entry) (e : Entry) → HasNo q es → e.name ≢ q → HasNo q (es ++ e ∷ [])
HasNo-push q [] e none apart = (apart, tt)
HasNo-push q (f ∷ es) e none apart = (none.0, HasNo-push q es e none.1 apart)

NamesDiffer-push : (es : List Entry) (e : Entry) → NamesDiffer es → HasNo e.name es → NamesDiffer (es ++ e ∷ [])
NamesDiffer-push [] e names none = (tt, tt)
NamesDiffer-push (f ∷ es) e names none = (HasNo-push f.name es e names.0 (λ same. none.0 (sym same)), NamesDiffer-push es e names.1 none.1)

pub AreInOrder-put : (es : List Entry) (e : Entry) → AreInOrder es → last_sequence 0 es < e.sequence → e.sequence ≤ MAX_SEQUENCE → AreInOrder (without e.name es ++ e ∷ [])
AreInOrder-put es e order above within = record {
  rises = let last = last_without e.name 0 es order.rises in Rises-push 0 (without e.name es) e (Rises-without e.name 0 es order.rises) (omega arith) within;
  names = NamesDiffer-push (without e.name es) e (NamesDiffer-without e.name es order.names) (gone e.name es order.names);
}

pub with_all-put : (es : List Entry) (e : Entry) → NamesDiffer es → with_all empty (without e.name es ++ e ∷ []) ≡ map.insert (with_all empty es) e.name e
with_all-put es e names =
    with_all-push empty (without e.name es) e
    ∙ ap (λ m. map.insert m e.name e) (with_all-without empty e.name es names (get-empty (slice_cmp nat_cmp) e.name))
    ∙ insert-removed nat_list_cmp_total exact_bytes (with_all empty es) e.name e

-- ---- a record put in at the place of its sequence

put_in_either : (P : List Entry → Type 0) (e f : Entry) (es : List Entry) → (f.sequence ≤ e.sequence → P (f ∷ put_in e es)) → (e.sequence < f.sequence → P (e ∷ f ∷ es)) → P (put_in e (f ∷ es))
put_in_either P e f es later now = cases (nat_le f.sequence e.sequence) refl
  where
    cases : (b : Bool) → nat_le f.sequence e.sequence ≡ b → P (cond b (f ∷ put_in e es) (e ∷ f ∷ es))
    cases true t = later (from_leb_true _ _ t)
    cases false t = now (from_leb_false _ _ t)

Rises-put_in : (low : ℕ) (e : Entry) (es : List Entry) → Rises low es → low < e.sequence → e.sequence ≤ MAX_SEQUENCE → ((x : Entry) → IsAmong x es → x.sequence ≢ e.sequence) → Rises low (put_in e es)
Rises-put_in low e [] rises above within own = (above, within, tt)
Rises-put_in low e (f ∷ es) rises above within own =
    put_in_either (Rises low) e f es
    (λ below. (rises.0, rises.1, Rises-put_in f.sequence e es rises.2 (let apart = own f (inl refl) in omega arith) within (λ x h. own x (inr h))))
    (λ now. (above, within, (now, rises.1, rises.2)))

HasNo-put_in : (q : Name) (e : Entry) (es : List Entry) → HasNo q es → e.name ≢ q → HasNo q (put_in e es)
HasNo-put_in q e [] none apart = (apart, tt)
HasNo-put_in q e (f ∷ es) none apart = put_in_either (HasNo q) e f es (λ below. (none.0, HasNo-put_in q e es none.1 apart)) (λ now. (apart, (none.0, none.1)))

NamesDiffer-put_in : (e : Entry) (es : List Entry) → NamesDiffer es → HasNo e.name es → NamesDiffer (put_in e es)
NamesDiffer-put_in e [] names none = (tt, tt)
NamesDiffer-put_in e (f ∷ es) names none =
    put_in_either NamesDiffer e f es
    (λ below. (HasNo-put_in f.name e es names.0 (λ same. none.0 (sym same)), NamesDiffer-put_in e es names.1 none.1))
    (λ now. (none, names))

with_all-put_in : (m : ByName Entry) (e : Entry) (es : List Entry) → HasNo e.name es → with_all m (put_in e es) ≡ map.insert (with_all m es) e.name e
with_all-put_in m e [] none = refl
with_all-put_in m e (f ∷ es) none =
    put_in_either (λ some. with_all m some ≡ map.insert (with_all (map.insert m f.name f) es) e.name e) e f es
    (λ below. with_all-put_in (map.insert m f.name f) e es none.1)
    (λ now. with_all-insert m e.name e (f ∷ es) none)

-- ---- the change taken back

pub AreInOrder-back : (es : List Entry) (n : Name) (old : Option Entry) → AreInOrder es → IsBefore es n old → AreInOrder (back_in es n old)
AreInOrder-back es n None order is = record { rises = Rises-without n 0 es order.rises; names = NamesDiffer-without n es order.names }
AreInOrder-back es n (Some e) order is = record {
  rises =
      let most = last_sequence_le 0 es order.rises (omega arith) in
      let below = is.2 in
      let positive = is.1 in
      Rises-put_in 0 e (without n es) (Rises-without n 0 es order.rises) (omega arith) (omega arith) (λ x h. is.3 x (among_without n es x h));
  names = NamesDiffer-put_in e (without n es) (NamesDiffer-without n es order.names) (subst (λ q. HasNo q (without n es)) (sym is.0) (gone n es order.names));
}

pub with_all-back : (es : List Entry) (n : Name) (old : Option Entry) → NamesDiffer es → IsBefore es n old → with_all empty (back_in es n old) ≡ given_back (with_all empty es) n old
with_all-back es n None names is = with_all-without empty n es names (get-empty (slice_cmp nat_cmp) n)
with_all-back es n (Some e) names is =
    with_all-put_in empty e (without n es) (subst (λ q. HasNo q (without n es)) (sym is.0) (gone n es names))
    ∙ ap (λ m. map.insert m e.name e) (with_all-without empty n es names (get-empty (slice_cmp nat_cmp) n))
    ∙ ap (λ q. map.insert (map.remove (with_all empty es) n) q e) is.0
    ∙ insert-removed nat_list_cmp_total exact_bytes (with_all empty es) n e

-- ---- one of the records, after those before it

pub later_than_front : (low : ℕ) (front : List Entry) (e : Entry) (back : List Entry) → Rises low (front ++ e ∷ back) → (last_sequence low front < e.sequence) × (e.sequence ≤ MAX_SEQUENCE)
later_than_front low [] e back rises = (rises.0, rises.1)
later_than_front low (f ∷ front) e back rises = later_than_front f.sequence front e back rises.2

apart_from : (q : Name) (front : List Entry) (e : Entry) (back : List Entry) → HasNo q (front ++ e ∷ back) → e.name ≢ q
apart_from q [] e back none = none.0
apart_from q (f ∷ front) e back none = apart_from q front e back none.1

pub new_to_front : (front : List Entry) (e : Entry) (back : List Entry) → NamesDiffer (front ++ e ∷ back) → HasNo e.name front
new_to_front [] e back names = tt
new_to_front (f ∷ front) e back names = ((λ same. apart_from f.name front e back names.0 (sym same)), new_to_front front e back names.1)

module _ (es : List Entry) (place : ℕ) (x : Entry) (below : place < length es) (is : x ≡ get_or es place x) (order : AreInOrder es) where
  whole : take place es ++ x ∷ drop (place + 1) es ≡ es
  whole = split_at es place x below is

  pub next_is_later : IsLater (take place es) x
  next_is_later =
      let later = later_than_front 0 (take place es) x (drop (place + 1) es) (subst (Rises 0) (sym whole) order.rises) in
      record { above = later.0; within = later.1 }

  pub next_is_new : HasNo x.name (take place es)
  next_is_new = new_to_front (take place es) x (drop (place + 1) es) (subst NamesDiffer (sym whole) order.names)

  pub next_added : take place es ++ x ∷ [] ≡ take (place + 1) es
  next_added = sym (done_with es place x below is)

-- ---- the last one's number

last_bound : (low top : ℕ) (es : List Entry) → low ≤ top → ((x : Entry) → IsAmong x es → x.sequence ≤ top) → last_sequence low es ≤ top
last_bound low top [] below each = below
last_bound low top (e ∷ es) below each = last_bound e.sequence top es (each e (inl refl)) (λ x h. each x (inr h))

pub last_within : (top : ℕ) (es : List Entry) → NamesDiffer es → AreNumbered top (with_all empty es) → last_sequence 0 es ≤ top
last_within top es names numbered = last_bound 0 top es (omega arith) (λ x h. (numbered x.name x (is_in_all empty es x names h)).2)
