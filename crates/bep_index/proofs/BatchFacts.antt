-- Maps with the records of a batch.
use Rattle.std.proofs.Common.{◌≡◌, ℕ, suc, ◌+◌, ◌≤◌, Bool, true, false, cond, List, [], ◌∷◌, ◌++◌, length, is_some, refl, sym, ap, subst, ◌∙◌, arith}
use Rattle.std.specs.Ordering.{nat_cmp}
use Rattle.std.specs.Cmp.Lexicographic.{slice_cmp, nat_list_cmp_total}
use Rattle.std.specs.FinMap.{insert, empty, len, contains_key, len-empty, len-insert}
use Rattle.std.proofs.lemmas.Map.Lookups.{exact_bytes}
use Rattle.bep_facts.specs.Maps.{get-insert_apart, nothing_in_empty}
use Rattle.bep_map.specs.NameMap.{ByName}
use Rattle.bep_record.specs.declared.entry.Entry.{Entry}
use Rattle.bep_index.specs.Listing.{Listing}
use Rattle.bep_index.specs.Index.{AreNumbered, HaveOwnNumbers}
use Rattle.bep_index.specs.Batch.{Rises, HasNo, NamesDiffer, IsBatch, last_sequence, with_all}
use Rattle.bep_index.specs.inner.Count.{new_names}
use Rattle.bep_index.specs.View.{IsView, IsOld, cleared, replaced, amended}
use Rattle.bep_index.specs.declared.limits.TheConstants.{MAX_NAMES, MAX_SEQUENCE}
use Rattle.bep_index.proofs.RecordsFacts.{AreNumbered-insert, HaveOwnNumbers-insert}

-- one more record
pub with_all-push : (m : ByName Entry) (es : List Entry) (e : Entry) → with_all m (es ++ e ∷ []) ≡ insert (with_all m es) e.name e
with_all-push m [] e = refl
with_all-push m (f ∷ es) e = with_all-push (insert m f.name f) es e

new_names-insert : (m : ByName Entry) (n : List ℕ) (v : Entry) (es : List Entry) → HasNo n es → new_names (insert m n v) es ≡ new_names m es
new_names-insert m n v [] h = refl
new_names-insert m n v (e ∷ es) h =
    let here = ap is_some (get-insert_apart nat_list_cmp_total exact_bytes m n v e.name h.0) in
    let rest = new_names-insert m n v es h.1 in
    ap (λ (b : Bool). cond b 0 1 + new_names (insert m n v) es) here ∙ ap (λ (k : ℕ). cond (contains_key m e.name) 0 1 + k) rest

one_more : (b : Bool) (n k : ℕ) → cond b n (n + 1) + k ≡ n + (cond b 0 1 + k)
one_more true n k = omega arith
one_more false n k = omega arith

-- how many names there are then
pub len-with_all : (m : ByName Entry) (es : List Entry) → NamesDiffer es → len (with_all m es) ≡ len m + new_names m es
len-with_all m [] h = omega arith
len-with_all m (e ∷ es) h =
    len-with_all (insert m e.name e) es h.1
    ∙ ap (λ k. len (insert m e.name e) + k) (new_names-insert m e.name e es h.0)
    ∙ ap (λ k. k + new_names m es) (len-insert nat_list_cmp_total m e.name e)
    ∙ one_more (contains_key m e.name) (len m) (new_names m es)

at_most : (b : Bool) (n k : ℕ) → n ≤ k → cond b 0 1 + n ≤ suc k
at_most true n k h = omega arith
at_most false n k h = omega arith

pub new_names_le : (m : ByName Entry) (es : List Entry) → new_names m es ≤ length es
new_names_le m [] = omega arith
new_names_le m (e ∷ es) = at_most (contains_key m e.name) (new_names m es) (length es) (new_names_le m es)

pub AreNumbered-with_all : (low : ℕ) (m : ByName Entry) (es : List Entry) → Rises low es → AreNumbered low m → AreNumbered (last_sequence low es) (with_all m es)
AreNumbered-with_all low m [] h old = old
AreNumbered-with_all low m (e ∷ es) h old =
    let above = h.0 in
    AreNumbered-with_all e.sequence (insert m e.name e) es h.2 (AreNumbered-insert m low e.sequence e old (omega arith) (omega arith) (omega arith))

HaveOwnNumbers-with_all : (low : ℕ) (m : ByName Entry) (es : List Entry) → Rises low es → AreNumbered low m → HaveOwnNumbers m → HaveOwnNumbers (with_all m es)
HaveOwnNumbers-with_all low m [] h numbered old = old
HaveOwnNumbers-with_all low m (e ∷ es) h numbered old =
    let above = h.0 in
    HaveOwnNumbers-with_all e.sequence (insert m e.name e) es h.2
    (AreNumbered-insert m low e.sequence e numbered (omega arith) (omega arith) (omega arith))
    (HaveOwnNumbers-insert m low e numbered old above)

pub last_sequence_le : (low : ℕ) (es : List Entry) → Rises low es → low ≤ MAX_SEQUENCE → last_sequence low es ≤ MAX_SEQUENCE
last_sequence_le low [] h within = within
last_sequence_le low (e ∷ es) h within = last_sequence_le e.sequence es h.2 h.1

AreNumbered-empty : AreNumbered 0 empty
AreNumbered-empty name entry found = nothing_in_empty (slice_cmp nat_cmp) name entry found

HaveOwnNumbers-empty : HaveOwnNumbers empty
HaveOwnNumbers-empty name other entry more found = nothing_in_empty (slice_cmp nat_cmp) name entry found

pub IsView-cleared : (id : ℕ) → IsView (cleared id)
IsView-cleared id = record {
  sequence = omega arith;
  few = let none = len-empty (slice_cmp nat_cmp) Entry in omega arith;
  numbered = AreNumbered-empty;
  distinct = HaveOwnNumbers-empty;
}

pub IsView-replaced : (view : Listing) (es : List Entry) → IsBatch es → IsView (replaced view es)
IsView-replaced view es is = record {
  sequence = last_sequence_le 0 es is.rises (omega arith);
  few =
      let none = len-empty (slice_cmp nat_cmp) Entry in
      let all = len-with_all empty es is.names in
      let most = new_names_le empty es in
      let few = is.few in
      omega arith;
  numbered = AreNumbered-with_all 0 empty es is.rises AreNumbered-empty;
  distinct = HaveOwnNumbers-with_all 0 empty es is.rises AreNumbered-empty HaveOwnNumbers-empty;
}

-- a batch that isn't old rises from what is known
pub Rises-new : (known : ℕ) (es : List Entry) → Rises 0 es → (IsOld known es → ⊥) → Rises known es
Rises-new known [] h new = tt
Rises-new known (e ∷ es) h new = (omega (arith, new), h.1, h.2)

pub IsView-amended : (view : Listing) (es : List Entry) → IsView view → IsBatch es → (IsOld view.sequence es → ⊥) → len (with_all view.records es) ≤ MAX_NAMES → IsView (amended view es)
IsView-amended view es old is new room = record {
  sequence = last_sequence_le view.sequence es (Rises-new view.sequence es is.rises new) old.sequence;
  few = room;
  numbered = AreNumbered-with_all view.sequence view.records es (Rises-new view.sequence es is.rises new) old.numbered;
  distinct = HaveOwnNumbers-with_all view.sequence view.records es (Rises-new view.sequence es is.rises new) old.numbered old.distinct;
}

-- a view with the same parts
pub IsView-equal : (id s t : ℕ) (m n : ByName Entry) → t ≡ s → n ≡ m → IsView (record { id = id; sequence = s; records = m }) → IsView (record { id = id; sequence = t; records = n })
IsView-equal id s t m n e f h = subst (λ k. IsView (record { id = id; sequence = k; records = n })) (sym e) (subst (λ o. IsView (record { id = id; sequence = s; records = o })) (sym f) h)
