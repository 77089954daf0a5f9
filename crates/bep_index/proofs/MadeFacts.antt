-- Records that are put at their names.
use Rattle.std.proofs.Common.{◌≡◌, refl, subst, inl, inr, ℕ, List, [], ◌∷◌, Some, sym, ap, ◌∙◌, ⊎_elim, arith}
use Rattle.std.specs.Ordering.{nat_cmp}
use Rattle.std.specs.Cmp.Lexicographic.{slice_cmp, nat_list_cmp_total}
use Rattle.std.specs.FinMap.{get, insert, empty, len-empty}
use Rattle.std.proofs.lemmas.Map.Lookups.{exact_bytes}
use Rattle.bep_facts.specs.Maps.{found_after_insert, get-insert_here, get-insert_apart, nothing_in_empty}
use Rattle.bep_record.specs.declared.entry.Entry.{Entry}
use Rattle.bep_index.specs.After.{IsAmong}
use Rattle.bep_index.specs.Batch.{with_all}
use Rattle.bep_index.specs.Laws.{RecordsMakeAnIndex, RecordsAreFound, FoundIsOfBatchOrBefore, BatchIsFound, OthersAreKept}
use Rattle.bep_index.proofs.BatchFacts.{len-with_all, new_names_le}
use Rattle.bep_index.proofs.RecordsFacts.{clash}

-- what is found is one of these at its name, or was there before and none of these has the name
pub found_in_all : FoundIsOfBatchOrBefore
found_in_all m [] q e found = inr (tt, found)
found_in_all m (first ∷ es) q e found =
    ⊎_elim
    (λ among. inl (inr among.0, among.1))
    (λ before.
    ⊎_elim
    (λ here. inl (inl here.1, ap (λ (x : Entry). x.name) here.1 ∙ sym here.0))
    (λ old. inr ((λ same. clash q first.name (sym same) old.0, before.0), old.1))
    (found_after_insert nat_list_cmp_total exact_bytes m first.name first q e before.1))
    (found_in_all (insert m first.name first) es q e found)

found_among : (es : List Entry) (q : List ℕ) (e : Entry) → get (with_all empty es) q ≡ Some e → IsAmong e es × (e.name ≡ q)
found_among es q e found = ⊎_elim (λ among. among) (λ none. nothing_in_empty (slice_cmp nat_cmp) q e none.1) (found_in_all empty es q e found)

pub records_make_an_index : RecordsMakeAnIndex
records_make_an_index id greatest es within few names numbers = record {
  sequence = within;
  few =
      let none = len-empty (slice_cmp nat_cmp) Entry in
      let all = len-with_all empty es names in
      let most = new_names_le empty es in
      omega arith;
  numbered = λ q e found.
      let among = found_among es q e found in
      let number = numbers.within e among.0 in
      (among.1, number.0, number.1);
  distinct = λ q p e f found other same.
      let one = found_among es q e found in
      let two = found_among es p f other in
      sym one.1 ∙ ap (λ (x : Entry). x.name) (numbers.different e f one.0 two.0 same) ∙ two.1;
}

-- a name that none of these has keeps its record
pub kept_in_all : OthersAreKept
kept_in_all m [] name none = refl
kept_in_all m (first ∷ es) name none =
    kept_in_all (insert m first.name first) es name none.1
    ∙ get-insert_apart nat_list_cmp_total exact_bytes m first.name first name (λ same. none.0 (sym same))

pub is_in_all : BatchIsFound
is_in_all m [] e differ h = absurd h
is_in_all m (first ∷ es) e differ h =
    ⊎_elim
    (λ same. subst (λ (x : Entry). get (with_all (insert m first.name first) es) x.name ≡ Some x) (sym same)
    (kept_in_all (insert m first.name first) es first.name differ.0 ∙ get-insert_here nat_list_cmp_total exact_bytes m first.name first))
    (λ later. is_in_all (insert m first.name first) es e differ.1 later)
    h

pub records_are_found : RecordsAreFound
records_are_found es name e differ = (
  λ found. found_among es name e found,
  λ h. subst (λ n. get (with_all empty es) n ≡ Some e) h.1 (is_in_all empty es e differ h.0),
)
