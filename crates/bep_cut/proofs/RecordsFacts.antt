-- Records that are put under their names, one after the other, are the map that has them.
use Rattle.std.proofs.Common.{◌≡◌, true≢false, inl, inr, ℕ, ◌<◌, Bool, true, false, cond, List, [], ◌∷◌, length, Option, Some, None, IsSome, refl, sym, subst, ◌∙◌, ⊎_elim}
use Rattle.std.specs.Ordering.{nat_cmp, eq_by_cmp}
use Rattle.std.specs.Cmp.Lexicographic.{slice_cmp, nat_list_cmp_total}
use Rattle.std.specs.FinMap.{empty, get, insert, values, get-insert, same_map}
use Rattle.std.proofs.lemmas.Map.Lookups.{exact_bytes}
use Rattle.bep_facts.specs.Maps.{get-insert_here, nothing_in_empty}
use Rattle.bep_facts.specs.Values.{value_at_key, key_of_value}
use Rattle.bep_record.specs.declared.entry.Entry.{Entry}
use Rattle.bep_map.specs.NameMap.{ByName}
use Rattle.bep_index.specs.Listing.{Listing, IsRecord}
use Rattle.bep_index.specs.Index.{IsIndex}
use Rattle.bep_index.specs.Batch.{with_all}
use Rattle.bep_index.specs.After.{IsAmong, AreRecords, IsAfter}
use Rattle.bep_index.specs.Laws.{FoundIsOfBatchOrBefore, AmongIsContained}

-- a name that has a record keeps one
stays : (m : ByName Entry) (es : List Entry) (name : List ℕ) → IsSome (get m name) → IsSome (get (with_all m es) name)
stays m [] name has = has
stays m (e ∷ es) name has =
    stays (insert m e.name e) es name (subst (λ (o : Option Entry). IsSome o) (sym (get-insert nat_list_cmp_total m e.name e name)) (either (eq_by_cmp (slice_cmp nat_cmp) name e.name)))
  where
    either : (b : Bool) → IsSome (cond b (Some e) (get m name))
    either true = refl
    either false = has

-- each that is put has one under its name
is_put : (m : ByName Entry) (es : List Entry) (entry : Entry) → IsAmong entry es → IsSome (get (with_all m es) entry.name)
is_put m [] entry among = absurd among
is_put m (e ∷ es) entry (inl same) =
    stays (insert m e.name e) es entry.name (subst (λ (x : Entry). IsSome (get (insert m e.name e) x.name)) (sym same) (subst (λ (o : Option Entry). IsSome o) (sym (get-insert_here nat_list_cmp_total exact_bytes m e.name e)) refl))
is_put m (e ∷ es) entry (inr later) = is_put (insert m e.name e) es entry later

module _ (law : FoundIsOfBatchOrBefore) (records : ByName Entry) (es : List Entry)
    (named : (name : List ℕ) (entry : Entry) → get records name ≡ Some entry → entry.name ≡ name)
    (right : (entry : Entry) → IsAmong entry es → IsRecord records entry)
    (whole : (entry : Entry) → IsRecord records entry → IsAmong entry es) where
  -- what is found after all were put is the map's
  is_right : (name : List ℕ) (entry : Entry) → get (with_all empty es) name ≡ Some entry → get records name ≡ Some entry
  is_right name entry found =
      ⊎_elim
      (λ one. subst (λ n. get records n ≡ Some entry) one.1 (right entry one.0))
      (λ none. nothing_in_empty (slice_cmp nat_cmp) name entry none.1)
      (law empty es name entry found)

  pub all_put : with_all empty es ≡ records
  all_put = same_map nat_list_cmp_total exact_bytes (with_all empty es) records (λ name. at name (get (with_all empty es) name) refl (get records name) refl) where
    at : (name : List ℕ) (made : Option Entry) → get (with_all empty es) name ≡ made → (had : Option Entry) → get records name ≡ had → get (with_all empty es) name ≡ get records name
    at name (Some entry) is had e = is ∙ sym (is_right name entry is)
    at name None is None e = is ∙ sym e
    at name None is (Some entry) e =
        let of = named name entry e in
        let put = is_put empty es entry (whole entry (subst (λ n. get records n ≡ Some entry) (sym of) e)) in
        absurd (true≢false (sym (subst (λ (o : Option Entry). IsSome o) is (subst (λ n. IsSome (get (with_all empty es) n)) of put))))

-- each of records by recursion
each_record : (records : ByName Entry) (es : List Entry) → AreRecords records es → (entry : Entry) → IsAmong entry es → IsRecord records entry
each_record records [] are entry among = absurd among
each_record records (e ∷ es) are entry (inl same) = subst (IsRecord records) (sym same) are.0
each_record records (e ∷ es) are entry (inr later) = each_record records es are.1 entry later

-- all that an index has after 0
pub all_after : FoundIsOfBatchOrBefore → (index : Listing) (limit : ℕ) (found : List Entry) → IsIndex index → IsAfter index.records 0 limit found → length found < limit → with_all empty found ≡ index.records
all_after law index limit found is after short =
    all_put law index.records found
    (λ name entry has. (is.numbered name entry has).0)
    (each_record index.records found after.run.recorded)
    (λ entry has. after.run.whole entry has (is.numbered entry.name entry has).1 (after.ended short entry has))

-- the values of a view
pub all_values : FoundIsOfBatchOrBefore → AmongIsContained → (view : Listing) → IsIndex view → with_all empty (values view.records) ≡ view.records
all_values law among view is =
    all_put law view.records (values view.records)
    (λ name entry has. (is.numbered name entry has).0)
    (λ entry member.
    let at = key_of_value nat_list_cmp_total exact_bytes view.records entry ((among entry (values view.records)).0 member) in
    subst (λ n. get view.records n ≡ Some entry) (sym (is.numbered at.0 entry at.1).0) at.1)
    (λ entry has. (among entry (values view.records)).1 (value_at_key view.records entry.name entry has))
