-- Good records stay good where one is put, taken away or brought by a batch.
use Rattle.std.proofs.Common.{◌≡◌, ◌∙◌, ℕ, Bool, true, false, cond, List, [], ◌∷◌, Option, Some, None, inl, inr, subst, sym, ⊎_elim}
use Rattle.std.specs.Ordering.{nat_cmp, eq_by_cmp}
use Rattle.std.specs.Cmp.Lexicographic.{slice_cmp, nat_list_cmp_total}
use Rattle.std.specs.FinMap.{get, insert, empty, get-remove}
use Rattle.std.specs.List.{AllByRecursion}
use Rattle.std.proofs.lemmas.Map.Lookups.{exact_bytes}
use Rattle.bep_facts.specs.Maps.{found_after_insert, nothing_in_empty}
use Rattle.bep_map.specs.NameMap.{ByName}
use Rattle.bep_record.specs.declared.entry.Entry.{Entry}
use Rattle.bep_index.specs.Batch.{with_all}
use Rattle.bep_index.specs.Change.{given_back}
use Rattle.bep_index.specs.Good.{IsGood, IsGoodIfThere, AreGood, AllGood}
use Rattle.bep_index.proofs.MadeFacts.{found_in_all}

pub nothing_is_good : AreGood empty
nothing_is_good name entry found = nothing_in_empty (slice_cmp nat_cmp) name entry found

pub good_inserted : (records : ByName Entry) (name : List ℕ) (entry : Entry) → IsGood entry → AreGood records → AreGood (insert records name entry)
good_inserted records name entry good old q e found =
    ⊎_elim
    (λ here. subst IsGood (sym here.1) good)
    (λ before. old q e before.1)
    (found_after_insert nat_list_cmp_total exact_bytes records name entry q e found)

pub good_given_back : (records : ByName Entry) (name : List ℕ) (before : Option Entry) → IsGoodIfThere before → AreGood records → AreGood (given_back records name before)
good_given_back records name None good old = λ q e found. old q e (still q e (eq_by_cmp (slice_cmp nat_cmp) q name) (sym (get-remove nat_list_cmp_total records name q) ∙ found))
  where
    still : (q : List ℕ) (e : Entry) (b : Bool) → cond b None (get records q) ≡ Some e → get records q ≡ Some e
    still q e true is = absurd (cc)
    still q e false is = is
good_given_back records name (Some entry) good old = good_inserted records name entry good old

pub good_with_all : (records : ByName Entry) (batch : List Entry) → AllGood batch → AreGood records → AreGood (with_all records batch)
good_with_all records batch all old q e found =
    ⊎_elim
    (λ among. all e among.0)
    (λ before. old q e before.1)
    (found_in_all records batch q e found)

pub all_good : (batch : List Entry) → AllByRecursion IsGood batch → AllGood batch
all_good [] all entry none = absurd none
all_good (first ∷ batch) all entry (inl same) = subst IsGood (sym same) all.0
all_good (first ∷ batch) all entry (inr more) = all_good batch all.1 entry more
