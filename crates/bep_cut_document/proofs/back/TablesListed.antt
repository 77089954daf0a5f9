-- The records of a table, names rising, are those of an index without faults.
use Rattle.std.proofs.Common.{◌≡◌, ◌≤◌, ℕ, false, List, [], ◌∷◌, map, Some, sym, subst, ◌∙◌}
use Rattle.std.specs.Ordering.{nat_cmp}
use Rattle.std.specs.Cmp.Lexicographic.{slice_cmp, nat_list_cmp_total}
use Rattle.std.specs.FinMap.{get, entries, values, entries_sorted}
use Rattle.std.specs.List.{AllByRecursion}
use Rattle.std.proofs.lemmas.Map.Lookups.{exact_bytes}
use Rattle.bep_facts.specs.Entries.{entry_stands}
use Rattle.bep_facts.specs.Values.{key_of_value}
use Rattle.bep_map.specs.NameMap.{ByName}
use Rattle.bep_record.specs.declared.entry.Entry.{Entry}
use Rattle.bep_record.specs.declared.limits.TheConstants.{MAX_PULLS}
use Rattle.bep_index.specs.Batch.{HasNo, NamesDiffer}
use Rattle.bep_index.specs.Index.{HaveOwnNumbers, IsIndex}
use Rattle.bep_index.specs.declared.limits.TheConstants.{MAX_NAMES, MAX_SEQUENCE}
use Rattle.bep_model.specs.Tables.{FileName}
use Rattle.bep_document.specs.Faultless.{HasNoKey, KeysDiffer, IsNumbered, IsFaultlessIndex}
use Rattle.bep_document.specs.Faultless as listed
use Rattle.bep_tables.specs.Cut.{ArePulls}
use Rattle.bep_cut_document.specs.inner.Sound.{AreRecords}
use Rattle.bep_cut_document.proofs.RangeTold.{each_of, few_values}
use Rattle.bep_cut_document.proofs.back.InOrder.{differ_where_rising}
use Rattle.bep_cut_document.proofs.back.PutAgain.{AreAtNames, keys_rise, named_entries}

-- what holds of each record that is found
each_value : (P : Entry → Type 0) (records : ByName Entry) → ((name : FileName) (entry : Entry) → get records name ≡ Some entry → P entry) → AllByRecursion P (values records)
each_value P records holds =
    each_of P (values records) (λ entry h.
    let found = key_of_value nat_list_cmp_total exact_bytes records entry h in holds found.0 entry found.1)

-- ---- names
pub keys_differ : {V : Type 0} (m : ByName V) → KeysDiffer (λ (e : FileName × V). e.0) (entries m)
keys_differ m = differ_where_rising nat_list_cmp_total (λ e. e.0) (entries m) (keys_rise (slice_cmp nat_cmp) (entries m) (entries_sorted m))

has_no_name : (name : FileName) (es : List (FileName × Entry)) → AllByRecursion (λ (e : FileName × Entry). e.1.name ≡ e.0) es → HasNoKey (λ (e : FileName × Entry). e.0) name es → HasNo name (map (λ e. e.1) es)
has_no_name name [] named none = tt
has_no_name name (e ∷ es) named none = (λ same. none.0 (sym named.0 ∙ same), has_no_name name es named.1 none.1)

names_apart : (es : List (FileName × Entry)) → AllByRecursion (λ (e : FileName × Entry). e.1.name ≡ e.0) es → KeysDiffer (λ (e : FileName × Entry). e.0) es → NamesDiffer (map (λ e. e.1) es)
names_apart [] named differ = tt
names_apart (e ∷ es) named differ =
    (has_no_name e.1.name es named.1 (subst_key (sym named.0) differ.0), names_apart es named.1 differ.1)
  where
    subst_key : {one other : FileName} → one ≡ other → HasNoKey (λ (e : FileName × Entry). e.0) one es → HasNoKey (λ (e : FileName × Entry). e.0) other es
    subst_key same none = subst (λ name. HasNoKey (λ (e : FileName × Entry). e.0) name es) same none

names_differ : (records : ByName Entry) → AreAtNames records → NamesDiffer (values records)
names_differ records named = names_apart (entries records) (named_entries records named) (keys_differ records)

-- ---- sequences
abbrev AreFound : ByName Entry → List (FileName × Entry) → Type 0
AreFound records = AllByRecursion (λ e. get records e.0 ≡ Some e.1)

no_number : (records : ByName Entry) → HaveOwnNumbers records → (e : FileName × Entry) → get records e.0 ≡ Some e.1 → (es : List (FileName × Entry)) → AreFound records es → HasNoKey (λ (one : FileName × Entry). one.0) e.0 es → HasNoKey (λ (entry : Entry). entry.sequence) e.1.sequence (map (λ one. one.1) es)
no_number records own e found [] all none = tt
no_number records own e found (x ∷ es) all none = (λ same. none.0 (own x.0 e.0 x.1 e.1 all.0 found same), no_number records own e found es all.1 none.1)

numbers_apart : (records : ByName Entry) → HaveOwnNumbers records → (es : List (FileName × Entry)) → AreFound records es → KeysDiffer (λ (one : FileName × Entry). one.0) es → KeysDiffer (λ (entry : Entry). entry.sequence) (map (λ one. one.1) es)
numbers_apart records own [] all differ = tt
numbers_apart records own (e ∷ es) all differ = (no_number records own e all.0 es all.1 differ.0, numbers_apart records own es all.1 differ.1)

-- ---- tables
pub index_listed : (id greatest : ℕ) (records : ByName Entry) → IsIndex (record { id = id; sequence = greatest; records = records }) → AreRecords records → IsFaultlessIndex greatest (values records)
index_listed id greatest records index sound = record {
  within = index.sequence;
  few = few_values MAX_NAMES records index.few;
  names = names_differ records (λ name entry is. (index.numbered name entry is).0);
  well_formed = sound;
  numbered = each_value (IsNumbered greatest) records (λ name entry is. let n = index.numbered name entry is in (n.1, n.2));
  sequences = numbers_apart records index.distinct (entries records)
      (each_of (λ e. get records e.0 ≡ Some e.1) (entries records) (λ e h. (entry_stands nat_list_cmp_total exact_bytes records e.0 e.1).1 h))
      (keys_differ records);
}

pub pulls_listed : (pulls : ByName Entry) → ArePulls pulls → AreRecords pulls → listed.ArePulls (values pulls)
pulls_listed pulls are sound = record {
  few = few_values MAX_PULLS pulls are.few;
  names = names_differ pulls (λ name entry is. (are.named name entry is).0);
  well_formed = sound;
  valid = each_value (λ entry. entry.invalid ≡ false) pulls (λ name entry is. (are.named name entry is).1);
  within = each_value (λ entry. entry.sequence ≤ MAX_SEQUENCE) pulls are.within;
}
