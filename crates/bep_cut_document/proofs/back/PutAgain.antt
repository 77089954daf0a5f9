-- The entries of a map, put into an empty one at their keys, are that map again.
use Rattle.std.proofs.Common.{◌≡◌, Bool, true, false, cond, List, [], ◌∷◌, map, Option, Some, None, refl, sym, ap, ◌∙◌}
use Rattle.std.proofs.Math.Dec.{T}
use Rattle.std.specs.declared.cmp.Ordering.{Ordering}
use Rattle.std.specs.declared.cmp.Ordering.TheVariants.{Less}
use Rattle.std.specs.Ordering.{is_eq, eq_by_cmp}
use Rattle.std.specs.Option.{option_or}
use Rattle.std.specs.Cmp.{IsTotalOrder}
use Rattle.std.specs.Cmp.Lexicographic.{nat_list_cmp_total}
use Rattle.std.specs.FinMap.Entries.{below_all}
use Rattle.std.specs.FinMap.{FinMap, IsAntisymmetric, find, is_sorted, get, empty, insert, entries, values, entries_sorted, get-entries, get-empty, get-insert, same_map}
use Rattle.std.specs.List.{AllByRecursion}
use Rattle.std.specs.List.Sorted.{IsStrictlySortedBy}
use Rattle.std.proofs.lemmas.List.Elements.{recursion_from_All}
use Rattle.std.proofs.lemmas.Map.Lookups.{exact_bytes}
use Rattle.bep_facts.specs.Entries.{both_hold, is_Less, entry_stands}
use Rattle.bep_facts.specs.Maps.{same_key}
use Rattle.bep_map.specs.NameMap.{ByName}
use Rattle.bep_record.specs.declared.entry.Entry.{Entry}
use Rattle.bep_record.specs.declared.node.NodeParts.{NodeParts}
use Rattle.bep_index.specs.Batch.{with_all}
use Rattle.bep_model.specs.Tables.{FileName}
use Rattle.bep_cut_document.specs.inner.Told.{node_parts}
use Rattle.bep_cut_document.specs.Written.{with_nodes}
use Rattle.bep_tables.proofs.Found.{all_from_each}

-- each of these put at its key
put_each : {K V : Type 0} {R : K → K → Ordering} → FinMap R V → List (K × V) → FinMap R V
put_each m [] = m
put_each m (e ∷ es) = put_each (insert m e.0 e.1) es

or_none : {V : Type 0} (o : Option V) → option_or o None ≡ o
or_none None = refl
or_none (Some v) = refl

module _ {K V : Type 0} (R : K → K → Ordering) where
  all_below : (key : K) (es : List (K × V)) → T (below_all R key es) → AllByRecursion (λ k. R key k ≡ Less) (map (λ e. e.0) es)
  all_below key [] below = tt
  all_below key (e ∷ es) below = let parts = both_hold _ _ below in (is_Less _ parts.0, all_below key es parts.1)

  -- the keys of a map's entries rise
  pub keys_rise : (es : List (K × V)) → T (is_sorted R es) → IsStrictlySortedBy R (map (λ e. e.0) es)
  unfolding IsStrictlySortedBy
  keys_rise [] sorted = tt
  keys_rise (e ∷ es) sorted = let parts = both_hold _ _ sorted in (all_below e.0 es parts.0, keys_rise es parts.1)

  none_above : (key : K) (es : List (K × V)) → T (below_all R key es) → find R key es ≡ None
  none_above key [] below = refl
  none_above key (e ∷ es) below =
      let parts = both_hold _ _ below in
      ap (λ o. cond (is_eq o) (Some e.1) (find R key es)) (is_Less _ parts.0) ∙ none_above key es parts.1

module _ {K V : Type 0} {R : K → K → Ordering} (total : IsTotalOrder R) (exact : IsAntisymmetric R) where
  get-put_each : (m : FinMap R V) (es : List (K × V)) (q : K) → T (is_sorted R es) → get (put_each m es) q ≡ option_or (find R q es) (get m q)
  unfolding put_each
  get-put_each m [] q sorted = refl
  get-put_each m (e ∷ es) q sorted =
      let parts = both_hold _ _ sorted in
      get-put_each (insert m e.0 e.1) es q parts.1
      ∙ ap (option_or (find R q es)) (get-insert total m e.0 e.1 q)
      ∙ cases (eq_by_cmp R q e.0) refl (none_above R e.0 es parts.0)
    where
      cases : (b : Bool) → eq_by_cmp R q e.0 ≡ b → find R e.0 es ≡ None → option_or (find R q es) (cond b (Some e.1) (get m q)) ≡ option_or (cond b (Some e.1) (find R q es)) (get m q)
      cases true tied none = ap (λ o. option_or o (Some e.1)) (ap (λ k. find R k es) (same_key exact q e.0 tied) ∙ none)
      cases false apart none = refl

  put_again : (m : FinMap R V) → put_each empty (entries m) ≡ m
  put_again m = same_map total exact _ _ (λ q.
      get-put_each empty (entries m) q (entries_sorted m)
      ∙ ap (option_or (find R q (entries m))) (get-empty R q)
      ∙ or_none (find R q (entries m))
      ∙ sym (get-entries m q))

-- ---- records and nodes
-- each record stands at its name
abbrev pub AreAtNames : ByName Entry → Type 0
AreAtNames records = (name : FileName) (entry : Entry) → get records name ≡ Some entry → entry.name ≡ name

pub named_entries : (records : ByName Entry) → AreAtNames records → AllByRecursion (λ (e : FileName × Entry). e.1.name ≡ e.0) (entries records)
named_entries records named =
    recursion_from_All (λ (e : FileName × Entry). e.1.name ≡ e.0) (entries records)
    (all_from_each (λ (e : FileName × Entry). e.1.name ≡ e.0) (entries records) (λ e h.
    named e.0 e.1 ((entry_stands nat_list_cmp_total exact_bytes records e.0 e.1).1 h)))

each_record_put : (m : ByName Entry) (es : List (FileName × Entry)) → AllByRecursion (λ (e : FileName × Entry). e.1.name ≡ e.0) es → with_all m (map (λ e. e.1) es) ≡ put_each m es
unfolding put_each
each_record_put m [] named = refl
each_record_put m (e ∷ es) named =
    ap (λ name. with_all (insert m name e.1) (map (λ one. one.1) es)) named.0 ∙ each_record_put (insert m e.0 e.1) es named.1

pub records_again : (records : ByName Entry) → AreAtNames records → with_all empty (values records) ≡ records
records_again records named =
    each_record_put empty (entries records) (named_entries records named) ∙ put_again nat_list_cmp_total exact_bytes records

each_node_put : (m : ByName NodeParts) (es : List (FileName × NodeParts)) → with_nodes m (map node_parts es) ≡ put_each m es
unfolding put_each
each_node_put m [] = refl
each_node_put m (e ∷ es) = each_node_put (insert m e.0 e.1) es

pub nodes_again : (nodes : ByName NodeParts) → with_nodes empty (map node_parts (entries nodes)) ≡ nodes
nodes_again nodes = each_node_put empty (entries nodes) ∙ put_again nat_list_cmp_total exact_bytes nodes
