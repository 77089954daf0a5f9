-- Records and nodes whose names differ make the same map, whether the first of them is put first or the last.
use Rattle.std.proofs.Common.{◌≡◌, ◌≢◌, ℕ, List, [], ◌∷◌, ◌++◌, length, refl, ap, ◌∙◌, arith}
use Rattle.std.specs.Cmp.Lexicographic.{nat_list_cmp_total}
use Rattle.std.specs.FinMap.{insert}
use Rattle.std.specs.List.{AllByRecursion}
use Rattle.std.proofs.lemmas.Map.Lookups.{exact_bytes}
use Rattle.bep_facts.specs.Maps.{insert-swapped}
use Rattle.bep_map.specs.NameMap.{ByName}
use Rattle.bep_record.specs.declared.entry.Entry.{Entry}
use Rattle.bep_record.specs.declared.node.NodeParts.{NodeParts}
use Rattle.bep_index.specs.Batch.{HasNo, NamesDiffer, with_all}
use Rattle.bep_json.specs.declared.nodes.NamedParts.{NamedParts}
use Rattle.bep_document.specs.Faultless.{HasNoKey, KeysDiffer}
use Rattle.bep_cut_document.specs.Written.{with_nodes}

-- what holds of all holds of those before the last, and of the last
pub all_before : {A : Type 0} (P : A → Type 0) (items : List A) (last : A) → AllByRecursion P (items ++ last ∷ []) → AllByRecursion P items × P last
all_before P [] last all = (tt, all.0)
all_before P (item ∷ more) last all = let rest = all_before P more last all.1 in ((all.0, rest.0), rest.1)

-- ---- records
pub no_records_left : (records : ByName Entry) (left : List Entry) → length left ≡ 0 → with_all records left ≡ records
no_records_left records [] none = refl
no_records_left records (entry ∷ more) none = absurd (omega (arith, none))

no_last : (name : List ℕ) (entries : List Entry) (last : Entry) → HasNo name (entries ++ last ∷ []) → HasNo name entries × (last.name ≢ name)
no_last name [] last none = (tt, none.0)
no_last name (entry ∷ more) last none = let rest = no_last name more last none.1 in ((none.0, rest.0), rest.1)

pub names_before : (entries : List Entry) (last : Entry) → NamesDiffer (entries ++ last ∷ []) → NamesDiffer entries
names_before [] last differ = tt
names_before (entry ∷ more) last differ = ((no_last entry.name more last differ.0).0, names_before more last differ.1)

pub record_first : (records : ByName Entry) (entries : List Entry) (last : Entry) → NamesDiffer (entries ++ last ∷ []) → with_all (insert records last.name last) entries ≡ with_all records (entries ++ last ∷ [])
record_first records [] last differ = refl
record_first records (entry ∷ more) last differ =
    ap (λ (made : ByName Entry). with_all made more) (insert-swapped nat_list_cmp_total exact_bytes records last.name entry.name last entry (no_last entry.name more last differ.0).1)
    ∙ record_first (insert records entry.name entry) more last differ.1

-- ---- nodes
pub no_nodes_left : (held : ByName NodeParts) (left : List NamedParts) → length left ≡ 0 → with_nodes held left ≡ held
no_nodes_left held [] none = refl
no_nodes_left held (node ∷ more) none = absurd (omega (arith, none))

no_last_key : (name : List ℕ) (nodes : List NamedParts) (last : NamedParts) → HasNoKey (λ (node : NamedParts). node.name) name (nodes ++ last ∷ []) → HasNoKey (λ (node : NamedParts). node.name) name nodes × (last.name ≢ name)
no_last_key name [] last none = (tt, none.0)
no_last_key name (node ∷ more) last none = let rest = no_last_key name more last none.1 in ((none.0, rest.0), rest.1)

pub keys_before : (nodes : List NamedParts) (last : NamedParts) → KeysDiffer (λ (node : NamedParts). node.name) (nodes ++ last ∷ []) → KeysDiffer (λ (node : NamedParts). node.name) nodes
keys_before [] last differ = tt
keys_before (node ∷ more) last differ = ((no_last_key node.name more last differ.0).0, keys_before more last differ.1)

pub node_first : (held : ByName NodeParts) (nodes : List NamedParts) (last : NamedParts) → KeysDiffer (λ (node : NamedParts). node.name) (nodes ++ last ∷ []) → with_nodes (insert held last.name last.parts) nodes ≡ with_nodes held (nodes ++ last ∷ [])
node_first held [] last differ = refl
node_first held (node ∷ more) last differ =
    ap (λ (made : ByName NodeParts). with_nodes made more) (insert-swapped nat_list_cmp_total exact_bytes held last.name node.name last.parts node.parts (no_last_key node.name more last differ.0).1)
    ∙ node_first (insert held node.name node.parts) more last differ.1
