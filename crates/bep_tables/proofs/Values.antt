-- What a map has at its names.
use Rattle.std.proofs.Common.{◌↔◌, IsSome, Contains, sym, ◌∙◌}
use Rattle.std.specs.Cmp.Lexicographic.{nat_list_cmp_total}
use Rattle.std.specs.FinMap.{get, keys, contains_key-keys}
use Rattle.std.proofs.lemmas.Map.Lookups.{exact_bytes}
use Rattle.bep_map.specs.NameMap.{ByName}
use Rattle.bep_model.specs.Tables.{FileName}
use Rattle.bep_tables.proofs.Found.{any_tied, one_tied}

-- a key of a map has a value
pub key_has_value : {V : Type 0} (m : ByName V) (name : FileName) → Contains (keys m) name ↔ IsSome (get m name)
key_has_value m name = (
  λ h. contains_key-keys m name ∙ any_tied nat_list_cmp_total name (keys m) h,
  λ h. one_tied exact_bytes name (keys m) (sym (contains_key-keys m name) ∙ h),
)
