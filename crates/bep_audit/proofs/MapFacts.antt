-- Where a name stands in a map.
use Rattle.std.proofs.Common.{◌≡◌, ◌↔◌, List, Contains, Option, Some, None, IsSome, refl}
use Rattle.std.proofs.Math.Dec.{T}
use Rattle.std.specs.declared.cmp.Ordering.{Ordering}
use Rattle.std.specs.declared.cmp.Ordering.TheVariants.{Less}
use Rattle.std.specs.Ordering.{nat_cmp}
use Rattle.std.specs.Cmp.Lexicographic.{slice_cmp, nat_list_cmp_total}
use Rattle.std.specs.FinMap.Entries.{below_all}
use Rattle.std.specs.FinMap.{get, entries}
use Rattle.std.proofs.lemmas.Map.Lookups.{exact_bytes}
use Rattle.bep_facts.specs.Entries as facts
use Rattle.bep_map.specs.NameMap.{ByName}
use Rattle.bep_model.specs.Tables.{FileName}

-- names are compared by their bytes
abbrev pub by_name : FileName → FileName → Ordering
by_name = slice_cmp nat_cmp

-- what is there
pub there_is : {X : Type 0} (found : Option X) → IsSome found → (x : X) × (found ≡ Some x)
there_is None h = absurd (cc)
there_is (Some x) h = (x, refl)

-- ---- a name with its value

-- each later name is above the first
pub later_is_above : {V : Type 0} (name : FileName) (es : List (FileName × V)) (later : FileName × V) → T (below_all by_name name es) → Contains es later → by_name name later.0 ≡ Less
later_is_above = facts.later_is_above nat_list_cmp_total exact_bytes

-- a name has its value in the map exactly where they stand among the entries
pub entry_stands : {V : Type 0} (held : ByName V) (name : FileName) (v : V) → (get held name ≡ Some v) ↔ Contains (entries held) (name, v)
entry_stands = facts.entry_stands nat_list_cmp_total exact_bytes
