-- What stands among the entries of a map is found in it.
use Rattle.std.proofs.Common.{◌≡◌, Contains, Some}
use Rattle.std.specs.Cmp.Lexicographic.{nat_list_cmp_total}
use Rattle.std.specs.FinMap.{get, entries}
use Rattle.std.proofs.lemmas.Map.Lookups.{exact_bytes}
use Rattle.bep_facts.specs.Entries.{entry_stands}
use Rattle.bep_map.specs.NameMap.{ByName}
use Rattle.bep_model.specs.Tables.{FileName}

pub entry_is_found : {V : Type 0} (held : ByName V) (name : FileName) (value : V) → Contains (entries held) (name, value) → get held name ≡ Some value
entry_is_found held name value stands = (entry_stands nat_list_cmp_total exact_bytes held name value).1 stands
