-- How many names of a batch are new.
use Rattle.std.specs.Prelude.{ℕ, ◌+◌, List, [], ◌∷◌, if◌then◌else◌}
use Rattle.std.specs.FinMap.{contains_key}
use Rattle.bep_map.specs.NameMap.{ByName}
use Rattle.bep_record.specs.declared.entry.Entry.{Entry}

-- how many of these have a name without a record; one that stands twice among them counts twice
abbrev pub new_names : ByName Entry → List Entry → ℕ
new_names records [] = 0
new_names records (entry ∷ more) = (if contains_key records entry.name then 0 else 1) + new_names records more
