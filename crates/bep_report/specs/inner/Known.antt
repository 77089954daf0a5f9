-- The known names of a folder, by a table of the cut.
use Rattle.std.specs.Prelude.{◌∷◌, [], ◌&&◌, not, nat_eq, Bool, false, List, if◌then◌else◌, map}
use Rattle.std.specs.Borrow.{Bor}
use Rattle.std.specs.Ordering.{is_eq}
use Rattle.std.specs.Cmp.Lexicographic.{pointwise}
use Rattle.bep_model.specs.Tables.{Folder, FileName}
use Rattle.bep_model.specs.Settled.{key_cmp}
use Rattle.bep_tables.specs.Listed.{Listed, key_at}

-- names that are lent
abbrev pub names_lent : List (Bor FileName) → List FileName
names_lent = map (λ name. name.now)

-- whether the first of these entries is of this folder and name
abbrev pub begins_with : Folder × FileName → List Listed → Bool
begins_with key [] = false
begins_with key (one ∷ more) = is_eq (key_cmp (key_at one) key)

-- whether the entry is of the folder, and the one behind it isn't of its name
abbrev pub adds_name : Folder → List Listed → Listed → Bool
adds_name folder later one = pointwise nat_eq one.folder folder && not (begins_with (key_at one) later)

-- the names of these entries, as far as they are of the folder: each once, where the entries of a name stand together
abbrev pub names_in : Folder → List Listed → List FileName
names_in folder [] = []
names_in folder (one ∷ more) = if adds_name folder more one then one.name ∷ names_in folder more else names_in folder more
