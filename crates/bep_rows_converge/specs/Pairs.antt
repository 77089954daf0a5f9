-- How far the names of rows have come in each folder (this project's profile).
use Rattle.std.specs.Prelude.{ℕ, ◌+◌, ◌-◌, ◌^◌, min, List, [], ◌∷◌, length, map, if◌then◌else◌}
use Rattle.std.specs.Ordering.{is_eq, nat_cmp}
use Rattle.std.specs.Cmp.Lexicographic.{slice_cmp}
use Rattle.bep_converge_check.specs.Progress.{Progress}
use Rattle.bep_tables.specs.declared.share.SharedFolder.{SharedFolder}
use Rattle.bep_rows_converge.specs.declared.pairs.FolderPairs.{FolderPairs}

-- no names yet in the folder
abbrev pub no_pairs : SharedFolder → FolderPairs
no_pairs shared = record { folder = shared.folder; names = 0; deleted = 0; devices = length shared.shares; to_come = 0 }

-- the sum, as far as 64 bits can count
abbrev pub sum_of : ℕ → ℕ → ℕ
sum_of one other = min (one + other) (2 ^ 64 - 1)

-- a folder's numbers with those of one more name, which count if it is of the folder
abbrev pub with_more : Progress → FolderPairs → FolderPairs
with_more here one =
    let is_here = is_eq (slice_cmp nat_cmp one.folder here.folder) in
    record one {
      names = sum_of one.names (if is_here then here.names else 0);
      deleted = sum_of one.deleted (if is_here then here.deleted else 0);
      to_come = sum_of one.to_come (if is_here then here.to_come else 0);
    }

-- the numbers after these names
abbrev pub pairs_after : List Progress → List FolderPairs → List FolderPairs
pairs_after [] all = all
pairs_after (here ∷ more) all = pairs_after more (map (with_more here) all)

-- the same as how far a folder's names have come
abbrev pub pairs_shown : FolderPairs → Progress
pairs_shown one = record { folder = one.folder; names = one.names; deleted = one.deleted; devices = one.devices; to_come = one.to_come }
