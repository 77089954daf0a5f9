-- How many names rows have in each folder (this project's profile).
use Rattle.std.specs.Prelude.{ℕ, ◌+◌, ◌-◌, ◌^◌, min, Bool, is_some, List, [], ◌∷◌, length, map, if◌then◌else◌}
use Rattle.std.specs.List.{list_any}
use Rattle.std.specs.Ordering.{is_eq, nat_cmp}
use Rattle.std.specs.Cmp.Lexicographic.{slice_cmp}
use Rattle.bep_lines.specs.Lines.{folder_line}
use Rattle.bep_row.specs.declared.row.DeviceCell.{DeviceCell}
use Rattle.bep_row.specs.declared.row.NameRow.{NameRow}
use Rattle.bep_tables.specs.declared.share.SharedFolder.{SharedFolder}
use Rattle.bep_rows_answer.specs.declared.counts.FolderCount.{FolderCount}

-- no names yet in the folder
abbrev pub no_count : SharedFolder → FolderCount
no_count shared = record { folder = shared.folder; names = 0; deleted = 0; devices = length shared.shares }

-- some device's store holds the name
abbrev pub is_held : List DeviceCell → Bool
is_held cells = list_any (λ cell. is_some cell.node) cells

-- one more, as far as 64 bits can count
abbrev pub one_more : ℕ → ℕ
one_more count = min (count + 1) (2 ^ 64 - 1)

-- a folder's count with one more row, which counts if it is of the folder
abbrev pub counted : NameRow → FolderCount → FolderCount
counted row one =
    if is_eq (slice_cmp nat_cmp one.folder row.folder)
    then record one { names = one_more one.names; deleted = if is_held row.devices then one.deleted else one_more one.deleted }
    else one

-- the counts after these rows
abbrev pub counts_after : List NameRow → List FolderCount → List FolderCount
counts_after [] counts = counts
counts_after (row ∷ rows) counts = counts_after rows (map (counted row) counts)

-- the line of a folder's count
abbrev pub count_line : FolderCount → List ℕ
count_line one = folder_line one.folder one.names one.deleted one.devices
