-- The counts with one more row.
use Rattle.std.proofs.Common.{◌≡◌, List, [], ◌∷◌, ◌++◌, map, refl}
use Rattle.bep_row.specs.declared.row.NameRow.{NameRow}
use Rattle.bep_rows_answer.specs.Counts.{counted, counts_after}
use Rattle.bep_rows_answer.specs.declared.counts.FolderCount.{FolderCount}

pub counts_more : (rows : List NameRow) (row : NameRow) (counts : List FolderCount) → counts_after (rows ++ row ∷ []) counts ≡ map (counted row) (counts_after rows counts)
counts_more [] row counts = refl
counts_more (first ∷ rows) row counts = counts_more rows row (map (counted first) counts)
