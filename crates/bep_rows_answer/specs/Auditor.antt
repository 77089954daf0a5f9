-- The rows of a stream, as they are given to who answers them (this project's profile).
use Rattle.std.specs.Prelude.{List, [], ◌∷◌, None, Some}
use Rattle.bep_row.specs.declared.row.NameRow.{NameRow}
use Rattle.bep_row_document.specs.Faults.{Last}
use Rattle.bep_rows.specs.AllRows.{key_of_row}
use Rattle.bep_rows.specs.Names.{IsAbove}

-- the name of the last row
abbrev pub last_of : Last → List NameRow → Last
last_of last [] = last
last_of last (row ∷ rows) = last_of (Some (key_of_row row)) rows

-- the row comes behind these
abbrev pub IsNextRow : List NameRow → NameRow → Type 0
IsNextRow rows row = IsAbove (key_of_row row) (last_of None rows)
