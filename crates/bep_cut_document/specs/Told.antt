-- Which rows of a certificate a document can have (this project's profile).
use Rattle.std.specs.Prelude.{◌≤◌, List, Contains}
use Rattle.std.specs.List.{AllByRecursion}
use Rattle.bep_index.specs.declared.limits.TheConstants.{MAX_SEQUENCE}
use Rattle.bep_model.specs.declared.row.Row.{Row}
use Rattle.bep_model.specs.Winner.{IsWinner}
use Rattle.bep_tables.specs.declared.cut.CutParts.{CutParts}
use Rattle.bep_tables.specs.Cut.{tables_of}

-- the sequences of the rows' records are in range
abbrev pub AreRowsInRange : List Row → Type 0
AreRowsInRange = AllByRecursion (λ row. row.entry.sequence ≤ MAX_SEQUENCE)

-- so are those of all rows that hold their names' winners
abbrev pub WinnersAreInRange : CutParts → Type 0
WinnersAreInRange cut = (rows : List Row) →
    ((row : Row) → Contains rows row → IsWinner (tables_of cut) row.folder row.entry.name (row.device, row.entry)) → AreRowsInRange rows
