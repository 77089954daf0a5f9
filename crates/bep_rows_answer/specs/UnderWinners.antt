-- What is answered to rows under the winners of their names (this project's profile).
use Rattle.std.specs.Prelude.{◌≡◌, ◌++◌, ℕ, List, None, map}
use Rattle.std.specs.List.{flat_map}
use Rattle.bep_parts.specs.Parts.{only}
use Rattle.bep_row.specs.declared.row.NameRow.{NameRow}
use Rattle.bep_rows.specs.AllRows.{cut_by}
use Rattle.bep_rows.specs.ListRead.{IsListRead}
use Rattle.bep_rows.specs.Names.{is_name}
use Rattle.bep_rows.specs.Row.{IsRowOf}
use Rattle.bep_rows.specs.Standing.{IsStanding}
use Rattle.bep_rows.specs.declared.aim.Aim.{Aim}
use Rattle.bep_rows.specs.declared.standing.Standing.{Standing}
use Rattle.bep_tables.specs.Cut.{tables_of}
use Rattle.bep_tables.specs.declared.cut.CutParts.{CutParts}
use Rattle.bep_rows_answer.specs.Auditor.{last_of}
use Rattle.bep_rows_answer.specs.Counts.{count_line, counts_after, no_count}
use Rattle.bep_rows_answer.specs.Lines.{standing_line, verdict_line_of}
use Rattle.bep_rows_answer.specs.Outcome.{outcome_of}
use Rattle.bep_rows_answer.specs.declared.outcome.RowsOutcome.{RowsOutcome}
use Rattle.bep_rows_answer.specs.declared.under_winners.UnderWinners.{UnderWinners}

-- what is answered of the row is what is to be said of its name in each cut of which it is a row
abbrev pub StandsFor : Aim → CutParts → NameRow → Standing → Type 0
StandsFor aim header row standing = (whole : CutParts) → IsRowOf whole header row → IsStanding aim (only (is_name (row.folder, row.name)) (tables_of whole)) standing

-- the text is the line of that, where the name isn't what is asked
pub record TellsStanding (aim : Aim) (header : CutParts) (row : NameRow) (text : List ℕ) : Type 0 where
  pub standing : Standing
  pub stands : StandsFor aim header row standing
  pub told : text ≡ standing_line standing

-- The text is the verdict, then a line for each folder. The verdict is that on the cut for which the header and the rows stand,
-- under the list of its winners; or its first known name that has none.
pub record EndsUnderWinners (aim : Aim) (header : CutParts) (rows : List NameRow) (outcome : RowsOutcome) (text : List ℕ) : Type 0 where
  pub standing : Standing
  pub judged : IsStanding aim (tables_of (cut_by header rows)) standing
  pub told : outcome ≡ outcome_of standing
  pub written : text ≡ verdict_line_of aim standing ++ flat_map count_line (counts_after rows (map no_count header.folders))

-- what is known once these rows were given
pub record KnowsStandings (aim : Aim) (header : CutParts) (rows : List NameRow) (now : UnderWinners) : Type 0 where
  pub asked : now.aim ≡ aim
  pub listed : IsListRead aim header rows now.stream
  pub last : now.stream.last ≡ last_of None rows
  pub counts : now.counts ≡ counts_after rows (map no_count header.folders)
