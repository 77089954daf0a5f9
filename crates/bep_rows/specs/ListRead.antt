-- What is known of each cut once some rows of it were read, in order (this project's profile).
use Rattle.std.specs.Prelude.{◌≡◌, true, List, Contains}
use Rattle.bep_row.specs.declared.row.NameRow.{NameRow}
use Rattle.bep_tables.specs.Cut.{tables_of}
use Rattle.bep_tables.specs.declared.cut.CutParts.{CutParts}
use Rattle.bep_rows.specs.AllRows.{NamesDiffer, key_of_row}
use Rattle.bep_rows.specs.Names.{IsUpTo, Key, among}
use Rattle.bep_rows.specs.Row.{IsRowOf}
use Rattle.bep_rows.specs.Stream.{IsReadTo}
use Rattle.bep_rows.specs.declared.aim.Aim.{Aim}
use Rattle.bep_rows.specs.declared.stream.Stream.{Stream}

-- these names have the keys of all these rows
abbrev pub HasKeys : List Key → List NameRow → Type 0
HasKeys keys rows = (row : NameRow) → Contains rows row → among keys row.folder row.name ≡ true

-- what is known of a cut once these rows were read
pub record IsListRead (aim : Aim) (header : CutParts) (rows : List NameRow) (stream : Stream) : Type 0 where
  pub differ : NamesDiffer rows
  pub up_to : (row : NameRow) → Contains rows row → IsUpTo stream.last (key_of_row row)
  pub read : (whole : CutParts) → ((row : NameRow) → Contains rows row → IsRowOf whole header row) → (keys : List Key) × HasKeys keys rows × IsReadTo aim (tables_of whole) keys stream
