-- The rows of a certificate, lent and sorted by their names (this project's profile).
use Rattle.std.specs.Prelude.{◌≡◌, ◌↔◌, List, Contains, map}
use Rattle.std.specs.declared.cmp.Ordering.{Ordering}
use Rattle.std.specs.Cmp.{IsTotalOrder, on_total}
use Rattle.std.specs.List.Sorted.{IsSortedByKey}
use Rattle.bep_facts.specs.Orders.{texts_total}
use Rattle.bep_model.specs.declared.row.Row.{Row}
use Rattle.bep_model.specs.Tables.{Folder, FileName}
use Rattle.bep_model.specs.Settled.{key_of, key_cmp}
use Rattle.bep_explain.specs.declared.rows.NamedRow.{NamedRow}

-- the row that is lent
abbrev pub row_shown : NamedRow → Row
row_shown one = one.row.now

-- the folder and the name that it is about
abbrev pub named_key : NamedRow → Folder × FileName
named_key one = key_of (row_shown one)

abbrev pub named_cmp : NamedRow → NamedRow → Ordering
named_cmp one other = key_cmp (named_key one) (named_key other)

pub named_total : IsTotalOrder named_cmp
named_total = on_total named_key texts_total

-- these are the rows, sorted by their names
pub record AreSorted (rows : List Row) (sorted : List NamedRow) : Type 0 where
  pub same : (row : Row) → Contains (map row_shown sorted) row ↔ Contains rows row
  pub in_order : IsSortedByKey named_key key_cmp sorted

-- all rows are about one name
abbrev pub AreAbout : Folder × FileName → List Row → Type 0
AreAbout key rows = (row : Row) → Contains rows row → key_of row ≡ key

-- whichever that is
abbrev pub AreAlike : List Row → Type 0
AreAlike rows = (row : Row) → Contains rows row → AreAbout (key_of row) rows
