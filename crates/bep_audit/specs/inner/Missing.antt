-- What a search for the first name without a row finds (this project's profile).
use Rattle.std.specs.Prelude.{List, Option, Contains}
use Rattle.std.specs.Ordering.{nat_cmp}
use Rattle.std.specs.Cmp.Lexicographic.{slice_cmp}
use Rattle.bep_model.specs.declared.row.Row.{Row}
use Rattle.bep_model.specs.Settled.{HasRow}
use Rattle.bep_model.specs.Tables.{Folder, FileName}
use Rattle.bep_audit.specs.inner.Search.{FindsFirst}

-- what is found of the names of which something holds: nothing where each has a row, or else the first that has none
abbrev pub FindsMissing : List Row → Folder → (FileName → Type 0) → Option FileName → Type 0
FindsMissing rows folder Names = FindsFirst (slice_cmp nat_cmp) (λ name. Names name → HasRow rows folder name)

-- one of these has the name
abbrev pub OneHas : {Y : Type 0} → (Y → FileName → Type 0) → List Y → FileName → Type 0
OneHas {Y} Names ys name = (y : Y) × Contains ys y × Names y name
