-- All that keeps a cut from being firm beside what keeps it from being settled, as one list (this project's profile).
use Rattle.std.specs.Prelude.{◌↔◌, List, Contains}
use Rattle.std.specs.List.Sorted.{IsStrictlySortedBy}
use Rattle.bep_model.specs.declared.row.Row.{Row}
use Rattle.bep_model.specs.Tables.{Tables}
use Rattle.bep_model.specs.FirmVerdict.{AsksFirm}
use Rattle.bep_audit.specs.Loose.{Loosening, loose_cmp}

-- what the reason asks holds at its place
abbrev pub IsFirmlyMet : Tables → List Row → Loosening → Type 0
IsFirmlyMet t rows one = AsksFirm t rows one.reason one.place

-- none of the four reasons fails anywhere
abbrev pub IsTight : Tables → List Row → Type 0
IsTight t rows = (one : Loosening) → IsFirmlyMet t rows one

-- these are all of the four reasons that fail, each at each place at which it fails, each once, by reason, then folder, name
-- and device
pub record AreLoosenings (t : Tables) (rows : List Row) (found : List Loosening) : Type 0 where
  pub exact : (one : Loosening) → Contains found one ↔ (¬ IsFirmlyMet t rows one)
  pub rise : IsStrictlySortedBy loose_cmp found
