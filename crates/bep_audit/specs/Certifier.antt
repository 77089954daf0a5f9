-- What the certificate of a cut is, or the error that there is none.
use Rattle.std.specs.Prelude.{◌≡◌, ◌⊎◌, ◌↔◌, List, [], ◌∷◌, ◌++◌, ⊤, None, Contains}
use Rattle.std.specs.declared.cmp.Ordering.TheVariants.{Less}
use Rattle.bep_choice.specs.Choice.{Candidate}
use Rattle.bep_model.specs.declared.row.Row.{Row}
use Rattle.bep_model.specs.Settled.{key_of, key_cmp, HasRow, Rise, IsSettled}
use Rattle.bep_model.specs.Tables.{Tables, Folder, FileName}
use Rattle.bep_model.specs.Foreign.{IsKnown}
use Rattle.bep_model.specs.Reasons.{Place}
use Rattle.bep_model.specs.Winner.{IsWinner}
use Rattle.bep_model.specs.WithoutWinner.{HasWinner, IsWithoutWinner, IsFirstWithoutWinner}
use Rattle.bep_audit.specs.declared.error.CertifyError.{CertifyError}
use Rattle.bep_audit.specs.declared.error.CertifyError.TheVariants.{NoWinner, Memory}

-- an error tells of a name for which this holds, or of want of memory
abbrev pub TellsOf : (Folder × FileName → Type 0) → CertifyError → Type 0
TellsOf P (NoWinner folder name) = P (folder, name)
TellsOf P Memory = ⊤

-- the error tells of the first known name that has no winner
abbrev pub TellsOfFirst : Tables → CertifyError → Type 0
TellsOfFirst t = TellsOf (λ key. IsFirstWithoutWinner t key.0 key.1)

-- each list for which the cut is settled is this one, which then is settled
abbrev pub IsSettledIfAny : Tables → List Row → Type 0
IsSettledIfAny t rows = (others : List Row) → IsSettled t others → (others ≡ rows) × IsSettled t rows

-- the cut is settled for no list
abbrev pub IsNeverSettled : Tables → Type 0
IsNeverSettled t = (rows : List Row) → ¬ IsSettled t rows

-- the row is about the name, and holds its winner
abbrev pub IsWon : Tables → Folder × FileName → Row → Type 0
IsWon t key row = (key_of row ≡ key) × IsWinner t key.0 key.1 (row.device, row.entry)

-- no candidate wins the name
abbrev pub IsUnwon : Tables → Folder × FileName → Type 0
IsUnwon t key = (one : Candidate) → ¬ IsWinner t key.0 key.1 one

-- the place of a name as a whole
abbrev pub place_of : Folder × FileName → Place
place_of key = record { folder = key.0; name = key.1; device = None }

-- a known name adds its row, or its place if it has no winner; a name that isn't known adds nothing
abbrev pub AddsName : Tables → Folder × FileName → List Row → List Row → List Place → List Place → Type 0
AddsName t key old new places more =
    (IsKnown t key.0 key.1 × ((row : Row) × IsWon t key row × (new ≡ old ++ row ∷ [])) × (more ≡ places))
    ⊎ ((IsWithoutWinner t key.0 key.1 × (new ≡ old) × (more ≡ places ++ place_of key ∷ []))
    ⊎ ((¬ IsKnown t key.0 key.1) × (new ≡ old) × (more ≡ places)))

-- each of these places is above the one before it
abbrev pub PlacesRise : List Place → Type 0
PlacesRise [] = ⊤
PlacesRise (one ∷ []) = ⊤
PlacesRise (one ∷ next ∷ more) = (key_cmp (one.folder, one.name) (next.folder, next.name) ≡ Less) × PlacesRise (next ∷ more)

-- the rows of the known names that have a winner, in order, each with it, and the places of those that have none, in order;
-- each known name is one or the other
pub record AreWinners (t : Tables) (rows : List Row) (without : List Place) : Type 0 where
  pub rise : Rise rows
  pub names : (folder : Folder) (name : FileName) → (IsKnown t folder name × HasWinner t folder name) ↔ HasRow rows folder name
  pub winners : (row : Row) → Contains rows row → IsWinner t row.folder row.entry.name (row.device, row.entry)
  pub places_rise : PlacesRise without
  pub exact : (place : Place) → Contains without place ↔ (IsWithoutWinner t place.folder place.name × (place.device ≡ None))
  pub either : (folder : Folder) (name : FileName) → IsKnown t folder name → HasRow rows folder name ⊎ Contains without (place_of (folder, name))
