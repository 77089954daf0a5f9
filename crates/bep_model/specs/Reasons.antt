-- The twelve reasons for which a cut isn't settled: what each asks, and where (this project's profile).
use Rattle.std.specs.Prelude.{◌≡◌, ◌≢◌, ℕ, ◌+◌, false, List, [], ◌∷◌, ⊤, Option, Some, None, Contains, if◌then◌else◌}
use Rattle.std.specs.declared.cmp.Ordering.{Ordering}
use Rattle.std.specs.Ordering.{nat_cmp, is_lt, on, then_cmp}
use Rattle.std.specs.Cmp.Lexicographic.{slice_cmp}
use Rattle.bep_record.specs.declared.entry.Entry.{Entry}
use Rattle.bep_record.specs.Content.{Deleted, content_of}
use Rattle.bep_record.specs.Node.{IsClean}
use Rattle.bep_model.specs.declared.row.Row.{Row}
use Rattle.bep_model.specs.declared.reason.Reason.{Reason}
use Rattle.bep_model.specs.declared.reason.Reason.TheVariants.{CertificateOrder, NameMissing, NameUnknown, NotWinner, RecordMissing, RecordDiffers, LocalOnly, StoreDiffers, StoreUnclean, ViewAhead, FlightAhead, PullAhead}
use Rattle.bep_model.specs.Tables.{Tables, Device, Folder, FileName, Shares}
use Rattle.bep_model.specs.Foreign.{IsViewed, IsFlying, IsTarget, IsHarmless, IsKnown}
use Rattle.bep_model.specs.Winner.{IsWinner}
use Rattle.bep_model.specs.Settled.{content_of_node, key_of, key_cmp, HasRow}

-- where a reason can fail: at a name, or at a device's part of it
pub record Place : Type 0 where
  pub folder : Folder
  pub name : FileName
  pub device : Option Device

-- no device comes before each device
abbrev pub device_rank : Option Device → ℕ
device_rank None = 0
device_rank (Some device) = device + 1

-- by folder, then name, then device
abbrev pub place_cmp : Place → Place → Ordering
place_cmp =
    then_cmp (on (λ place. place.folder) (slice_cmp nat_cmp))
    (then_cmp (on (λ place. place.name) (slice_cmp nat_cmp))
    (on (λ place. device_rank place.device) nat_cmp))

-- the first row that isn't above the one before it
abbrev pub first_disordered : List Row → Option (Folder × FileName)
first_disordered [] = None
first_disordered (row ∷ []) = None
first_disordered (row ∷ next ∷ more) =
    if is_lt (key_cmp (key_of row) (key_of next)) then first_disordered (next ∷ more) else Some (key_of next)

-- what a reason asks of a name as a whole
abbrev pub AsksName : Tables → List Row → Reason → Folder → FileName → Type 0
AsksName t rows CertificateOrder folder name = first_disordered rows ≢ Some (folder, name)
AsksName t rows NameMissing folder name = IsKnown t folder name → HasRow rows folder name
AsksName t rows NameUnknown folder name = HasRow rows folder name → IsKnown t folder name
AsksName t rows NotWinner folder name =
    (row : Row) → Contains rows row → key_of row ≡ (folder, name) → IsWinner t folder name (row.device, row.entry)
AsksName t rows reason folder name = ⊤

-- a record that isn't invalid can't change the row's content at the device
abbrev pub AsksHarmless : Tables → Row → Device → Entry → Type 0
AsksHarmless t row device entry =
    entry.invalid ≡ false → IsHarmless (t.own device row.folder row.entry.name) (content_of row.entry) entry

-- what a reason asks of a sharing device, beside a row
abbrev pub AsksShare : Tables → Reason → Row → Device → Type 0
AsksShare t RecordMissing row device = t.own device row.folder row.entry.name ≡ None → content_of row.entry ≡ Deleted
AsksShare t RecordDiffers row device =
    (own : Entry) → t.own device row.folder row.entry.name ≡ Some own → own.invalid ≡ false → content_of own ≡ content_of row.entry
AsksShare t LocalOnly row device = (own : Entry) → t.own device row.folder row.entry.name ≡ Some own → own.invalid ≡ false
AsksShare t StoreDiffers row device = content_of_node (t.node device row.folder row.entry.name) ≡ content_of row.entry
AsksShare t StoreUnclean row device = IsClean (t.node device row.folder row.entry.name) (t.own device row.folder row.entry.name)
AsksShare t ViewAhead row device =
    (entry : Entry) → IsViewed t device row.folder row.entry.name entry → AsksHarmless t row device entry
AsksShare t FlightAhead row device =
    (entry : Entry) → IsFlying t device row.folder row.entry.name entry → AsksHarmless t row device entry
AsksShare t PullAhead row device =
    (entry : Entry) → IsTarget t device row.folder row.entry.name entry → AsksHarmless t row device entry
AsksShare t reason row device = ⊤

-- what a reason asks of a device at a name: nothing, unless it shares the folder and there is a row
abbrev pub AsksDevice : Tables → List Row → Reason → Folder → FileName → Device → Type 0
AsksDevice t rows reason folder name device =
    (row : Row) → Contains rows row → key_of row ≡ (folder, name) → Shares t device folder → AsksShare t reason row device

abbrev pub AsksAt : Tables → List Row → Reason → Folder → FileName → Option Device → Type 0
AsksAt t rows reason folder name None = AsksName t rows reason folder name
AsksAt t rows reason folder name (Some device) = AsksDevice t rows reason folder name device

-- what a reason asks at a place
abbrev pub Asks : Tables → List Row → Reason → Place → Type 0
Asks t rows reason place = AsksAt t rows reason place.folder place.name place.device
