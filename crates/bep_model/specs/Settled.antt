-- When a cut is settled: no step but a local edit can change a file any more (this project's profile).
use Rattle.std.specs.Prelude.{◌≡◌, ◌↔◌, false, List, [], ◌∷◌, ⊤, Option, Some, None, Contains}
use Rattle.std.specs.declared.cmp.Ordering.{Ordering}
use Rattle.std.specs.declared.cmp.Ordering.TheVariants.{Less}
use Rattle.std.specs.Ordering.{nat_cmp, on, then_cmp}
use Rattle.std.specs.Cmp.Lexicographic.{slice_cmp}
use Rattle.bep_record.specs.declared.entry.Entry.{Entry}
use Rattle.bep_record.specs.declared.node.NodeParts.{NodeParts}
use Rattle.bep_record.specs.Content.{Content, Deleted, content_of, content_of_kind}
use Rattle.bep_record.specs.Node.{IsClean}
use Rattle.bep_blocks.specs.Plain.{file_blocks}
use Rattle.bep_model.specs.declared.row.Row.{Row}
use Rattle.bep_model.specs.Tables.{Tables, Device, Folder, FileName, Shares}
use Rattle.bep_model.specs.Foreign.{IsForeign, IsHarmless, IsKnown}
use Rattle.bep_model.specs.Winner.{IsWinner}

-- the content of what a store holds: the block list of its bytes, or its target; no record is asked
abbrev pub content_of_node : Option NodeParts → Content
content_of_node None = Deleted
content_of_node (Some node) = content_of_kind node.kind (file_blocks node.bytes) node.target

-- the folder and the name that a row is about
abbrev pub key_of : Row → Folder × FileName
key_of row = (row.folder, row.entry.name)

-- the order of certificates: by folder, then by name, each by its bytes
abbrev pub key_cmp : Folder × FileName → Folder × FileName → Ordering
key_cmp = then_cmp (on (λ key. key.0) (slice_cmp nat_cmp)) (on (λ key. key.1) (slice_cmp nat_cmp))

-- each row is above the one before it
abbrev pub Rise : List Row → Type 0
Rise [] = ⊤
Rise (row ∷ []) = ⊤
Rise (row ∷ next ∷ more) = (key_cmp (key_of row) (key_of next) ≡ Less) × Rise (next ∷ more)

-- some row is about this name
abbrev pub HasRow : List Row → Folder → FileName → Type 0
HasRow rows folder name = (row : Row) × Contains rows row × (key_of row ≡ (folder, name))

-- the own record isn't local-only and has this content; or there is none, and the content is Deleted
abbrev pub OwnAgrees : Option Entry → Content → Type 0
OwnAgrees None content = content ≡ Deleted
OwnAgrees (Some own) content = (own.invalid ≡ false) × (content_of own ≡ content)

-- the store holds this, and a scan would leave it alone
pub record StoreAgrees (node : Option NodeParts) (own : Option Entry) (content : Content) : Type 0 where
  pub holds : content_of_node node ≡ content
  pub clean : IsClean node own

-- no foreign record can change it
abbrev pub ForeignAgrees : Tables → Device → Folder → FileName → Content → Type 0
ForeignAgrees t device folder name content =
    (entry : Entry) → IsForeign t device folder name entry → IsHarmless (t.own device folder name) content entry

-- at each row and each sharing device
abbrev pub AtEachShare : Tables → List Row → (Row → Device → Type 0) → Type 0
AtEachShare t rows P = (row : Row) (device : Device) → Contains rows row → Shares t device row.folder → P row device

-- the rows of the known names, in order, each with its name's winner
pub record IsListOfWinners (t : Tables) (rows : List Row) : Type 0 where
  pub rise : Rise rows
  pub names : (folder : Folder) (name : FileName) → IsKnown t folder name ↔ HasRow rows folder name
  pub winners : (row : Row) → Contains rows row → IsWinner t row.folder row.entry.name (row.device, row.entry)

-- settled: the certificate is the list of the winners, and each sharing device agrees with it
pub record IsSettled (t : Tables) (rows : List Row) : Type 0 where
  pub certificate : IsListOfWinners t rows
  pub own : AtEachShare t rows (λ row device. OwnAgrees (t.own device row.folder row.entry.name) (content_of row.entry))
  pub store : AtEachShare t rows (λ row device. StoreAgrees (t.node device row.folder row.entry.name) (t.own device row.folder row.entry.name) (content_of row.entry))
  pub foreign : AtEachShare t rows (λ row device. ForeignAgrees t device row.folder row.entry.name (content_of row.entry))
