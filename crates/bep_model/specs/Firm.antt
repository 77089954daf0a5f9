-- When a cut is firm: it is settled, and no version anywhere is beyond the winner's. Then no record is news to any device,
-- whichever it would choose, and nothing is recorded or written any more (this project's profile).
use Rattle.std.specs.Prelude.{◌≡◌, ℕ, ⊤, List, Option, Some, None}
use Rattle.bep_record.specs.declared.entry.Entry.{Entry}
use Rattle.bep_record.specs.Vector.{IsAtMost}
use Rattle.bep_model.specs.declared.row.Row.{Row}
use Rattle.bep_model.specs.Tables.{Tables, Device, Folder, FileName, Shares}
use Rattle.bep_model.specs.Foreign.{IsForeign}
use Rattle.bep_model.specs.Settled.{AtEachShare, IsSettled}
use Rattle.bep_model.specs.Free.{IsFreeRun}

-- two versions are equal: each is at most the other (BEP v1, 'Vector')
abbrev pub AreEqual : List (ℕ × ℕ) → List (ℕ × ℕ) → Type 0
AreEqual u v = IsAtMost u v × IsAtMost v u

-- the own record, where there is one, has this version
abbrev pub OwnHasVersion : Option Entry → List (ℕ × ℕ) → Type 0
OwnHasVersion None version = ⊤
OwnHasVersion (Some own) version = AreEqual own.version version

-- every foreign record's version is at most this one
abbrev pub ForeignIsAtMost : Tables → Device → Folder → FileName → List (ℕ × ℕ) → Type 0
ForeignIsAtMost t device folder name version =
    (entry : Entry) → IsForeign t device folder name entry → IsAtMost entry.version version

-- firm: settled, each own record of a row's name at the winner's version, and each foreign one not beyond it
pub record IsFirm (t : Tables) (rows : List Row) : Type 0 where
  pub settled : IsSettled t rows
  pub own : AtEachShare t rows (λ row device. OwnHasVersion (t.own device row.folder row.entry.name) row.entry.version)
  pub foreign : AtEachShare t rows (λ row device. ForeignIsAtMost t device row.folder row.entry.name row.entry.version)

-- each sharing device has the very records and the very files that it had, times included
pub record IsUnchanged (before after : Tables) : Type 0 where
  pub own : (device : Device) (folder : Folder) (name : FileName) → Shares before device folder → after.own device folder name ≡ before.own device folder name
  pub node : (device : Device) (folder : Folder) (name : FileName) → Shares before device folder → after.node device folder name ≡ before.node device folder name

-- after every run of free peers the tables are firm for the same rows, and nothing has changed
abbrev pub StaysFirm : Tables → List Row → Type 0
StaysFirm t rows = (later : Tables) (between : List Tables) → IsFreeRun t between later → IsFirm later rows × IsUnchanged t later
