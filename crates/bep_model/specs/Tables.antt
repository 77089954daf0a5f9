-- What a cut and a cluster say, as look-ups by device, folder and name. (Syncthing's terms; BEP v1, 'Index' and
-- 'Index Update' for what flies.)
use Rattle.std.specs.Prelude.{ℕ, List, Option, Contains}
use Rattle.bep_record.specs.declared.entry.Entry.{Entry}
use Rattle.bep_record.specs.declared.node.NodeParts.{NodeParts}
use Rattle.bep_record.specs.declared.folder_kind.FolderKind.{FolderKind}
use Rattle.bep_model.specs.declared.flight.Flight.{Flight}

-- a device's short id
abbrev pub Device : Type 0
Device = ℕ

-- a folder's name, and a file's name in it, by their bytes
abbrev pub Folder : Type 0
Folder = List ℕ

abbrev pub FileName : Type 0
FileName = List ℕ

pub record Tables : Type 0 where
  -- the devices that share a folder, each with what it does there
  pub sharing : Folder → List (Device × FolderKind)
  -- a device's own record of a name
  pub own : Device → Folder → FileName → Option Entry
  -- what a device's store holds at a name
  pub node : Device → Folder → FileName → Option NodeParts
  -- a device's view of another's record
  pub viewed : Device → Device → Folder → FileName → Option Entry
  -- the target of a device's pull of a name
  pub target : Device → Folder → FileName → Option Entry
  -- what is on its way from a device to another, the first to arrive first
  pub flying : Device → Device → List Flight

-- the device shares the folder, in this kind
abbrev pub SharesAs : Tables → Device → Folder → FolderKind → Type 0
SharesAs t device folder kind = Contains (t.sharing folder) (device, kind)

abbrev pub Shares : Tables → Device → Folder → Type 0
Shares t device folder = (kind : FolderKind) × SharesAs t device folder kind
