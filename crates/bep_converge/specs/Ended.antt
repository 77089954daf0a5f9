-- When what prevails has come to all: each device is at the top of each name, and hears of nothing more (this project's profile).
use Rattle.std.specs.Prelude.{◌≡◌, true, None}
use Rattle.bep_record.specs.declared.entry.Entry.{Entry}
use Rattle.bep_model.specs.Tables.{Tables, Device, Folder, FileName, Shares}
use Rattle.bep_model.specs.Foreign.{IsForeign}
use Rattle.bep_converge.specs.Prevails.{IsAtTop, Prevails, AllPrevail}

-- all prevail, and each device is at the top
pub record IsEnded (t : Tables) : Type 0 where
  pub all : AllPrevail t
  pub at_top : (folder : Folder) (name : FileName) (top : Entry) → Prevails t folder name top →
      (device : Device) → Shares t device folder → IsAtTop (t.own device folder name) top

-- of a name of which it has no record a device hears only that it is deleted
abbrev pub HearsOfNone : Tables → Type 0
HearsOfNone t = (device : Device) (folder : Folder) (name : FileName) (entry : Entry) → Shares t device folder →
    t.own device folder name ≡ None → IsForeign t device folder name entry → entry.deleted ≡ true
