-- What becomes of files while a cut prevails: each stays, or its name rises to a record that was known (this project's
-- profile).
use Rattle.std.specs.Prelude.{◌≡◌, ◌⊎◌, ⊤, Option, Some, None}
use Rattle.bep_record.specs.declared.entry.Entry.{Entry}
use Rattle.bep_record.specs.Content.{content_of}
use Rattle.bep_record.specs.Vector.{IsBelow}
use Rattle.bep_model.specs.Tables.{Tables, Device, Folder, FileName, Shares}
use Rattle.bep_model.specs.Foreign.{IsKnown}
use Rattle.bep_model.specs.Settled.{content_of_node}
use Rattle.bep_model.specs.Firm.{AreEqual}
use Rattle.bep_converge.specs.Prevails.{IsAnywhere, Prevails, AllPrevail}
use Rattle.bep_converge.specs.Orderly.{StaysAt}

-- the record supersedes the own one: its version is strictly above; without an own record each one does
abbrev pub Supersedes : Option Entry → Entry → Type 0
Supersedes None entry = ⊤
Supersedes (Some own) entry = IsBelow own.version entry.version

-- The device has of the name what a record tells that was known somewhere before, and that supersedes the record which the
-- device had: its version in the own record, and its content in record and file.
pub record RisesAt (before after : Tables) (device : Device) (folder : Folder) (name : FileName) : Type 0 where
  pub entry : Entry
  pub known : IsAnywhere before folder name entry
  pub above : Supersedes (before.own device folder name) entry
  pub own : Entry
  pub recorded : after.own device folder name ≡ Some own
  pub version : AreEqual own.version entry.version
  pub content : content_of own ≡ content_of entry
  pub file : content_of_node (after.node device folder name) ≡ content_of entry

-- each device has of each name the very record and the very file that it had, or it rises there
abbrev pub StayOrRise : Tables → Tables → Type 0
StayOrRise before after = (device : Device) (folder : Folder) (name : FileName) → Shares before device folder →
    StaysAt before after device folder name ⊎ RisesAt before after device folder name

-- no name is known that wasn't: so no conflict copy is made
abbrev pub NoNameComes : Tables → Tables → Type 0
NoNameComes before after = (folder : Folder) (name : FileName) → IsKnown after folder name → IsKnown before folder name

-- it prevails still, the same records do, each device stays or rises, and no name comes
pub record GoesOnPrevailing (before after : Tables) : Type 0 where
  pub all : AllPrevail after
  pub same : (folder : Folder) (name : FileName) (top : Entry) → Prevails before folder name top → Prevails after folder name top
  pub rise : StayOrRise before after
  pub names : NoNameComes before after
