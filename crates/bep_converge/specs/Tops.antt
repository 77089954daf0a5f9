-- What becomes of a cut when one device changes a name alone: its new record is the top, and all else is as it was (this
-- project's profile).
use Rattle.std.specs.Prelude.{◌≡◌, Some}
use Rattle.bep_record.specs.declared.entry.Entry.{Entry}
use Rattle.bep_record.specs.Content.{Content, content_of}
use Rattle.bep_model.specs.Tables.{Tables, Device, Folder, FileName}
use Rattle.bep_model.specs.Foreign.{IsKnown}
use Rattle.bep_converge.specs.Prevails.{Prevails}

-- only the device's record and file of this name may have changed
pub record ChangesAlone (old new : Tables) (device : Device) (folder : Folder) (name : FileName) : Type 0 where
  pub sharing : (any : Folder) → new.sharing any ≡ old.sharing any
  pub own : (other : Device) (any : Folder) (one : FileName) → ¬ ((other ≡ device) × (any ≡ folder) × (one ≡ name)) → new.own other any one ≡ old.own other any one
  pub node : (other : Device) (any : Folder) (one : FileName) → ¬ ((other ≡ device) × (any ≡ folder) × (one ≡ name)) → new.node other any one ≡ old.node other any one
  pub viewed : (one other : Device) (any : Folder) (at : FileName) → new.viewed one other any at ≡ old.viewed one other any at
  pub target : (one : Device) (any : Folder) (at : FileName) → new.target one any at ≡ old.target one any at
  pub flying : (sender receiver : Device) → new.flying sender receiver ≡ old.flying sender receiver

-- of each other name what prevailed does still, and no other name is known that wasn't
pub record LeavesOthers (old new : Tables) (folder : Folder) (name : FileName) : Type 0 where
  pub prevailing : (any : Folder) (one : FileName) (top : Entry) → ¬ ((any ≡ folder) × (one ≡ name)) → Prevails old any one top → Prevails new any one top
  pub known : (any : Folder) (one : FileName) → ¬ ((any ≡ folder) × (one ≡ name)) → IsKnown new any one → IsKnown old any one

-- the device has a new record of this content, and it prevails
pub record MakesTop (old new : Tables) (device : Device) (folder : Folder) (name : FileName) (like : Content) : Type 0 where
  pub top : Entry
  pub recorded : new.own device folder name ≡ Some top
  pub content : content_of top ≡ like
  pub prevails : Prevails new folder name top
  pub alone : ChangesAlone old new device folder name
  pub rest : LeavesOthers old new folder name
