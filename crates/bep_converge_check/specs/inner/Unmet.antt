-- What a search among the devices of a folder finds of what they are asked beside the top of a name (this project's profile).
use Rattle.std.specs.Prelude.{◌≡◌, ◌<◌, List, Option, Some, None, Contains}
use Rattle.bep_record.specs.declared.entry.Entry.{Entry}
use Rattle.bep_model.specs.Tables.{Device, FileName}
use Rattle.bep_tables.specs.declared.share.Share.{Share}
use Rattle.bep_converge.specs.declared.converge_reason.ConvergeReason.{ConvergeReason}
use Rattle.bep_converge.specs.ConvergeReasons.{converge_number_of}
use Rattle.bep_converge_check.specs.inner.Asked.{AsksOfShare}

-- the device meets what the reason asks, if it is one of these
abbrev pub IsMetBy : Entry → FileName → List Share → ConvergeReason → Device → Type 0
IsMetBy top name shares reason device = (share : Share) → Contains shares share → share.device ≡ device → AsksOfShare reason top name share

-- the reason fails at the device, no lesser reason fails at any, and it doesn't fail at an earlier one
pub record IsFirstUnmet (top : Entry) (name : FileName) (shares : List Share) (reason : ConvergeReason) (device : Device) : Type 0 where
  pub fails : ¬ IsMetBy top name shares reason device
  pub least : (lesser : ConvergeReason) (any : Device) → converge_number_of lesser < converge_number_of reason → IsMetBy top name shares lesser any
  pub first : (earlier : Device) → earlier < device → IsMetBy top name shares reason earlier

-- what is found: nothing where all is met, or else the first
abbrev pub FindsUnmet : Entry → FileName → List Share → Option (ConvergeReason × Device) → Type 0
FindsUnmet top name shares None = (reason : ConvergeReason) (device : Device) → IsMetBy top name shares reason device
FindsUnmet top name shares (Some one) = IsFirstUnmet top name shares one.0 one.1
