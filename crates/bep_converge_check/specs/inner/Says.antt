-- What each reason, each device and each name of a cut says of what keeps the cut from converging (this project's profile).
use Rattle.std.specs.Prelude.{◌≡◌, ◌≢◌, ◌⊎◌, ◌≤◌, ⊤, List, Option, Some, None}
use Rattle.std.specs.FinMap.{get}
use Rattle.bep_record.specs.declared.entry.Entry.{Entry}
use Rattle.bep_record.specs.declared.node.NodeParts.{NodeParts}
use Rattle.bep_record.specs.declared.folder_kind.FolderKind.{FolderKind}
use Rattle.bep_record.specs.declared.folder_kind.FolderKind.TheVariants as kinds
use Rattle.bep_record.specs.Node.{IsClean}
use Rattle.bep_record.specs.Vector.{counter_of, IsAtMost}
use Rattle.bep_model.specs.Tables.{Tables, Device, Folder, FileName}
use Rattle.bep_model.specs.Settled.{content_of_node}
use Rattle.bep_machine.specs.Effects.{content_owned}
use Rattle.bep_machine.specs.Replica.{version_of}
use Rattle.bep_tables.specs.declared.share.Share.{Share}
use Rattle.bep_tables.specs.Listed.{Listed}
use Rattle.bep_audit.specs.inner.Walk.{key_in}
use Rattle.bep_converge.specs.declared.converge_reason.ConvergeReason.{ConvergeReason}
use Rattle.bep_converge.specs.declared.converge_reason.ConvergeReason.TheVariants.{LocalOnly, StoreUnclean, StoreDiffers, SendOnly, WouldCopy}
use Rattle.bep_converge.specs.Prevails.{IsNoLocalChange, IsAtTop}
use Rattle.bep_converge.specs.ConvergeReasons.{AsksWhole, AsksThere}
use Rattle.bep_gather.specs.Adding.{Each}
use Rattle.bep_converge_check.specs.declared.unmet.TheConstants.{OF_DEVICES}
use Rattle.bep_converge_check.specs.Hindrance.{Hinder}
use Rattle.bep_converge_check.specs.Hindrances.{IsMetThere}
use Rattle.bep_converge_check.specs.inner.Records.{valid_held, own_held, IsIn, IsTopIn}

-- the reason at this name, on this device
abbrev pub hinder_at : ConvergeReason → Folder × FileName → Option Device → Hinder
hinder_at reason key device = record { reason = reason; place = record { folder = key.0; name = key.1; device = device } }

-- the reason asks of the name as a whole what holds
abbrev pub SaysWhole : Tables → Folder × FileName → ConvergeReason → Hinder → Type 0
SaysWhole t key reason one = one ≡ hinder_at reason key None → AsksWhole t reason key.0 key.1

-- a device meets what the reason asks of it
abbrev pub SaysReason : Tables → Folder × FileName → Share → ConvergeReason → Hinder → Type 0
SaysReason t key share reason one = one ≡ hinder_at reason key (Some share.device) → AsksThere t reason key.0 key.1 share.device

-- what all reasons ask of it
abbrev pub SaysShare : Tables → Folder × FileName → Share → Hinder → Type 0
SaysShare t key share = Each (SaysReason t key share) OF_DEVICES

-- what all reasons ask at the name
abbrev pub SaysName : Tables → Folder × FileName → Hinder → Type 0
SaysName t key one = key_in one.place ≡ key → IsMetThere t one

-- ---- of a device, by the name's entries

-- an own record of the entry that is above this one has a version that the device's own record is at
abbrev pub IsAtIfAbove : Option Entry → Entry → Listed → Type 0
IsAtIfAbove own top one = (entry : Entry) → own_held one.holding ≡ Some entry → IsAtMost top.version entry.version → IsAtTop own entry

-- a valid record of the entry counts no more of the device's own changes than the device's own record does
abbrev pub IsCountedIfValid : Option Entry → Device → Listed → Type 0
IsCountedIfValid own device one = (entry : Entry) → valid_held one.holding ≡ Some entry → counter_of entry.version device ≤ counter_of (version_of own) device

-- what a reason asks of a device with this own record and this node, which shares the folder in this kind, by the entries of
-- the name; the reasons on a name as a whole ask nothing of these
abbrev pub AsksAmong : List Listed → ConvergeReason → Device → FolderKind → Option Entry → Option NodeParts → Type 0
AsksAmong group LocalOnly device kind own stored = IsNoLocalChange own
AsksAmong group StoreUnclean device kind own stored = IsClean stored own
AsksAmong group StoreDiffers device kind own stored = content_of_node stored ≡ content_owned own
AsksAmong group SendOnly device kind own stored = (top : Entry) → IsTopIn group top → IsAtTop own top ⊎ (kind ≢ kinds.SendOnly)
AsksAmong group WouldCopy device kind own stored = (entry : Entry) → IsIn group entry → counter_of entry.version device ≤ counter_of (version_of own) device
AsksAmong group reason device kind own stored = ⊤

-- what it asks of the device of a share
abbrev pub AsksShareAmong : List Listed → ConvergeReason → FileName → Share → Type 0
AsksShareAmong group reason name share = AsksAmong group reason share.device share.kind (get share.own name) (get share.store name)
