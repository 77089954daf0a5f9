-- What each reason asks of a device beside the top of a name, by the device's own record and its node (this project's profile).
use Rattle.std.specs.Prelude.{◌≡◌, ◌≢◌, ◌⊎◌, ◌≤◌, ⊤, Option}
use Rattle.std.specs.FinMap.{get}
use Rattle.bep_record.specs.declared.entry.Entry.{Entry}
use Rattle.bep_record.specs.declared.node.NodeParts.{NodeParts}
use Rattle.bep_record.specs.declared.folder_kind.FolderKind.{FolderKind}
use Rattle.bep_record.specs.declared.folder_kind.FolderKind.TheVariants as kinds
use Rattle.bep_record.specs.Node.{IsClean}
use Rattle.bep_record.specs.Vector.{counter_of}
use Rattle.bep_model.specs.Tables.{Device, FileName}
use Rattle.bep_model.specs.Settled.{content_of_node}
use Rattle.bep_machine.specs.Effects.{content_owned}
use Rattle.bep_machine.specs.Replica.{version_of}
use Rattle.bep_tables.specs.declared.share.Share.{Share}
use Rattle.bep_converge.specs.declared.converge_reason.ConvergeReason.{ConvergeReason}
use Rattle.bep_converge.specs.declared.converge_reason.ConvergeReason.TheVariants.{LocalOnly, StoreUnclean, StoreDiffers, SendOnly, WouldCopy}
use Rattle.bep_converge.specs.Prevails.{IsNoLocalChange, IsAtTop}

-- what it asks of a device with this own record and this node, which shares the folder in this kind; the reasons on a name as a
-- whole ask nothing of these
abbrev pub AsksOwn : ConvergeReason → Entry → Device → FolderKind → Option Entry → Option NodeParts → Type 0
AsksOwn LocalOnly top device kind own stored = IsNoLocalChange own
AsksOwn StoreUnclean top device kind own stored = IsClean stored own
AsksOwn StoreDiffers top device kind own stored = content_of_node stored ≡ content_owned own
AsksOwn SendOnly top device kind own stored = IsAtTop own top ⊎ (kind ≢ kinds.SendOnly)
AsksOwn WouldCopy top device kind own stored = counter_of top.version device ≤ counter_of (version_of own) device
AsksOwn reason top device kind own stored = ⊤

-- what it asks of the device of a share
abbrev pub AsksOfShare : ConvergeReason → Entry → FileName → Share → Type 0
AsksOfShare reason top name share = AsksOwn reason top share.device share.kind (get share.own name) (get share.store name)

-- what all of them ask of it
unfoldable pub AsksAllOfShare : Entry → FileName → Share → Type 0
AsksAllOfShare top name share =
    IsNoLocalChange (get share.own name)
    × IsClean (get share.store name) (get share.own name)
    × (content_of_node (get share.store name) ≡ content_owned (get share.own name))
    × (IsAtTop (get share.own name) top ⊎ (share.kind ≢ kinds.SendOnly))
    × (counter_of top.version share.device ≤ counter_of (version_of (get share.own name)) share.device)
