-- What the entries of one name say (this project's profile).
use Rattle.std.specs.Prelude.{◌≡◌, ◌↔◌, ⊤, List, Option, Contains}
use Rattle.std.specs.FinMap.{get}
use Rattle.bep_record.specs.declared.entry.Entry.{Entry}
use Rattle.bep_record.specs.declared.node.NodeParts.{NodeParts}
use Rattle.bep_record.specs.Content.{content_of}
use Rattle.bep_model.specs.declared.row.Row.{Row}
use Rattle.bep_model.specs.declared.reason.Reason.{Reason}
use Rattle.bep_model.specs.declared.reason.Reason.TheVariants.{ViewAhead, FlightAhead, PullAhead}
use Rattle.bep_model.specs.Foreign.{IsHarmless, IsKnown}
use Rattle.bep_model.specs.Settled.{key_of}
use Rattle.bep_model.specs.Reasons.{AsksShare}
use Rattle.bep_model.specs.Tables.{Device, Folder, FileName}
use Rattle.bep_tables.specs.declared.share.Share.{Share}
use Rattle.bep_tables.specs.declared.cut.CutParts.{CutParts}
use Rattle.bep_tables.specs.declared.table.entry.Source.{Source}
use Rattle.bep_tables.specs.declared.table.entry.Source.TheVariants.{View, Flight, Pull}
use Rattle.bep_tables.specs.Cut.{IsCut, shares_of, tables_of}
use Rattle.bep_tables.specs.Listed.{Record, Listed, key_at, cut_listed}
use Rattle.bep_audit.specs.Share.{AsksHere}

-- these are the cut's entries of the folder and name
abbrev pub IsGroupOf : CutParts → Folder × FileName → List Listed → Type 0
IsGroupOf cut key group = (one : Listed) → Contains group one ↔ (Contains (cut_listed cut) one × (key_at one ≡ key))

-- there is an entry, which makes the name known
abbrev pub HasEntry : List Listed → Type 0
HasEntry group = (one : Listed) × Contains group one

-- the entry's record is harmless to the row's content beside this own record, if it is this device's and from there
abbrev pub PassesFrom : Source → Device → Row → Option Entry → Listed → Type 0
PassesFrom source device row own one =
    (entry : Entry) → one.device ≡ device → one.holding ≡ Record source entry → IsHarmless own (content_of row.entry) entry

-- that of each of these entries
abbrev pub GroupPasses : Source → Device → Row → Option Entry → List Listed → Type 0
GroupPasses source device row own group = (one : Listed) → Contains group one → PassesFrom source device row own one

-- what a reason asks of a device's foreign records, of which these are the entries of the row's name
abbrev pub AsksElsewhere : Reason → Row → List Listed → Device → Option Entry → Type 0
AsksElsewhere ViewAhead row group device own = GroupPasses View device row own group
AsksElsewhere FlightAhead row group device own = GroupPasses Flight device row own group
AsksElsewhere PullAhead row group device own = GroupPasses Pull device row own group
AsksElsewhere reason row group device own = ⊤

-- what a reason asks of a device with this own record and this node beside a row, of which these are the entries of the
-- row's name
abbrev pub AsksBeside : Reason → Row → List Listed → Device → Option Entry → Option NodeParts → Type 0
AsksBeside reason row group device own stored = AsksHere reason own stored row.entry × AsksElsewhere reason row group device own

-- what it asks of the device of this share
abbrev pub AsksGroup : Reason → Row → List Listed → Share → Type 0
AsksGroup reason row group share =
    AsksBeside reason row group share.device (get share.own row.entry.name) (get share.store row.entry.name)

-- what it asks of one of these devices
abbrev pub AsksAmongGroup : Reason → Row → List Listed → List Share → Device → Type 0
AsksAmongGroup reason row group shares device = (share : Share) → Contains shares share → share.device ≡ device → AsksGroup reason row group share

-- a name is known exactly where it has an entry
abbrev pub GroupIsKnown : Type 0
GroupIsKnown =
    (cut : CutParts) (key : Folder × FileName) (group : List Listed) → IsCut cut → IsGroupOf cut key group →
    HasEntry group ↔ IsKnown (tables_of cut) key.0 key.1

-- what a reason asks of a share beside a row and the entries of its name is what it asks of the share's device
abbrev pub GroupIsAsked : Type 0
GroupIsAsked =
    (cut : CutParts) (row : Row) (group : List Listed) (reason : Reason) (share : Share) →
    IsCut cut → IsGroupOf cut (key_of row) group → Contains (shares_of row.folder cut.folders) share →
    AsksGroup reason row group share ↔ AsksShare (tables_of cut) reason row share.device
