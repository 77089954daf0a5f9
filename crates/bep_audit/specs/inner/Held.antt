-- What a reason asks of what a device has of a folder (this project's profile).
use Rattle.std.specs.Prelude.{◌≡◌, List, Contains}
use Rattle.std.specs.FinMap.{get}
use Rattle.bep_model.specs.declared.row.Row.{Row}
use Rattle.bep_model.specs.declared.reason.Reason.{Reason}
use Rattle.bep_model.specs.Tables.{Device}
use Rattle.bep_tables.specs.declared.share.Share.{Share}
use Rattle.bep_tables.specs.declared.link.LinkState.{LinkState}
use Rattle.bep_audit.specs.Share.{AsksHere}
use Rattle.bep_audit.specs.inner.Foreign.{AsksForeign}

-- what a reason asks of a device beside a row: of its own record and its node of the row's name, and of its foreign
-- records, where these are what is on its way over the links
abbrev pub AsksOf : Reason → Row → List LinkState → Share → Type 0
AsksOf reason row links share =
    AsksHere reason (get share.own row.entry.name) (get share.store row.entry.name) row.entry × AsksForeign reason row links share

-- what it asks of one of these devices
abbrev pub AsksAmong : Reason → Row → List LinkState → List Share → Device → Type 0
AsksAmong reason row links shares device =
    (share : Share) → Contains shares share → share.device ≡ device → AsksOf reason row links share
