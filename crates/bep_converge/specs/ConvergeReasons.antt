-- The reasons for which a cut doesn't converge: what each asks, and where (this project's profile).
use Rattle.std.specs.Prelude.{◌≡◌, ◌⊎◌, ◌≤◌, ℕ, ⊤, Option, Some, None}
use Rattle.bep_record.specs.declared.entry.Entry.{Entry}
use Rattle.bep_record.specs.Content.{content_of}
use Rattle.bep_record.specs.Node.{IsClean}
use Rattle.bep_record.specs.Vector.{counter_of, IsAtMost}
use Rattle.bep_model.specs.Tables.{Tables, Device, Folder, FileName, Shares}
use Rattle.bep_model.specs.Foreign.{IsKnown}
use Rattle.bep_model.specs.Settled.{content_of_node}
use Rattle.bep_model.specs.Firm.{AreEqual}
use Rattle.bep_model.specs.Reasons.{Place}
use Rattle.bep_machine.specs.Effects.{content_owned}
use Rattle.bep_machine.specs.Replica.{version_of}
use Rattle.bep_converge.specs.declared.converge_reason.ConvergeReason.{ConvergeReason}
use Rattle.bep_converge.specs.declared.converge_reason.ConvergeReason.TheVariants.{NothingPrevails, Concurrent, ContentDiffers, LocalOnly, StoreUnclean, StoreDiffers, SendOnly, WouldCopy}
use Rattle.bep_converge.specs.Prevails.{IsAnywhere, IsTop, IsNoLocalChange, IsAtTop, TakesChanges}

-- the place of a reason in the order in which they are told, from 1
abbrev pub converge_number_of : ConvergeReason → ℕ
converge_number_of NothingPrevails = 1
converge_number_of Concurrent = 2
converge_number_of ContentDiffers = 3
converge_number_of LocalOnly = 4
converge_number_of StoreUnclean = 5
converge_number_of StoreDiffers = 6
converge_number_of SendOnly = 7
converge_number_of WouldCopy = 8

-- what a reason asks of a name as a whole
abbrev pub AsksWhole : Tables → ConvergeReason → Folder → FileName → Type 0
AsksWhole t NothingPrevails folder name = (top : Entry) × IsTop t folder name top
AsksWhole t Concurrent folder name = (one other : Entry) → IsAnywhere t folder name one → IsAnywhere t folder name other →
    IsAtMost one.version other.version ⊎ IsAtMost other.version one.version
AsksWhole t ContentDiffers folder name = (one other : Entry) → IsAnywhere t folder name one → IsAnywhere t folder name other →
    AreEqual one.version other.version → content_of one ≡ content_of other
AsksWhole t reason folder name = ⊤

-- what it asks of a device that shares the folder
abbrev pub AsksThere : Tables → ConvergeReason → Folder → FileName → Device → Type 0
AsksThere t LocalOnly folder name device = IsNoLocalChange (t.own device folder name)
AsksThere t StoreUnclean folder name device = IsClean (t.node device folder name) (t.own device folder name)
AsksThere t StoreDiffers folder name device = content_of_node (t.node device folder name) ≡ content_owned (t.own device folder name)
AsksThere t SendOnly folder name device = (top : Entry) → IsTop t folder name top → IsAtTop (t.own device folder name) top ⊎ TakesChanges t device folder
AsksThere t WouldCopy folder name device = (entry : Entry) → IsAnywhere t folder name entry →
    counter_of entry.version device ≤ counter_of (version_of (t.own device folder name)) device
AsksThere t reason folder name device = ⊤

-- what it asks at a place: of the name, or of a device there
abbrev pub AsksAtDevice : Tables → ConvergeReason → Folder → FileName → Option Device → Type 0
AsksAtDevice t reason folder name None = AsksWhole t reason folder name
AsksAtDevice t reason folder name (Some device) = Shares t device folder → AsksThere t reason folder name device

-- of a name that isn't known nothing is asked
abbrev pub AsksToConverge : Tables → ConvergeReason → Place → Type 0
AsksToConverge t reason place = IsKnown t place.folder place.name → AsksAtDevice t reason place.folder place.name place.device
