-- What an Index or an IndexUpdate makes of a device's view of another one (BEP v1, 'Index' and 'Index Update').
use Rattle.std.specs.Prelude.{◌≡◌, ◌⊎◌, ◌<◌, List, Some, Contains, Result, Ok, Err}
use Rattle.std.specs.FinMap.{get, insert, len}
use Rattle.bep_map.specs.NameMap.{ByName}
use Rattle.bep_record.specs.declared.entry.Entry.{Entry}
use Rattle.bep_index.specs.declared.limits.TheConstants.{MAX_NAMES}
use Rattle.bep_index.specs.Listing.{Listing}
use Rattle.bep_index.specs.View.{IsOld, amended}
use Rattle.bep_model.specs.Tables.{Device, Folder}
use Rattle.bep_machine.specs.declared.refusal.Refusal.TheVariants.{IndexFull}
use Rattle.bep_machine.specs.Replica.{view_of}
use Rattle.bep_folder.specs.Held.{Held}
use Rattle.bep_folder.specs.Views.{unchanged, with_viewed}
use Rattle.bep_peer.specs.declared.taking.effect.Effect.{Effect}
use Rattle.bep_peer.specs.declared.taking.effect.Effect.TheVariants.{Taken, Lost}
use Rattle.bep_peer.specs.declared.error.PeerError.{PeerError}
use Rattle.bep_peer.specs.declared.error.PeerError.TheVariants.{Refused, Memory}

-- the device has the folder, and the other one shares it
abbrev pub IsSharedBy : ByName Held → Folder → Device → Type 0
IsSharedBy folders folder other = (held : Held) × (get folders folder ≡ Some held) × Contains held.tables.others other

-- the view would have too many names
abbrev pub HasTooMany : Listing → Type 0
HasTooMany view = MAX_NAMES < len view.records

-- the folder is as before
abbrev pub IsAsBefore : Folder → Held → ByName Held → ByName Held → Type 0
IsAsBefore folder held old new = new ≡ insert old folder (unchanged held)

-- The link is lost if the first condition holds of the other device's view. Else the view becomes what the second makes of
-- it, unless it would have too many names; only then memory may be wanting.
abbrev pub TakesInView : Folder → Device → Held → (Listing → Type 0) → (Listing → Listing) → ByName Held → ByName Held → Result Effect PeerError → Type 0
TakesInView folder other held losing changed old new result =
    let view = view_of held.tables other in
    ((result ≡ Ok Taken) × (¬ losing view) × (¬ HasTooMany (changed view)) × (new ≡ insert old folder (with_viewed held other (changed view)))) ⊎
    ((result ≡ Ok Lost) × losing view × IsAsBefore folder held old new) ⊎
    ((result ≡ Err (Refused IndexFull)) × (¬ losing view) × HasTooMany (changed view) × IsAsBefore folder held old new) ⊎
    ((result ≡ Err Memory) × (¬ losing view) × (¬ HasTooMany (changed view)) × IsAsBefore folder held old new)

-- the same for the batch of an IndexUpdate, in the folder itself
abbrev pub AmendsView : Device → List Entry → Held → Held → Result Effect PeerError → Type 0
AmendsView other batch old new result =
    let view = view_of old.tables other in
    ((result ≡ Ok Taken) × (¬ IsOld view.sequence batch) × (¬ HasTooMany (amended view batch)) × (new ≡ with_viewed old other (amended view batch))) ⊎
    ((result ≡ Ok Lost) × IsOld view.sequence batch × (new ≡ unchanged old)) ⊎
    ((result ≡ Err (Refused IndexFull)) × (¬ IsOld view.sequence batch) × HasTooMany (amended view batch) × (new ≡ unchanged old)) ⊎
    ((result ≡ Err Memory) × (¬ IsOld view.sequence batch) × (¬ HasTooMany (amended view batch)) × (new ≡ unchanged old))
