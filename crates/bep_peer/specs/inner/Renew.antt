-- What a ClusterConfig makes of the views of the device that sent it (BEP v1, 'Fields (ClusterConfig)', field 'index_id').
use Rattle.std.specs.Prelude.{◌≡◌, ⊤, ℕ, List, [], ◌∷◌, Option, Some, None, option_map, Result, Ok, Err}
use Rattle.std.specs.FinMap.{get, insert}
use Rattle.bep_map.specs.NameMap.{ByName}
use Rattle.bep_index.specs.Listing.{Listing}
use Rattle.bep_model.specs.Tables.{Device, Folder}
use Rattle.bep_machine.specs.declared.message.Announced.{Announced}
use Rattle.bep_folder.specs.Held.{Held}
use Rattle.bep_folder.specs.Views.{unchanged, with_exchanged}
use Rattle.bep_peer.specs.declared.error.PeerError.{PeerError}
use Rattle.bep_peer.specs.declared.error.PeerError.TheVariants.{Memory}
use Rattle.bep_peer.specs.inner.Index.{IsSharedBy}

-- each folder that is named is shared with the other device
abbrev pub AreSharedBy : ByName Held → Device → List Announced → Type 0
AreSharedBy folders other [] = ⊤
AreSharedBy folders other (one ∷ more) = IsSharedBy folders one.folder other × AreSharedBy folders other more

-- what no change of a view touches: the device, the folder, who shares it, and how often its store failed
abbrev pub frame_of : Held → Device × (Folder × (List Device × ℕ))
frame_of held = (held.device, (held.folder, (held.tables.others, held.faults)))

abbrev pub AreFramed : ByName Held → ByName Held → Type 0
AreFramed old new = (folder : Folder) → option_map frame_of (get new folder) ≡ option_map frame_of (get old folder)

-- the view stands under the announced id
abbrev pub IsUnder : ℕ → Option Listing → Type 0
IsUnder id None = ⊥
IsUnder id (Some view) = view.id ≡ id

-- The folder's view of the other device becomes this one, and the one before is answered. Memory is wanting only where
-- there was none.
abbrev pub ExchangesIn : Folder → Device → Held → Option Listing → ByName Held → ByName Held → Result (Option Listing) PeerError → Type 0
ExchangesIn folder other held view old new (Ok before) =
    (before ≡ get held.tables.views other) × (new ≡ insert old folder (with_exchanged held other view))
ExchangesIn folder other held view old new (Err error) =
    (error ≡ Memory) × (get held.tables.views other ≡ None) × (new ≡ insert old folder (unchanged held))
