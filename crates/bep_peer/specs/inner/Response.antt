-- What a response does to a device (BEP v1, 'Response'; this project's profile).
use Rattle.std.specs.Prelude.{◌≡◌, ◌⊎◌, ℕ, List, Option, Some, None}
use Rattle.std.specs.FinMap.{get, insert}
use Rattle.bep_map.specs.NameMap.{ByName}
use Rattle.bep_model.specs.Tables.{Folder}
use Rattle.bep_machine.specs.declared.message.Request.{Request}
use Rattle.bep_machine.specs.declared.message.Response.{Response}
use Rattle.bep_machine.specs.Exchange.{HasBytes, with_block, without}
use Rattle.bep_machine.specs.Peer.{Session}
use Rattle.bep_machine.specs.Replica.{pull_at}
use Rattle.bep_folder.specs.Held.{Held}
use Rattle.bep_folder.specs.Views.{unchanged}

-- the request of this number isn't outstanding any more
abbrev pub answered_by : ℕ → Session → Session
answered_by id session = record session { outstanding = without id session.outstanding }

-- a folder that received the bytes
abbrev pub received_by : Request → List ℕ → Held → Held
received_by request bytes held =
    record (unchanged held) { tables = with_block request bytes (pull_at held.tables request.name) held.tables }

-- the folders once this one changed, where the device has it
abbrev pub changed_at : Folder → (Held → Held) → Option Held → ByName Held → ByName Held
changed_at folder change None folders = folders
changed_at folder change (Some held) folders = insert folders folder (change held)

-- right bytes count as received, and others don't
abbrev pub Brings : Request → Response → ByName Held → ByName Held → Type 0
Brings request response old new =
    (HasBytes response request × (new ≡ changed_at request.folder (received_by request response.bytes) (get old request.folder) old)) ⊎
    ((¬ HasBytes response request) × (new ≡ old))
