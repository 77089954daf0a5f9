-- What a pull does with a block that came (BEP v1, 'Response'; this project's profile).
use Rattle.std.specs.Prelude.{◌≡◌, ℕ, true, false, List, length, Some, slice_get}
use Rattle.std.specs.FinMap.{get, insert}
use Rattle.bep_map.specs.NameMap.{ByName}
use Rattle.bep_record.specs.declared.block.Block.{Block}
use Rattle.bep_blocks.specs.Plain.{hash_of}
use Rattle.bep_model.specs.Tables.{FileName}
use Rattle.bep_machine.specs.declared.message.Request.{Request}
use Rattle.bep_machine.specs.Exchange.{is_about}
use Rattle.bep_machine.specs.Replica.{Pull, Replica, pull_at, with_pull}
use Rattle.bep_folder.specs.Held.{Held}
use Rattle.bep_folder.specs.Pull.{AreOfBlockAt, with_bytes}
use Rattle.bep_folder.specs.Views.{unchanged}

-- the name has a pull, of which these are the bytes of no block at this place
abbrev pub IsNoBlock : FileName → ℕ → List ℕ → Replica → Type 0
IsNoBlock name place bytes tables = (pull : Pull) × (pull_at tables name ≡ Some pull) × (¬ AreOfBlockAt pull.target.blocks place bytes)

-- the block at this place counts as received, and nothing else changed
pub record Receives (name : FileName) (place : ℕ) (bytes : List ℕ) (old new : Held) : Type 0 where
  pub pull : Pull
  pub pulled : pull_at old.tables name ≡ Some pull
  pub block : AreOfBlockAt pull.target.blocks place bytes
  pub received : new ≡ record (unchanged old) { tables = with_pull old.tables name (with_bytes pull place bytes) }

-- ---- requests

-- the bytes are those that the request asks for: as many, and with its hash
pub record AreAsked (request : Request) (bytes : List ℕ) : Type 0 where
  pub size : length bytes ≡ request.size
  pub hash : hash_of bytes ≡ request.hash

-- the request is about the block at this place
abbrev pub IsAbout : Request → List Block → ℕ → Type 0
IsAbout request blocks place = (block : Block) × (slice_get blocks place ≡ Some block) × (is_about request block ≡ true)

-- the request is about none of the blocks
abbrev pub IsAboutNone : Request → List Block → Type 0
IsAboutNone request blocks = (place : ℕ) (block : Block) → slice_get blocks place ≡ Some block → is_about request block ≡ false

-- the request asks for the block at this place of what is pulled of the name
abbrev pub AsksFor : FileName → ℕ → Replica → Request → Type 0
AsksFor name place tables request =
    (request.name ≡ name) × ((pull : Pull) × (pull_at tables name ≡ Some pull) × IsAbout request pull.target.blocks place)

-- ---- the pulls

-- the name has a pull, of which these are the bytes of the block at this place
abbrev pub IsBlockOf : FileName → ℕ → List ℕ → ByName Pull → Type 0
IsBlockOf name place bytes pulls = (pull : Pull) × (get pulls name ≡ Some pull) × AreOfBlockAt pull.target.blocks place bytes

-- the name's pull received the block
abbrev pub AddsTo : FileName → ℕ → List ℕ → ByName Pull → ByName Pull → Type 0
AddsTo name place bytes old new = (pull : Pull) × (get old name ≡ Some pull) × (new ≡ insert old name (with_bytes pull place bytes))
