-- A pull at its device: what counts as a block's bytes, and where they are kept (this project's profile).
use Rattle.std.specs.Prelude.{◌≡◌, ◌⊎◌, ◌≤◌, ℕ, zero, suc, Bool, true, false, List, [], ◌∷◌, length, take, drop, Option, Some, None, Contains, slice_get, refl}
use Rattle.std.specs.Coded.{Coded, code_by, coded×, coded_ℕ, coded_list, coded_option}
use Rattle.bep_record.specs.declared.block.Block.{Block}
use Rattle.bep_record.specs.declared.entry.Entry.{Entry}
use Rattle.bep_record.specs.declared.node.NodeParts.{NodeParts}
use Rattle.bep_record.specs.Entry.{IsWellFormed}
use Rattle.bep_blocks.specs.Plain.{hash_of}
use Rattle.bep_index.specs.declared.limits.TheConstants.{MAX_SEQUENCE}
use Rattle.bep_machine.specs.Replica.{Pull}
use Rattle.bep_machine.specs.Sound.{AreReceived}
use Rattle.bep_folder.specs.PullNode.{node_of, bytes_in}

-- a pull is stored as its parts, by the code of an entry
abbrev pub pull_code : Coded Entry → Coded Pull
pull_code entry =
    code_by (Entry × List (Option (List ℕ))) (coded× entry (coded_list (coded_option (coded_list coded_ℕ)))) (λ p. (p.target, p.received)) (λ p. record { target = p.0; received = p.1 }) (λ _. refl)

-- nobody pulls an invalid record, what is pulled was a record of an index, and each block that was received has its
-- block's size
pub record IsPull (pull : Pull) : Type 0 where
  pub formed : IsWellFormed pull.target
  pub valid : pull.target.invalid ≡ false
  pub within : pull.target.sequence ≤ MAX_SEQUENCE
  pub received : AreReceived pull.target.blocks pull.received

-- ---- receiving blocks

-- the bytes are the block's: as many, and with its hash
pub record AreOf (block : Block) (bytes : List ℕ) : Type 0 where
  pub size : length bytes ≡ block.size
  pub hash : hash_of bytes ≡ block.hash

-- there is a block at the place, and these are its bytes
abbrev pub AreOfBlockAt : List Block → ℕ → List ℕ → Type 0
AreOfBlockAt blocks place bytes = (block : Block) × (slice_get blocks place ≡ Some block) × AreOf block bytes

-- the block at the place was received
abbrev pub IsReceivedAt : List (Option (List ℕ)) → ℕ → Type 0
IsReceivedAt received place = (bytes : List ℕ) × (slice_get received place ≡ Some (Some bytes))

-- the block at the place is received with these bytes; one that was received before stays as it is
abbrev pub received_with : List (Option (List ℕ)) → ℕ → List ℕ → List (Option (List ℕ))
received_with [] place bytes = []
received_with (None ∷ more) zero bytes = Some bytes ∷ more
received_with (Some had ∷ more) zero bytes = Some had ∷ more
received_with (one ∷ more) (suc place) bytes = one ∷ received_with more place bytes

-- the pull with that block
abbrev pub with_bytes : Pull → ℕ → List ℕ → Pull
with_bytes pull place bytes = record pull { received = received_with pull.received place bytes }

-- ---- how they are kept

-- what was received, by a flag for each block and the file's bytes, of which those of received blocks are right
abbrev pub received_of : ℕ → List Bool → List ℕ → List (Option (List ℕ))
received_of block_size [] bytes = []
received_of block_size (true ∷ more) bytes = Some (take block_size bytes) ∷ received_of block_size more (drop block_size bytes)
received_of block_size (false ∷ more) bytes = None ∷ received_of block_size more (drop block_size bytes)

-- The parts of a pull: its target, the target's node as far as it was received, and a flag for each block. The node has
-- its bytes from the first received block on.
pub record IsKept (target : Entry) (node : Option NodeParts) (arrived : List Bool) : Type 0 where
  pub formed : IsWellFormed target
  pub valid : target.invalid ≡ false
  pub within : target.sequence ≤ MAX_SEQUENCE
  pub flags : length arrived ≡ length target.blocks
  pub made : node ≡ node_of target (bytes_in node)
  pub filled : (length (bytes_in node) ≡ target.size) ⊎ ((bytes_in node ≡ []) × ¬ Contains arrived true)
