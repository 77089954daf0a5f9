-- What was received of pulls: each block has its hash, since a device tests it before it takes the block (BEP v1, 'Response').
use Rattle.std.specs.Prelude.{◌≡◌, ℕ, ⊤, List, [], ◌∷◌, Option, Some, None}
use Rattle.std.specs.FinMap.{get}
use Rattle.bep_record.specs.declared.block.Block.{Block}
use Rattle.bep_blocks.specs.Plain.{hash_of}
use Rattle.bep_model.specs.Tables.{Device, Folder, FileName}
use Rattle.bep_machine.specs.Replica.{Pull, Replica}
use Rattle.bep_machine.specs.Cluster.{Cluster}

-- the bytes that were received of each block have its hash
abbrev pub HaveHashes : List Block → List (Option (List ℕ)) → Type 0
HaveHashes [] [] = ⊤
HaveHashes (block ∷ blocks) (None ∷ received) = HaveHashes blocks received
HaveHashes (block ∷ blocks) (Some bytes ∷ received) = (hash_of bytes ≡ block.hash) × HaveHashes blocks received
HaveHashes _ _ = ⊥

-- so it is of each pull of a replica
abbrev pub PullsHaveHashes : Replica → Type 0
PullsHaveHashes replica = (name : FileName) (pull : Pull) → get replica.pulls name ≡ Some pull → HaveHashes pull.target.blocks pull.received

-- and of each replica of a cluster
abbrev pub AllHaveHashes : Cluster → Type 0
AllHaveHashes cluster = (device : Device) (folder : Folder) (replica : Replica) →
    get (cluster.peer device).replicas folder ≡ Some replica → PullsHaveHashes replica
