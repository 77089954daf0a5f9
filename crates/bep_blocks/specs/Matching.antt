-- Which block lists are a file's, whatever the sizes of the blocks (BEP v1, 'BlockInfo').
use Rattle.std.specs.Prelude.{◌≡◌, ℕ, ◌+◌, ◌<◌, List, [], ◌∷◌, take, drop}
use Rattle.bep_blocks.specs.Plain.{block_of}
use Rattle.bep_record.specs.declared.block.Block.{Block}

-- the block isn't empty, and is that of the bytes that come first in this rest of a file
abbrev pub BeginsRest : ℕ → List ℕ → Block → Type 0
BeginsRest offset rest block = (0 < block.size) × (block ≡ block_of offset (take block.size rest))

-- the blocks cut the rest of a file, from this offset on: each begins where the one before it ended, and the last
-- ends where the file ends
abbrev pub MatchesRest : ℕ → List ℕ → List Block → Type 0
MatchesRest offset rest [] = rest ≡ []
MatchesRest offset rest (block ∷ more) =
    BeginsRest offset rest block × MatchesRest (offset + block.size) (drop block.size rest) more

-- the blocks cut these bytes whole and in order, and each has the hash of its bytes; a file without bytes has
-- one block, and it alone is empty
abbrev pub Matches : List ℕ → List Block → Type 0
Matches [] blocks = blocks ≡ block_of 0 [] ∷ []
Matches (byte ∷ bytes) blocks = MatchesRest 0 (byte ∷ bytes) blocks
