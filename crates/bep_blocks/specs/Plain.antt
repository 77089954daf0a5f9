-- The plain block list of a file's bytes (BEP v1, 'BlockInfo').
use Rattle.std.specs.Prelude.{ℕ, ◌*◌, List, length, take, drop, map}
use Rattle.std.specs.List.{range_with_len}
use Rattle.sha2.specs.Sha256.{sha256}
use Rattle.bep_record.specs.Block.{block_count, block_size_of}
use Rattle.bep_record.specs.declared.block.Block.{Block}

-- the SHA-256 of these bytes (FIPS 180-4)
unfoldable pub hash_of : List ℕ → List ℕ
hash_of bytes = sha256 bytes

-- the block of these bytes, the first of which is at this place in the file
abbrev pub block_of : ℕ → List ℕ → Block
block_of offset piece = record { offset = offset; size = length piece; hash = hash_of piece }

-- piece k of the bytes, cut into pieces of one size from the front; the last may be shorter
abbrev pub piece_at : ℕ → List ℕ → ℕ → List ℕ
piece_at block_size bytes k = take block_size (drop (k * block_size) bytes)

-- the block of piece k
abbrev pub plain_block : ℕ → List ℕ → ℕ → Block
plain_block block_size bytes k = block_of (k * block_size) (piece_at block_size bytes k)

-- the block of each piece, in order; no bytes are one piece
unfoldable pub plain_blocks : ℕ → List ℕ → List Block
plain_blocks block_size bytes =
    map (λ k. plain_block block_size bytes k) (range_with_len 0 (block_count block_size (length bytes)))

-- the block list of a file with these bytes: its plain list by the block size of its length
abbrev pub file_blocks : List ℕ → List Block
file_blocks bytes = plain_blocks (block_size_of (length bytes)) bytes

-- the plain blocks of n pieces, the first of which is piece k
abbrev pub blocks_from : ℕ → List ℕ → ℕ → ℕ → List Block
blocks_from block_size bytes k n = map (λ j. plain_block block_size bytes j) (range_with_len k n)
