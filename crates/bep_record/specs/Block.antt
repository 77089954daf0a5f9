-- How a file's bytes are cut into blocks (BEP v1, 'BlockInfo', and 'FileInfo', field 'block_size').
use Rattle.std.specs.Prelude.{◌≡◌, ℕ, ◌+◌, ◌-◌, ◌*◌, ◌/◌, nat_lt, min, if◌then◌else◌, List, [], ◌∷◌, map}
use Rattle.std.specs.List.{range_with_len}
use Rattle.bep_record.specs.declared.block.Block.{Block}
use Rattle.bep_record.specs.declared.limits.TheConstants.{BASE_BLOCK_SIZE, BLOCK_SIZES, BLOCKS_AIMED_AT, MAX_BLOCK_SIZE}

-- ---- the size of blocks

-- the least block size, that of small files
abbrev pub base_block_size : ℕ
base_block_size = BASE_BLOCK_SIZE

-- the first of these sizes of which a file of this length has fewer bytes than 2000 blocks have, else the greatest size
abbrev pub first_fitting : ℕ → List ℕ → ℕ
first_fitting len [] = MAX_BLOCK_SIZE
first_fitting len (size ∷ more) = if nat_lt len (BLOCKS_AIMED_AT * size) then size else first_fitting len more

-- the bytes in each block but the last of a file of this length (BEP v1, 'FileInfo', field 'block_size')
unfoldable pub block_size_of : ℕ → ℕ
block_size_of len = first_fitting len BLOCK_SIZES

-- files of some length have blocks of this size
abbrev pub IsBlockSize : ℕ → Type 0
IsBlockSize size = (len : ℕ) × (size ≡ block_size_of len)

-- ---- the cuts

-- how many blocks a file of this length has; an empty file has one
abbrev pub block_count : ℕ → ℕ → ℕ
block_count block_size len = (len - 1) / block_size + 1

-- offset and size of the block at place k: a whole block, or what is left at the file's end
abbrev pub cut_at : ℕ → ℕ → ℕ → ℕ × ℕ
cut_at block_size len k = (k * block_size, min block_size (len - k * block_size))

-- offset and size of each block of a file of this length, from its front
abbrev pub cuts_of : ℕ → ℕ → List (ℕ × ℕ)
cuts_of block_size len = map (λ k. cut_at block_size len k) (range_with_len 0 (block_count block_size len))

-- the blocks cut a file of this length whole, in order
abbrev pub CutWhole : ℕ → ℕ → List Block → Type 0
CutWhole block_size len blocks = map (λ b. (b.offset, b.size)) blocks ≡ cuts_of block_size len
