-- What follows from the definitions alone; the functions of src/laws.rt have these as contracts.
use Rattle.std.specs.Prelude.{◌≡◌, ◌==◌, ℕ, ◌+◌, ◌<◌, ◌≤◌, List, length, if◌then◌else◌}
use Rattle.bep_record.specs.declared.block.Block.{Block}
use Rattle.bep_record.specs.declared.limits.TheConstants.{MAX_BLOCK_SIZE}
use Rattle.bep_record.specs.Block.{base_block_size, block_size_of, CutWhole}
use Rattle.bep_record.specs.Vector.{counter_of, greatest_counter, IsVersion, IsMerge, IsBump, ids_in_either}

-- w is a well-formed merge of u and v, with a counter for each id that has one in either
pub record IsMergedVersion (u v w : List (ℕ × ℕ)) : Type 0 where
  pub version : IsVersion w
  pub merge : IsMerge u v w
  pub count : length w ≡ ids_in_either u v

-- well-formed vectors have such a merge
abbrev pub MergeExists : Type 0
MergeExists = (u v : List (ℕ × ℕ)) → IsVersion u → IsVersion v → (w : List (ℕ × ℕ)) × IsMergedVersion u v w

-- and no other
abbrev pub MergeIsUnique : Type 0
MergeIsUnique =
    (u v one other : List (ℕ × ℕ)) → IsVersion one → IsVersion other → IsMerge u v one → IsMerge u v other → one ≡ other

-- so each of their well-formed merges has that many counters
abbrev pub MergeIsCounted : Type 0
MergeIsCounted =
    (u v w : List (ℕ × ℕ)) → IsVersion u → IsVersion v → IsVersion w → IsMerge u v w → length w ≡ ids_in_either u v

-- new is a well-formed vector after a change made at this id; it has one counter more where the id had none
pub record IsBumpedVersion (old : List (ℕ × ℕ)) (id : ℕ) (new : List (ℕ × ℕ)) : Type 0 where
  pub version : IsVersion new
  pub bump : IsBump old id new
  pub count : length new ≡ length old + (if counter_of old id == 0 then 1 else 0)

-- there is such a vector wherever the id's counter isn't at its greatest value
abbrev pub BumpExists : Type 0
BumpExists =
    (old : List (ℕ × ℕ)) (id : ℕ) → IsVersion old → 1 ≤ id → counter_of old id < greatest_counter →
    (new : List (ℕ × ℕ)) × IsBumpedVersion old id new

-- and no other
abbrev pub BumpIsUnique : Type 0
BumpIsUnique =
    (old : List (ℕ × ℕ)) (id : ℕ) (one other : List (ℕ × ℕ)) → IsVersion one → IsVersion other → IsBump old id one →
    IsBump old id other → one ≡ other

-- so each well-formed vector after such a change has that many counters
abbrev pub BumpIsCounted : Type 0
BumpIsCounted =
    (old : List (ℕ × ℕ)) (id : ℕ) (new : List (ℕ × ℕ)) → IsVersion old → 1 ≤ id → IsVersion new → IsBump old id new →
    length new ≡ length old + (if counter_of old id == 0 then 1 else 0)

-- a block list cuts files of one length only, each by its own block size
abbrev pub CutIsOfOneLength : Type 0
CutIsOfOneLength =
    (len other : ℕ) (blocks : List Block) → CutWhole (block_size_of len) len blocks →
    CutWhole (block_size_of other) other blocks → len ≡ other

-- the block size of each length is from the least to the greatest of the eight
abbrev pub BlockSizesAreBounded : Type 0
BlockSizesAreBounded = (len : ℕ) → (base_block_size ≤ block_size_of len) × (block_size_of len ≤ MAX_BLOCK_SIZE)
