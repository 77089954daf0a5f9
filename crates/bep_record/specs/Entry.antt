-- When the fields of a record are well formed (BEP v1, 'FileInfo'; the limits are this project's profile).
use Rattle.std.specs.Prelude.{◌≡◌, ◌≢◌, ◌≤◌, Bool, true, false, IsTrue, [], ◌∷◌, map}
use Rattle.bep_record.specs.Block.{block_size_of, CutWhole}
use Rattle.bep_record.specs.declared.kind.Kind.{Kind}
use Rattle.bep_record.specs.declared.kind.Kind.TheVariants.{File, Directory, Symlink}
use Rattle.bep_record.specs.declared.entry.Entry.{Entry}
use Rattle.bep_record.specs.declared.limits.TheConstants.{HASH_OF_NOTHING, MAX_FILE_SIZE, MAX_NANOSECONDS}

-- nothing is said of bytes
pub record HasNoBlocks (entry : Entry) : Type 0 where
  pub size : entry.size ≡ 0
  pub block_size : entry.block_size ≡ 0
  pub blocks : entry.blocks ≡ []

-- the blocks are those of a file of this size, and have the block size of that length; an empty file has one empty block
pub record HasBlocks (entry : Entry) : Type 0 where
  pub size : entry.size ≤ MAX_FILE_SIZE
  pub block_size : entry.block_size ≡ block_size_of entry.size
  pub blocks : CutWhole (block_size_of entry.size) entry.size entry.blocks
  pub empty : entry.size ≡ 0 → map (λ b. b.hash) entry.blocks ≡ HASH_OF_NOTHING ∷ []

-- what a record has beside its name, times and version: by whether it is deleted, and by its kind
abbrev pub HasBody : Bool → Kind → Entry → Type 0
HasBody true kind entry = HasNoBlocks entry × (entry.target ≡ [])
HasBody false File entry = HasBlocks entry × (entry.target ≡ [])
HasBody false Directory entry = HasNoBlocks entry × (entry.target ≡ [])
HasBody false Symlink entry = HasNoBlocks entry × (entry.target ≢ [])

-- A record is well formed. What its fields' types keep isn't said again: a good name, a device other than 0, a version
-- whose ids rise, hashes of 32 bytes, and numbers within their widths.
pub record IsWellFormed (entry : Entry) : Type 0 where
  pub nanoseconds : entry.modified_ns ≤ MAX_NANOSECONDS
  pub no_permissions : IsTrue entry.no_permissions
  pub body : HasBody entry.deleted entry.kind entry

-- equal in all fields but the sequence
abbrev pub SameEntry : Entry → Entry → Type 0
SameEntry a b = record a { sequence = b.sequence } ≡ b

-- ---- its parts beside the name

-- the same kind, and the same marks
pub record SameMarks (a b : Entry) : Type 0 where
  pub kind : a.kind ≡ b.kind
  pub deleted : a.deleted ≡ b.deleted
  pub invalid : a.invalid ≡ b.invalid
  pub no_permissions : a.no_permissions ≡ b.no_permissions

-- changed at the same time and by the same device, with the same history
pub record SameChange (a b : Entry) : Type 0 where
  pub modified_s : a.modified_s ≡ b.modified_s
  pub modified_ns : a.modified_ns ≡ b.modified_ns
  pub modified_by : a.modified_by ≡ b.modified_by
  pub version : a.version ≡ b.version

-- made of the same: size, blocks and target
pub record SameBody (a b : Entry) : Type 0 where
  pub size : a.size ≡ b.size
  pub block_size : a.block_size ≡ b.block_size
  pub blocks : a.blocks ≡ b.blocks
  pub target : a.target ≡ b.target
