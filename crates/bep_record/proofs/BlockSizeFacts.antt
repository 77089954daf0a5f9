-- The block size of a file is one of eight, which are bounded; and where the blocks of a file begin.
use Rattle.std.proofs.Common.{◌≡◌, ℕ, ◌-◌, ◌*◌, ◌/◌, ◌<◌, ◌≤◌, Bool, true, false, cond, List, [], ◌∷◌, refl, sym, subst, arith}
use Rattle.std.specs.Prelude.{nat_lt, ⊤}
use Rattle.std.proofs.Math.Nat.{div-mul-le_self, mul-le-mul_right}
use Rattle.std.proofs.lemmas.Nat.{div-add-mod', mod_below}
use Rattle.bep_record.specs.declared.limits.TheConstants.{BLOCK_SIZES, BLOCKS_AIMED_AT, MAX_BLOCK_SIZE, MAX_FILE_SIZE}
use Rattle.bep_record.specs.Block.{base_block_size, block_count, block_size_of, first_fitting, IsBlockSize}
use Rattle.bep_record.specs.Laws.{BlockSizesAreBounded}
use Rattle.bep_record.specs.Entry.{HasBody, IsWellFormed}
use Rattle.bep_record.specs.declared.entry.Entry.{Entry}
use Rattle.bep_record.specs.declared.kind.Kind.{Kind}
use Rattle.bep_record.specs.declared.kind.Kind.TheVariants.{File, Directory, Symlink}

abbrev IsBounded : ℕ → Type 0
IsBounded size = (base_block_size ≤ size) × (size ≤ MAX_BLOCK_SIZE)

-- all of these sizes are bounded
abbrev AreBounded : List ℕ → Type 0
AreBounded [] = ⊤
AreBounded (size ∷ more) = IsBounded size × AreBounded more

either : (first : Bool) (size other : ℕ) → IsBounded size → IsBounded other → IsBounded (cond first size other)
either true size other is also = is
either false size other is also = also

fitting_is_bounded : (len : ℕ) (sizes : List ℕ) → AreBounded sizes → IsBounded (first_fitting len sizes)
fitting_is_bounded len [] all = (omega arith, omega arith)
fitting_is_bounded len (size ∷ more) all =
    either (nat_lt len (BLOCKS_AIMED_AT * size)) size (first_fitting len more) all.0 (fitting_is_bounded len more all.1)

pub block_sizes_are_bounded : BlockSizesAreBounded
unfolding block_size_of
block_sizes_are_bounded len = fitting_is_bounded len BLOCK_SIZES
    ((omega arith, omega arith), ((omega arith, omega arith), ((omega arith, omega arith), ((omega arith, omega arith), ((omega arith, omega arith), ((omega arith, omega arith), ((omega arith, omega arith), ((omega arith, omega arith), tt))))))))

-- so a file has a block's size
pub some_bytes : (len : ℕ) → 0 < block_size_of len
some_bytes len = let bounds = block_sizes_are_bounded len in let least = bounds.0 in omega arith

pub is_bounded : (size : ℕ) → IsBlockSize size → IsBounded size
is_bounded size is = subst IsBounded (sym is.1) (block_sizes_are_bounded is.0)

-- the least is that of an empty file
pub base_is_of_nothing : base_block_size ≡ block_size_of 0
unfolding block_size_of
base_is_of_nothing = refl

-- no block begins behind the file's end
pub begins_within : (size len place : ℕ) → place < block_count size len → place * size ≤ len
begins_within size len place before =
    let up : place * size ≤ (len - 1) / size * size = mul-le-mul_right size (omega arith) in
    let low = div-mul-le_self (len - 1) size in
    omega (arith, up, low)

-- the blocks have room for all bytes of the file
pub blocks_cover : (size len : ℕ) → 0 < size → len ≤ block_count size len * size
blocks_cover size len some =
    let parts = div-add-mod' (len - 1) size in
    let below = mod_below (len - 1) size some in
    omega (arith, parts, below)

none_is_few : (size : ℕ) → size ≡ 0 → size ≤ MAX_FILE_SIZE
none_is_few size none = omega (arith, none)

few_of_body : (deleted : Bool) (kind : Kind) (entry : Entry) → HasBody deleted kind entry → entry.size ≤ MAX_FILE_SIZE
few_of_body true kind entry body = none_is_few entry.size body.0.size
few_of_body false File entry body = body.0.size
few_of_body false Directory entry body = none_is_few entry.size body.0.size
few_of_body false Symlink entry body = none_is_few entry.size body.0.size

-- no record is of a file above the limit
pub few_bytes : (entry : Entry) → IsWellFormed entry → entry.size ≤ MAX_FILE_SIZE
few_bytes entry formed = few_of_body entry.deleted entry.kind entry formed.body
