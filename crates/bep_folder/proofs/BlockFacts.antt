-- What bytes a block has, by the blocks of a whole file and by itself.
use Rattle.std.proofs.Common.{◌≡◌, ℕ, zero, suc, ◌+◌, ◌-◌, ◌*◌, ◌<◌, min, List, [], ◌∷◌, length, map, Some, slice_get, ap, sym, ◌∙◌, arith}
use Rattle.std.specs.List.{range_with_len}
use Rattle.std.proofs.lemmas.List.{take_all, drop_all, length-drop}
use Rattle.bep_record.specs.declared.block.Block.{Block}
use Rattle.bep_record.specs.Block.{cut_at, block_count, CutWhole}
use Rattle.bep_blocks.specs.Plain.{block_of}
use Rattle.bep_blocks.specs.Matching.{Matches}
use Rattle.bep_folder.specs.Pull.{AreOf}

-- ---- one block

-- the block with these bytes at the front of a file
abbrev pub at_front : Block → Block
at_front block = record block { offset = 0 }

pub block_matches : (block : Block) (bytes : List ℕ) → AreOf block bytes → Matches bytes (at_front block ∷ [])
block_matches block [] are =
    let size = are.size in
    let hash = are.hash in
    cc
block_matches block (byte ∷ bytes) are =
    let size = are.size in
    let hash = are.hash in
    let whole = take_all block.size (byte ∷ bytes) (omega arith) in
    let none = drop_all block.size (byte ∷ bytes) (omega arith) in
    let same : at_front block ≡ block_of 0 (byte ∷ bytes) = cc in
    ((omega arith, same ∙ ap (λ piece. block_of 0 piece) (sym whole)), none)

pub block_of_match : (block : Block) (bytes : List ℕ) → Matches bytes (at_front block ∷ []) → AreOf block bytes
block_of_match block [] same =
    let here : at_front block ≡ block_of 0 [] = cc in
    record { size = ap (λ (b : Block). b.size) (sym here); hash = ap (λ (b : Block). b.hash) (sym here) }
block_of_match block (byte ∷ bytes) matching =
    let left = length-drop block.size (byte ∷ bytes) in
    let none = ap length matching.1 in
    let whole = take_all block.size (byte ∷ bytes) (omega (arith, left, none)) in
    let here : at_front block ≡ block_of 0 (byte ∷ bytes) = matching.0.1 ∙ ap (λ piece. block_of 0 piece) whole in
    record { size = ap (λ (b : Block). b.size) (sym here); hash = ap (λ (b : Block). b.hash) (sym here) }

-- ---- blocks that cut a file

abbrev pub cut_of : Block → ℕ × ℕ
cut_of block = (block.offset, block.size)

cut_from : (size len first count place : ℕ) (blocks : List Block) (block : Block) →
    map cut_of blocks ≡ map (λ k. cut_at size len k) (range_with_len first count) → slice_get blocks place ≡ Some block →
    (place < count) × (cut_of block ≡ cut_at size len (first + place))
cut_from size len first zero place [] block cuts found = absurd (cc)
cut_from size len first zero place (other ∷ blocks) block cuts found = absurd (cc)
cut_from size len first (suc count) place [] block cuts found = absurd (cc)
cut_from size len first (suc count) zero (other ∷ blocks) block cuts found =
    let here : cut_of other ≡ cut_at size len first = cc in
    let same : other ≡ block = cc in
    let there : first ≡ first + 0 = omega arith in
    (omega arith, ap cut_of (sym same) ∙ here ∙ ap (λ k. cut_at size len k) there)
cut_from size len first (suc count) (suc place) (other ∷ blocks) block cuts found =
    let later : map cut_of blocks ≡ map (λ k. cut_at size len k) (range_with_len (first + 1) count) = cc in
    let more = cut_from size len (first + 1) count place blocks block later found in
    let there : first + 1 + place ≡ first + suc place = omega arith in
    (omega (arith, more.0), more.1 ∙ ap (λ k. cut_at size len k) there)

-- the block at a place has what is left of the file there, up to a whole block
pub cut_block : (size len place : ℕ) (blocks : List Block) (block : Block) → CutWhole size len blocks → slice_get blocks place ≡ Some block →
    (place < block_count size len) × (block.size ≡ min size (len - place * size))
cut_block size len place blocks block whole found =
    let here = cut_from size len 0 (block_count size len) place blocks block whole found in
    let there : 0 + place ≡ place = omega arith in
    (here.0, ap (λ (cut : ℕ × ℕ). cut.1) (here.1 ∙ ap (λ k. cut_at size len k) there))
