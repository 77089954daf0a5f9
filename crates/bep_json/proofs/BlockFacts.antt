-- The blocks of some hashes: their cuts, their hashes, and how many they are.
use Rattle.std.proofs.Common.{◌≡◌, ◌≤◌, ℕ, ◌+◌, ◌-◌, ◌*◌, min, List, [], ◌∷◌, length, map, refl, ap, sym, ◌∙◌, arith}
use Rattle.std.specs.List.{range_with_len}
use Rattle.std.proofs.lemmas.List.{length-map}
use Rattle.std.proofs.lemmas.List.FromFn.{length-map-range_with_len}
use Rattle.bep_record.specs.Block.{block_count, block_size_of, cut_at, CutWhole}
use Rattle.bep_record.specs.declared.block.Block.{Block}
use Rattle.bep_record.proofs.BlockSizeFacts.{begins_within}
use Rattle.bep_json.specs.Records.{blocks_from}

abbrev pub place_of : Block → ℕ × ℕ
place_of b = (b.offset, b.size)

pub blocks_from-hashes : (size offset : ℕ) (hashes : List (List ℕ)) → map (λ b. b.hash) (blocks_from size offset hashes) ≡ hashes
blocks_from-hashes size offset [] = refl
blocks_from-hashes size offset (hash ∷ more) = ap (λ hs. hash ∷ hs) (blocks_from-hashes size (offset + min (block_size_of size) (size - offset)) more)

-- the block at this place begins at its cut, if it isn't behind the file's end, and the next one where it ends
begins_at_cut : (blocks size k offset : ℕ) → k * blocks ≤ size → offset ≡ min (k * blocks) size → offset ≡ k * blocks
begins_at_cut blocks size k offset before here = omega arith

next_begins : (blocks size k offset : ℕ) → offset ≡ k * blocks → k * blocks ≤ size → offset + min blocks (size - offset) ≡ min ((k + 1) * blocks) size
next_begins blocks size k offset here before = omega arith

cuts : (size k offset : ℕ) (hashes : List (List ℕ)) → k + length hashes ≤ block_count (block_size_of size) size → offset ≡ min (k * block_size_of size) size →
    map place_of (blocks_from size offset hashes) ≡ map (λ j. cut_at (block_size_of size) size j) (range_with_len k (length hashes))
cuts size k offset [] fits here = refl
cuts size k offset (hash ∷ more) fits here =
    let before = begins_within (block_size_of size) size k (omega arith) in
    let begins = begins_at_cut (block_size_of size) size k offset before here in
    let cut : (offset, min (block_size_of size) (size - offset)) ≡ cut_at (block_size_of size) size k = ap (λ o. (o, min (block_size_of size) (size - o))) begins in
    let next = offset + min (block_size_of size) (size - offset) in
    let later = cuts size (k + 1) next more (omega arith) (next_begins (block_size_of size) size k offset begins before) in
    ap (λ c. c ∷ map place_of (blocks_from size next more)) cut ∙ ap (λ cs. cut_at (block_size_of size) size k ∷ cs) later

pub cut_whole-where_counted : (size : ℕ) (hashes : List (List ℕ)) → length hashes ≡ block_count (block_size_of size) size → CutWhole (block_size_of size) size (blocks_from size 0 hashes)
cut_whole-where_counted size hashes counted =
    cuts size 0 0 hashes (omega arith) (omega arith) ∙ ap (λ n. map (λ j. cut_at (block_size_of size) size j) (range_with_len 0 n)) counted

pub counted-where_cut_whole : (size : ℕ) (hashes : List (List ℕ)) → CutWhole (block_size_of size) size (blocks_from size 0 hashes) → length hashes ≡ block_count (block_size_of size) size
counted-where_cut_whole size hashes whole =
    let blocks = blocks_from size 0 hashes in
    ap length (sym (blocks_from-hashes size 0 hashes))
    ∙ length-map blocks (λ b. b.hash)
    ∙ sym (length-map blocks place_of)
    ∙ ap length whole
    ∙ length-map-range_with_len (λ k. cut_at (block_size_of size) size k) 0 (block_count (block_size_of size) size)
