-- A list of blocks that is made of hashes: one block more, and that it is the only one.
use Rattle.std.proofs.Common.{◌≡◌, ℕ, ◌+◌, ◌<◌, List, [], ◌∷◌, ◌++◌, length, get_or, take, map, refl, ap, sym, ◌∙◌, arith}
use Rattle.std.specs.List.{range_with_len}
use Rattle.std.proofs.lemmas.List.{map_push, take_more}
use Rattle.std.proofs.lemmas.List.FromFn.{map-range_with_len_more}
use Rattle.bep_record.specs.Block.{CutWhole, cut_at}
use Rattle.bep_record.specs.declared.block.Block.{Block}

-- where a block begins, and its size
abbrev cut_of : Block → ℕ × ℕ
cut_of block = (block.offset, block.size)

pub cuts-more : (block_size len k : ℕ) (list : List Block) (block : Block) →
    map (λ b. (b.offset, b.size)) list ≡ map (λ j. cut_at block_size len j) (range_with_len 0 k) →
    (block.offset, block.size) ≡ cut_at block_size len k →
    map (λ b. (b.offset, b.size)) (list ++ block ∷ []) ≡ map (λ j. cut_at block_size len j) (range_with_len 0 (k + 1))
cuts-more block_size len k list block before here =
    let push = map_push cut_of list block in
    let more = map-range_with_len_more (λ j. cut_at block_size len j) 0 k k (omega arith) in
    cc

pub hashes-more : (hashes : List (List ℕ)) (k : ℕ) (list : List Block) (block : Block) (d : List ℕ) → k < length hashes →
    map (λ b. b.hash) list ≡ take k hashes → block.hash ≡ get_or hashes k d →
    map (λ b. b.hash) (list ++ block ∷ []) ≡ take (k + 1) hashes
hashes-more hashes k list block d within before here =
    let push = map_push (λ (b : Block). b.hash) list block in
    let more = take_more hashes k d within in
    cc

abbrev block_with : ℕ × ℕ → List ℕ → Block
block_with cut hash = record { offset = cut.0; size = cut.1; hash = hash }

-- blocks are told by their cuts and hashes
told : (these those : List Block) → map cut_of these ≡ map cut_of those →
    map (λ b. b.hash) these ≡ map (λ b. b.hash) those → these ≡ those
told [] [] cuts hashes = refl
told [] (b ∷ those) cuts hashes = cc
told (a ∷ these) [] cuts hashes = cc
told (a ∷ these) (b ∷ those) cuts hashes =
    let more_cuts : map cut_of these ≡ map cut_of those = cc in
    let more_hashes : map (λ b. b.hash) these ≡ map (λ b. b.hash) those = cc in
    let later = told these those more_cuts more_hashes in
    let cut : cut_of a ≡ cut_of b = cc in
    let hash : a.hash ≡ b.hash = cc in
    let same : a ≡ b = ap (λ c. block_with c a.hash) cut ∙ ap (λ h. block_with (cut_of b) h) hash in
    cc

pub hashes-tell : (block_size len : ℕ) (these those : List Block) →
    CutWhole block_size len these → CutWhole block_size len those →
    map (λ b. b.hash) these ≡ map (λ b. b.hash) those → these ≡ those
hashes-tell block_size len these those cut_these cut_those hashes = told these those (cut_these ∙ sym cut_those) hashes
